-- Demand 2 for erase and wipe: of every book, whether it is read to its end or not.
use Rattle.std.specs.Prelude.{◌≡◌, ℕ, suc, min, ◌+◌, ◌≤◌, ◌<◌, length, take, drop, set}
use Rattle.std.proofs.Math.Path.{refl, sym, subst}
use Rattle.std.proofs.Common.{ap, ◌∙◌, arith, take_at, drop_at}
use mathlib.Core.List.{List, [], ◌∷◌, ◌++◌, append_assoc}
use Rattle.std.proofs.lemmas.List.{set-append_left}
use Rattle.format.specs.Figures.{used_limit}
use Rattle.format.proofs.Laws.Cases.{by_test, from_zero_one}
use Rattle.format.specs.Records.{Refusal, refusal, Kind, plain, header, assignment, Entry, padding, deleted, live, logbook, at_header}
use Rattle.format.specs.Reading.{walk, Look, passed, halt, here, look, look_at}
use Rattle.format.specs.Calls.{used_bytes, Book, Parts, parts, parted, book_of, sound, Call, erase, wipe, Answer, erased, wiped, denied, Left, erase_entry, erase_item, erase_looked, store, stores, nonzeros, splice, wipe_item, wipe_looked, call, Called, called, call_on}
use Rattle.format.specs.Stores.{differ, OneStore, StoreAt}
use Rattle.format.specs.Grammar.{Listed, listed_at, Register, Logbook}
use Rattle.format.specs.Entries.{told, entries_of, ending_of, TypeByte, Without, Wipes}
use Rattle.format.proofs.Laws.Order.Items.{look_spot}
use Rattle.format.proofs.Laws.Order.Wiping.{stores_length}
use Rattle.format.proofs.Laws.Order.Runs.{sound_parts}
use Rattle.format.proofs.Laws.Lists.Stores.{store_left, store_right, one_store, store_at, stores_next, stores_nonzeros, stores_min, stores_differ, differ_middle}
use Rattle.format.proofs.Laws.Lists.Rolls.{roll}
use Rattle.format.proofs.Laws.Lists.Parsing.{walk_logbook}
use Rattle.format.proofs.Laws.Lists.Walking.{parse_logbook, logbook_long}
use Rattle.format.proofs.Laws.Lists.Steps.{entries_roll, ending_walk, used_of}
use Rattle.format.proofs.Laws.Lists.Keeping.{Changed, erase_list, WipingAt, wipe_list}

-- ---- a call that isn't refused was made on a sound book
pub record Made (c : Call) (b : Book) (a : Answer) (b1 : Book) : Type 0 where
  pub log : List ℕ
  pub rest : List ℕ
  pub left : Parts
  pub small : length log ≤ used_limit
  pub is : b ≡ book_of (parts log rest)
  pub does : call logbook c (parts log rest) ≡ (a, left)
  pub now : b1 ≡ book_of left

pub made_of : (c : Call) (b b1 : Book) (a : Answer) → (denied (refusal 1 0) ≡ a → ⊥) → call_on logbook c b ≡ record { answer = a; book = b1 } → Made c b a b1
unfolding call_on parted
made_of c b b1 a ne e =
    by_test (sound b)
    (λ q. let p = sound_parts logbook b q in
    let x : called (call logbook c (parted b)) ≡ record { answer = a; book = b1 } = rw q at e in
    let y : (call logbook c (parted b)).0 ≡ a = ap (λ (z : Called). z.answer) x in
    record {
      log = take b.used b.buffer;
      rest = drop b.used b.buffer;
      left = (call logbook c (parted b)).1;
      small = p.1;
      is = p.0;
      does = rw (← y);
      now = sym (ap (λ (z : Called). z.book) x);
    })
    (λ q. absurd (ne (ap (λ (z : Called). z.answer) (rw q at e))))

pub answer_of : {a : Answer} {s : Parts} {l : Left} → l ≡ (a, s) → l.0 ≡ a
answer_of e = ap (λ (l : Left). l.0) e

left_of : {a : Answer} {s : Parts} {l : Left} → l ≡ (a, s) → l.1 ≡ s
left_of e = ap (λ (l : Left). l.1) e

-- ---- an erase
not_erased : {P : Type 0} {x : Refusal} {s s1 : Parts} {t : ℕ} → ◌≡◌ {A = Left} (denied x, s) (erased t, s1) → P
not_erased e = from_zero_one (let d = answer_of e in cc)

erased_place : {t u : ℕ} → erased t ≡ erased u → t ≡ u
erased_place e = cc

pub record ErasedAt (q t : ℕ) (s s1 : Parts) : Type 0 where
  pub entry : Entry
  pub looks : look logbook q 0 [] 0 s.log ≡ here (live entry)
  pub is_plain : entry.kind ≡ plain
  pub place : t ≡ entry.type_place
  pub after : s1 ≡ parts (set s.log entry.type_place 0) s.rest

module _ (q t : ℕ) (s s1 : Parts) where
  erased_entry : (e : Entry) (k : Kind) → look logbook q 0 [] 0 s.log ≡ here (live e) → e.kind ≡ k → erase_entry k q e.type_place s ≡ (erased t, s1) → ErasedAt q t s s1
  unfolding erase_entry
  erased_entry e plain l k d = record { entry = e; looks = l; is_plain = k; place = sym (erased_place (answer_of d)); after = sym (left_of d) }
  erased_entry e header l k d = not_erased d
  erased_entry e (assignment n a u) l k d = not_erased d

  erased_looked : (v : Look) → look logbook q 0 [] 0 s.log ≡ v → erase_looked q v s ≡ (erased t, s1) → ErasedAt q t s s1
  unfolding erase_looked erase_item
  erased_looked passed l d = not_erased d
  erased_looked (halt r) l d = not_erased d
  erased_looked (here (padding p)) l d = not_erased d
  erased_looked (here (deleted p k n)) l d = not_erased d
  erased_looked (here (live e)) l d = erased_entry e e.kind l refl d

  pub erased_at : call logbook (erase q) s ≡ (erased t, s1) → ErasedAt q t s s1
  unfolding call look_at erase_looked
  erased_at d =
      by_test (at_header logbook (length s.log))
      (λ h. not_erased (rw h at d))
      (λ h. erased_looked (look logbook q 0 [] 0 s.log) refl (rw h at d))

-- a list stays one of the grammar where the walk stays the same
pub still : (l l1 : List ℕ) (es fs : List Listed) (r : Register) → walk logbook 0 [] 0 l1 ≡ walk logbook 0 [] 0 l → length l1 ≡ length l → roll logbook 0 [] 0 l1 ≡ fs → Logbook l es r → Logbook l1 fs r
still l l1 es fs r w n e k =
    let x = parse_logbook k in
    rw (← e, ← x.means) (walk_logbook l1 x.names (omega (arith, logbook_long k)) (w ∙ x.part.walks))

-- the ending of a book whose walk is the same
same_ending_lem : (l l1 rest : List ℕ) → length l ≤ used_limit → walk logbook 0 [] 0 l1 ≡ walk logbook 0 [] 0 l → length l1 ≡ length l → ending_of (book_of (parts l1 rest)) ≡ ending_of (book_of (parts l rest))
same_ending_lem l l1 rest b w n = ending_walk l1 rest (omega arith) ∙ rw (w, n) (sym (ending_walk l rest b))

module _ (l rest : List ℕ) (b : length l ≤ used_limit) where
  erase_books : (q t : ℕ) (u c : List ℕ) → t < length l → TypeByte l q t → Changed l (set l t 0) (listed_at q u c ∷ []) [] → Without (book_of (parts l rest)) (book_of (parts (set l t 0) rest)) q t
  unfolding book_of
  erase_books q t u c h y x =
      record {
        uri = u;
        bytes = c;
        before = x.before;
        behind = x.behind;
        was = entries_roll l rest b ∙ x.was;
        now = entries_roll (set l t 0) rest (omega (arith, x.same_length)) ∙ x.now;
        same_ending = same_ending_lem l (set l t 0) rest b x.same_walk x.same_length;
        same_register = λ es r k. rw (used_of (set l t 0) rest) (still l (set l t 0) es (x.before ++ x.behind) r x.same_walk x.same_length x.now (rw (used_of l rest) at k));
        same_used = x.same_length;
        type_byte = subst (λ (v : List ℕ). TypeByte v q t) (sym (used_of l rest)) y;
        one_byte = sym (set-append_left l rest t 0 h);
      }

  erase_entry_lem : (q : ℕ) (e : Entry) → look logbook q 0 [] 0 l ≡ here (live e) → e.kind ≡ plain → Without (book_of (parts l rest)) (book_of (parts (set l e.type_place 0) rest)) q e.type_place
  unfolding told
  erase_entry_lem q e h k =
      let x = erase_list l q e k (look_spot logbook q 0 [] 0 l (live e) h) in
      let c : Changed l (set l (q + x.width) 0) (listed_at q e.uri e.bytes ∷ []) []
      = subst (λ (p : ℕ). Changed l (set l (q + x.width) 0) (listed_at p e.uri e.bytes ∷ []) []) x.stands x.change in
      subst (λ (t : ℕ). Without (book_of (parts l rest)) (book_of (parts (set l t 0) rest)) q t) (sym x.place) (erase_books q (q + x.width) e.uri e.bytes x.inside x.type_byte c)

without_as : (b c b1 c1 : Book) (q t u : ℕ) → b ≡ c → b1 ≡ c1 → t ≡ u → Without c c1 q u → Without b b1 q t
without_as b c b1 c1 q t u d e f w = rw (d, e, f) w

erase_made : (q t : ℕ) (b b1 : Book) → Made (erase q) b (erased t) b1 → Without b b1 q t
erase_made q t b b1 m =
    let e = erased_at q t (parts m.log m.rest) m.left m.does in
    without_as b (book_of (parts m.log m.rest)) b1 (book_of (parts (set m.log e.entry.type_place 0) m.rest)) q t e.entry.type_place m.is (m.now ∙ ap book_of e.after) e.place
    (erase_entry_lem m.log m.rest m.small q e.entry e.looks e.is_plain)

-- an erase takes out exactly the entry at the asked place
pub erase_exact : (q t : ℕ) (b b1 : Book) → call_on logbook (erase q) b ≡ record { answer = erased t; book = b1 } → Without b b1 q t
erase_exact q t b b1 e = erase_made q t b b1 (made_of (erase q) b b1 (erased t) (λ d. from_zero_one (cc)) e)

-- ---- a wipe
not_wiped : {P : Type 0} {x : Refusal} {s s1 : Parts} {t : ℕ} → ◌≡◌ {A = Left} (denied x, s) (wiped t, s1) → P
not_wiped e = from_zero_one (let d = answer_of e in cc)

wiped_count : {t u : ℕ} → wiped t ≡ wiped u → t ≡ u
wiped_count e = cc

record WipedAt (q m n : ℕ) (s s1 : Parts) : Type 0 where
  place : ℕ
  width : ℕ
  long : ℕ
  looks : look logbook q 0 [] 0 s.log ≡ here (deleted place width long)
  count : n ≡ min m (nonzeros (take (width + long) (drop q s.log)))
  after : s1 ≡ parts (splice q (width + long) (stores m width) s.log) s.rest

module _ (q m n : ℕ) (s s1 : Parts) where
  wiped_looked : (v : Look) → look logbook q 0 [] 0 s.log ≡ v → wipe_looked q m v s ≡ (wiped n, s1) → WipedAt q m n s s1
  unfolding wipe_looked wipe_item
  wiped_looked passed l d = not_wiped d
  wiped_looked (halt r) l d = not_wiped d
  wiped_looked (here (padding p)) l d = not_wiped d
  wiped_looked (here (live e)) l d = not_wiped d
  wiped_looked (here (deleted p k j)) l d = record { place = p; width = k; long = j; looks = l; count = sym (wiped_count (answer_of d)); after = sym (left_of d) }

  wiped_at : call logbook (wipe q m) s ≡ (wiped n, s1) → WipedAt q m n s s1
  unfolding call look_at wipe_looked
  wiped_at d =
      by_test (at_header logbook (length s.log))
      (λ h. not_wiped (rw h at d))
      (λ h. wiped_looked (look logbook q 0 [] 0 s.log) refl (rw h at d))

module _ (l rest : List ℕ) (b : length l ≤ used_limit) (q k j m n : ℕ) (x : WipingAt l q k j) (c : n ≡ min m (nonzeros x.body)) where
  -- the log after i stores
  after_stores : ℕ → List ℕ
  after_stores i = splice q (k + j) (stores i k) l

  store_buffer : (i : ℕ) → (book_of (parts (after_stores i) rest)).buffer ≡ x.low ++ (stores i k x.body ++ (x.high ++ rest))
  unfolding book_of after_stores
  store_buffer i = rw (x.spliced i) (simp append_assoc)

  store_first : after_stores 0 ≡ l
  unfolding after_stores stores
  store_first = x.spliced 0 ∙ sym x.splits

  store_last : after_stores n ≡ after_stores m
  unfolding after_stores
  store_last = x.spliced n ∙ rw (c, stores_min m k x.body) (sym (x.spliced m))

  store_long : (i : ℕ) → length (after_stores i) ≡ length l
  unfolding after_stores
  store_long i = (x.change i).same_length

  store_list : (i : ℕ) → entries_of (book_of (parts (after_stores i) rest)) ≡ entries_of (book_of (parts l rest))
  unfolding after_stores
  store_list i = entries_roll (after_stores i) rest (rw (store_long i) b) ∙ (x.change i).now ∙ sym (x.change i).was ∙ sym (entries_roll l rest b)

  store_ending : (i : ℕ) → ending_of (book_of (parts (after_stores i) rest)) ≡ ending_of (book_of (parts l rest))
  unfolding after_stores
  store_ending i = same_ending_lem l (after_stores i) rest b (x.change i).same_walk (x.change i).same_length

  store_register : (i : ℕ) (es : List Listed) (r : Register) → Logbook (used_bytes (book_of (parts l rest))) es r → Logbook (used_bytes (book_of (parts (after_stores i) rest))) es r
  unfolding after_stores
  store_register i es r h =
      let k1 : Logbook l es r = rw (used_of l rest) at h in
      rw (used_of (after_stores i) rest) (still l (after_stores i) es es r (x.change i).same_walk (x.change i).same_length ((x.change i).now ∙ sym (x.change i).was ∙ (parse_logbook k1).part.rolls) k1)

  store_some : (i : ℕ) → i < n → 1 ≤ nonzeros (stores i k x.body)
  store_some i h = omega (arith, stores_nonzeros i k x.body, c)

  store_single : (i : ℕ) → i < n → StoreAt k (stores i k x.body) (stores (suc i) k x.body)
  store_single i h = rw (stores_next i k x.body) (store_at k (stores i k x.body) (rw (stores_length i k x.body) x.width) (store_some i h))

  store_one : (i : ℕ) → i < n → OneStore (book_of (parts (after_stores i) rest)).buffer (book_of (parts (after_stores (suc i)) rest)).buffer
  store_one i h =
      let v : List ℕ = stores i k x.body in
      let t : List ℕ = x.high ++ rest in
      rw (store_buffer i, store_buffer (suc i), stores_next i k x.body)
      (store_right x.low (stores i k x.body ++ (x.high ++ rest)) (store k v ++ (x.high ++ rest)) (store_left v (store k v) (x.high ++ rest) (one_store k v (store_some i h))))

  first_buffer : (book_of (parts l rest)).buffer ≡ x.low ++ (x.body ++ (x.high ++ rest))
  unfolding book_of
  first_buffer = rw x.splits (simp append_assoc)

  store_differing : n ≡ differ (book_of (parts l rest)).buffer (book_of (parts (after_stores m) rest)).buffer
  store_differing =
      rw (first_buffer, store_buffer m)
      (c ∙ sym (stores_differ m k x.body) ∙ sym (differ_middle x.low x.body (stores m k x.body) (x.high ++ rest) (sym (stores_length m k x.body))))

  wipe_books : Wipes (book_of (parts l rest)) (book_of (parts (after_stores m) rest)) q m n
  unfolding book_of
  wipe_books =
      record {
        at = λ i. book_of (parts (after_stores i) rest);
        at_first = rw store_first;
        at_last = rw store_last;
        same_list = store_list;
        same_ending = store_ending;
        same_register = store_register;
        same_used = store_long;
        low = x.low;
        body = x.body;
        high = x.high ++ rest;
        splits = first_buffer;
        stands = x.stands;
        bytes = x.bytes;
        is_deleted = x.deleted_record;
        left = λ i. stores i k x.body;
        within = store_buffer;
        single = λ i h. subst (λ (z : ℕ). StoreAt z (stores i k x.body) (stores (suc i) k x.body)) x.sized (store_single i h);
        one_byte = store_one;
        count = c;
        differing = store_differing;
      }

wiped_body : (l : List ℕ) (q k j : ℕ) (x : WipingAt l q k j) → take (k + j) (drop q l) ≡ x.body
wiped_body l q k j x =
    ap (λ (v : List ℕ). take (k + j) (drop q v)) x.splits ∙ ap (take (k + j)) (drop_at x.low (x.body ++ x.high) q x.stands) ∙ take_at x.body x.high (k + j) x.long

wipe_made : (q m n : ℕ) (b b1 : Book) → Made (wipe q m) b (wiped n) b1 → Wipes b b1 q m n
unfolding after_stores
wipe_made q m n b b1 d =
    let l : List ℕ = d.log in
    let w = wiped_at q m n (parts l d.rest) d.left d.does in
    let x = wipe_list l q w.place w.width w.long (look_spot logbook q 0 [] 0 l (deleted w.place w.width w.long) w.looks) in
    let y : take (w.width + w.long) (drop q l) ≡ x.body = wiped_body l q w.width w.long x in
    rw (d.is, d.now, w.after) (wipe_books l d.rest d.small q w.width w.long m n x (rw y at w.count))

-- a wipe changes no list, after any single store of it, and counts its stores
pub wipe_exact : (q m n : ℕ) (b b1 : Book) → call_on logbook (wipe q m) b ≡ record { answer = wiped n; book = b1 } → Wipes b b1 q m n
wipe_exact q m n b b1 e = wipe_made q m n b b1 (made_of (wipe q m) b b1 (wiped n) (λ d. from_zero_one (cc)) e)
