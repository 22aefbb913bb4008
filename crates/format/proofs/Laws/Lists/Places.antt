-- Places: they rise, so one entry stands at a place; and an erase answers for each entry of the list.
use Rattle.std.specs.Prelude.{◌≡◌, refl, true, List, [], ◌∷◌, ◌++◌, ℕ, zero, suc, pred, ◌+◌, ◌≤◌, length, take, drop, set}
use Rattle.std.proofs.Common.{sym, ap, ◌∙◌, subst, arith, add-zero, zero-add, suc-add, add-suc, eqb-true}
use Rattle.format.specs.Figures.{used_limit, number_bytes}
use Rattle.format.proofs.Laws.Cases.{by_test, from_zero_one}
use Rattle.format.proofs.Laws.Bytes.{same_equal}
use Rattle.format.specs.Uris.{type_name, header_name}
use Rattle.format.specs.Register.{Names, named_uri}
use Rattle.format.specs.Records.{plain, header, assignment, Entry, Item, padding, deleted, live, Got, bad, got, element, logbook, at_header, item}
use Rattle.format.specs.Reading.{here, look}
use Rattle.format.specs.Calls.{Book, parts, book_of, sound, Call, erase, erase_entry, erase_item, erase_looked, call, called, call_on}
use Rattle.format.specs.Grammar.{Listed, listed_at, Writing}
use Rattle.format.specs.Entries.{told, entries_of, Rises, EraseAnswer, goes, header_stays, type_stays}
use Rattle.format.proofs.Laws.Order.Items.{got_item, Judgement, gone, entry, heading, assigning, judgement, Form, form, size_form, past_start, item_element, item_header, look_here, look_on, look_start}
use Rattle.format.proofs.Laws.Order.Changes.{head_entry, head_item}
use Rattle.format.proofs.Laws.Order.Runs.{sound_book, parted_book}
use Rattle.format.proofs.Laws.Lists.Rolls.{roll, roll_got, roll_bad}
use Rattle.format.proofs.Laws.Lists.Parsing.{other_name, read_writing}
use Rattle.format.proofs.Laws.Lists.Steps.{entries_roll, on_sound}

-- ---- a live entry stands at its place, and its kind goes by its URI; of an assignment also by its data: a number, then a URI
pub data Sort (e : Entry) : Type 0 where
  plainly : e.kind ≡ plain → (e.uri ≡ header_name → ⊥) → (e.uri ≡ type_name → ⊥) → Sort e
  as_header : e.kind ≡ header → e.uri ≡ header_name → Sort e
  as_type : (n m : ℕ) → e.kind ≡ assignment n (e.data_place + m) (drop m e.bytes) → e.uri ≡ type_name → Writing number_bytes (take m e.bytes) n
      → Sort e

abbrev pub Tells : ℕ → Entry → Type 0
Tells p e = (e.place ≡ p) × Sort e

pub not_deleted_lem : {P : Type 0} {p k n : ℕ} {e : Entry} → deleted p k n ≡ live e → P
not_deleted_lem v = from_zero_one (cc)

pub not_padding : {P : Type 0} {p : ℕ} {e : Entry} → padding p ≡ live e → P
not_padding v = from_zero_one (cc)

pub live_entry : {d e : Entry} → live d ≡ live e → d ≡ e
live_entry v = cc

judged_tells : (p k : ℕ) (w b : List ℕ) (n : ℕ) (g h : Names) (i : Item) (m : ℕ) (e : Entry) → i ≡ live e → Judgement p k w b n g i m h → Tells p e
judged_tells p k w b n g h i m e v (gone j r) = not_deleted_lem v
judged_tells p k w b n g h i m e v (entry a j u r s x y) = subst (Tells p) (live_entry v) (refl, plainly refl (other_name (named_uri u) header_name x) (other_name (named_uri u) type_name y))
judged_tells p k w b n g h i m e v (heading a j u r s x f) = subst (Tells p) (live_entry v) (refl, as_header refl (same_equal (named_uri u) header_name x))
judged_tells p k w b n g h i m e v (assigning a j c l u r s x y q f z) =
    subst (Tells p) (live_entry v) (refl, as_type (suc c) l refl (same_equal (named_uri u) type_name y) (read_writing (drop j b) (suc c) l q))

form_tells : (g h : Names) (p n : ℕ) (l : List ℕ) (e : Entry) → Form g p l (live e) n h → Tells p e
form_tells g h p n l e (form a b ys c m j z) =
    judged_tells p (length a) (a ++ b) b (pred (length a + length b)) g h (live e) n e refl (judgement p (length a) (a ++ b) b (pred (length a + length b)) g j)

element_tells : (g h : Names) (p x n : ℕ) (xs : List ℕ) (e : Entry) → element g p x xs ≡ got (live e) n h → Tells p e
unfolding element
element_tells g h p zero n xs e q = not_padding (got_item q)
element_tells g h p (suc x) n xs e q = form_tells g h p n (suc x ∷ xs) e (size_form g h p n (suc x ∷ xs) (live e) q)

head_tells : (p : ℕ) (l : List ℕ) (e : Entry) → p ≡ 0 → live e ≡ live (head_entry l) → Tells p e
head_tells p l e z v = rw z (subst (Tells 0) (sym (live_entry v)) (refl, as_header refl refl))

pub item_tells : (g h : Names) (p x n : ℕ) (xs : List ℕ) (e : Entry) → item logbook g p x xs ≡ got (live e) n h → Tells p e
item_tells g h p x n xs e q =
    by_test (at_header logbook p)
    (λ f. head_tells p (x ∷ xs) e (eqb-true p 0 f) (head_item (x ∷ xs) (live e) n h (sym (item_header logbook g p x xs f) ∙ q)).0)
    (λ f. element_tells g h p x n xs e (sym (item_element logbook g p x xs f) ∙ q))

-- ---- places rise
rises_lower : (a b : ℕ) (es : List Listed) → a ≤ b → Rises b es → Rises a es
unfolding Rises
rises_lower a b [] h r = tt
rises_lower a b (e ∷ es) h (x, r) = (omega arith, r)

rises_item : (g h : Names) (p x n : ℕ) (l : List ℕ) (i : Item) (es : List Listed) → item logbook g p x l ≡ got i n h → Rises (suc p + n) es → Rises p (told i ++ es)
unfolding Rises told
rises_item g h p x n l (padding q) es e r = rises_lower p (suc p + n) es (omega arith) r
rises_item g h p x n l (deleted q k m) es e r = rises_lower p (suc p + n) es (omega arith) r
rises_item g h p x n l (live d) es e r =
    let z : d.place ≡ p = (item_tells g h p x n l d e).0 in
    (omega arith, rises_lower (suc d.place) (suc p + n) es (omega arith) r)

roll_rises : (k : ℕ) (g : Names) (p : ℕ) (l : List ℕ) → Rises (p + k) (roll logbook k g p l)
unfolding roll Rises
roll_rises zero g p [] = tt
roll_rises (suc k) g p [] = tt
roll_rises (suc k) g p (x ∷ l) = rw (add-suc, ← suc-add) (roll_rises k g (suc p) l)
roll_rises zero g p (x ∷ l) = rw add-zero (go (λ n h. roll_rises n h (suc p) l) (item logbook g p x l) refl)
  where
    go : ((n : ℕ) (h : Names) → Rises (suc p + n) (roll logbook n h (suc p) l)) → (v : Got) → item logbook g p x l ≡ v → Rises p (roll logbook 0 g p (x ∷ l))
    go ih (bad r) q = rw (roll_bad logbook g p x r l q) tt
    go ih (got i n h) q = rw (roll_got logbook g h p x n l i q) (rises_item g h p x n l i (roll logbook n h (suc p) l) q (ih n h))

pub places_rise : (b : Book) → sound b ≡ true → Rises 0 (entries_of b)
places_rise b e = on_sound (λ (c : Book). Rises 0 (entries_of c)) (λ l rest s. rw (entries_roll l rest s) (roll_rises 0 [] 0 l)) b e

pub not_nil : {A P : Type 0} (xs ys : List A) (e : A) → [] ≡ xs ++ (e ∷ ys) → P
not_nil [] ys e q = from_zero_one (cc)
not_nil (x ∷ xs) ys e q = from_zero_one (cc)

rises_apart : (b : ℕ) (es : List Listed) → Rises b es → (xs ys : List Listed) (e : Listed) → es ≡ xs ++ (e ∷ ys) → b ≤ e.place
unfolding Rises
rises_apart b [] r xs ys e q = not_nil xs ys e q
rises_apart b (f ∷ es) (h, r) [] ys e q = let z : f ≡ e = cc in rw (← z) h
rises_apart b (f ∷ es) (h, r) (x ∷ xs) ys e q = let z : es ≡ xs ++ (e ∷ ys) = cc in omega (arith, rises_apart (suc f.place) es r xs ys e z)

-- so two entries of a list that stand at one place are one
pub one_at_place : (b : ℕ) (es : List Listed) → Rises b es → (xs ys xs1 ys1 : List Listed) (e f : Listed) → es ≡ xs ++ (e ∷ ys) → es ≡ xs1 ++ (f ∷ ys1) → e.place ≡ f.place
    → (xs ≡ xs1) × (e ≡ f) × (ys ≡ ys1)
unfolding Rises
one_at_place b [] r xs ys xs1 ys1 e f p q s = not_nil xs ys e p
one_at_place b (a ∷ es) (h, r) [] ys [] ys1 e f p q s = (refl, cc, cc)
one_at_place b (a ∷ es) (h, r) [] ys (x1 ∷ xs1) ys1 e f p q s =
    let z : es ≡ xs1 ++ (f ∷ ys1) = cc in
    let y : a ≡ e = cc in
    absurd (omega (arith, rises_apart (suc a.place) es r xs1 ys1 f z, ap (λ (t : Listed). t.place) y))
one_at_place b (a ∷ es) (h, r) (x ∷ xs) ys [] ys1 e f p q s =
    let z : es ≡ xs ++ (e ∷ ys) = cc in
    let y : a ≡ f = cc in
    absurd (omega (arith, rises_apart (suc a.place) es r xs ys e z, ap (λ (t : Listed). t.place) y))
one_at_place b (a ∷ es) (h, r) (x ∷ xs) ys (x1 ∷ xs1) ys1 e f p q s =
    let z : es ≡ xs ++ (e ∷ ys) = cc in
    let z1 : es ≡ xs1 ++ (f ∷ ys1) = cc in
    let w = one_at_place (suc a.place) es r xs ys xs1 ys1 e f z z1 s in
    let y : a ≡ x = cc in
    let y1 : a ≡ x1 = cc in
    (rw (← y, ← y1, w.0), w.1, w.2)

-- ---- what the list shows at a place is found there
record Found (k : ℕ) (g : Names) (p : ℕ) (l : List ℕ) (e : Listed) : Type 0 where
  on : ℕ
  stands : e.place ≡ p + on
  entry : Entry
  named : e.uri ≡ entry.uri
  sort : Sort entry
  looks : look logbook on k g p l ≡ here (live entry)

found_on : (g h : Names) (p x n : ℕ) (xs : List ℕ) (i : Item) (e : Listed) → item logbook g p x xs ≡ got i n h → Found n h (suc p) xs e → Found 0 g p (x ∷ xs) e
found_on g h p x n xs i e q f =
    record {
      on = suc f.on;
      stands = f.stands ∙ rw (suc-add, add-suc);
      entry = f.entry;
      named = f.named;
      sort = f.sort;
      looks = look_on logbook f.on g h p x n xs i q ∙ f.looks;
    }

found_item : (g h : Names) (p x n : ℕ) (l : List ℕ) (i : Item) (xs ys : List Listed) (e : Listed) → ((zs : List Listed) → roll logbook n h (suc p) l ≡ zs ++ (e ∷ ys) → Found n h (suc p) l e)
    → item logbook g p x l ≡ got i n h → told i ++ roll logbook n h (suc p) l ≡ xs ++ (e ∷ ys) → Found 0 g p (x ∷ l) e
unfolding told
found_item g h p x n l (padding c) xs ys e ih q r = found_on g h p x n l (padding c) e q (ih xs r)
found_item g h p x n l (deleted c k m) xs ys e ih q r = found_on g h p x n l (deleted c k m) e q (ih xs r)
found_item g h p x n l (live d) [] ys e ih q r =
    let z : listed_at d.place d.uri d.bytes ≡ e = cc in
    let t : Tells p d = item_tells g h p x n l d q in
    subst (Found 0 g p (x ∷ l)) z (record { on = 0; stands = t.0 ∙ rw add-zero; entry = d; named = refl; sort = t.1; looks = look_here logbook g h p x n l (live d) q })
found_item g h p x n l (live d) (y ∷ xs) ys e ih q r = let z : roll logbook n h (suc p) l ≡ xs ++ (e ∷ ys) = cc in found_on g h p x n l (live d) e q (ih xs z)

find : (k : ℕ) (g : Names) (p : ℕ) (l : List ℕ) (xs ys : List Listed) (e : Listed) → roll logbook k g p l ≡ xs ++ (e ∷ ys) → Found k g p l e
unfolding roll look
find zero g p [] xs ys e r = not_nil xs ys e r
find (suc k) g p [] xs ys e r = not_nil xs ys e r
find (suc k) g p (x ∷ l) xs ys e r = up (find k g (suc p) l xs ys e r)
  where
    up : Found k g (suc p) l e → Found (suc k) g p (x ∷ l) e
    up f = record { on = suc f.on; stands = f.stands ∙ rw (suc-add, add-suc); entry = f.entry; named = f.named; sort = f.sort; looks = f.looks }
find zero g p (x ∷ l) xs ys e r = go (λ n h zs q. find n h (suc p) l zs ys e q) (item logbook g p x l) refl
  where
    go : ((n : ℕ) (h : Names) (zs : List Listed) → roll logbook n h (suc p) l ≡ zs ++ (e ∷ ys) → Found n h (suc p) l e) → (v : Got) → item logbook g p x l ≡ v → Found 0 g p (x ∷ l) e
    go ih (bad y) q = not_nil xs ys e (sym (roll_bad logbook g p x y l q) ∙ r)
    go ih (got i n h) q = found_item g h p x n l i xs ys e (ih n h) q (sym (roll_got logbook g h p x n l i q) ∙ r)

-- ---- an erase answers for each entry of the list
pub call_sound : (c : Call) (l rest : List ℕ) → length l ≤ used_limit → call_on logbook c (book_of (parts l rest)) ≡ called (call logbook c (parts l rest))
unfolding call_on
call_sound c l rest b = rw (sound_book logbook l rest b, parted_book logbook l rest)

look_nil : {P : Type 0} (d : ℕ) (i : Item) → look logbook d 0 [] 0 [] ≡ here i → P
unfolding look
look_nil d i e = from_zero_one (cc)

erase_found : (q : ℕ) (l rest u c : List ℕ) (f : Found 0 [] 0 l (listed_at q u c)) → call logbook (erase q) (parts l rest) ≡ erase_entry f.entry.kind q f.entry.type_place (parts l rest)
unfolding call erase_looked erase_item
erase_found q [] rest u c f = look_nil f.on (live f.entry) f.looks
erase_found q (x ∷ l) rest u c f =
    let z : f.on ≡ q = sym (f.stands ∙ zero-add f.on) in
    let y : look logbook q 0 [] 0 (x ∷ l) ≡ here (live f.entry) = rw z at f.looks in
    rw (look_start logbook q (x ∷ l) (past_start logbook (suc (length l)) (omega arith)), y)

answer_of : (l rest : List ℕ) → length l ≤ used_limit → (q : ℕ) (u c : List ℕ) (f : Found 0 [] 0 l (listed_at q u c)) → Sort f.entry → EraseAnswer (book_of (parts l rest)) q u
unfolding erase_entry
answer_of l rest b q u c f (plainly k x y) =
    goes f.entry.type_place (book_of (parts (set l f.entry.type_place 0) rest)) (λ e. x (sym f.named ∙ e)) (λ e. y (sym f.named ∙ e))
    (call_sound (erase q) l rest b ∙ rw (erase_found q l rest u c f, k))
answer_of l rest b q u c f (as_header k x) = header_stays (f.named ∙ x) (call_sound (erase q) l rest b ∙ rw (erase_found q l rest u c f, k))
answer_of l rest b q u c f (as_type n m k x w) = type_stays (f.named ∙ x) (call_sound (erase q) l rest b ∙ rw (erase_found q l rest u c f, k))

answers_at : (l rest : List ℕ) → length l ≤ used_limit → (q : ℕ) (u c : List ℕ) (xs ys : List Listed) → entries_of (book_of (parts l rest)) ≡ xs ++ (listed_at q u c ∷ ys) → EraseAnswer (book_of (parts l rest)) q u
answers_at l rest b q u c xs ys e =
    let f : Found 0 [] 0 l (listed_at q u c) = find 0 [] 0 l xs ys (listed_at q u c) (sym (entries_roll l rest b) ∙ e) in
    answer_of l rest b q u c f f.sort

-- each entry of the list but headers and assignments is erased when asked for; those are refused by 9
pub erase_answers : (b : Book) → sound b ≡ true → (q : ℕ) (u c : List ℕ) (xs ys : List Listed) → entries_of b ≡ xs ++ (listed_at q u c ∷ ys) → EraseAnswer b q u
erase_answers b s = on_sound (λ (d : Book). (q : ℕ) (u c : List ℕ) (xs ys : List Listed) → entries_of d ≡ xs ++ (listed_at q u c ∷ ys) → EraseAnswer d q u) answers_at b s
