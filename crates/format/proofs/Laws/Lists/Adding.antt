-- Demand 2 for append and assign: exactly the entry, and an assignment only where one is needed.
use Rattle.std.specs.Prelude.{◌≡◌, true, ◌&&◌, drop, leb}
use Rattle.std.proofs.Math.Path.{refl}
use Rattle.std.proofs.Common.{sym, ap, ◌∙◌, subst, arith, add_assoc, leb-true, eq-eqb, length-append, length-drop, drop_at}
use mathlib.Core.List.{List, [], ◌∷◌, ◌++◌, append_assoc, append-nil}
use Rattle.std.proofs.Math.Option.{Option, none, some, map}
use Prim.Native.Nat.{ℕ, zero, suc, pred, ◌+◌, ◌^◌, ◌≤◌, ◌<◌}
use Rattle.std.proofs.Math.Nat.{add-zero}
use Rattle.std.proofs.Math.ListN.{length}
use Rattle.std.proofs.Math.Seq.{drop-append-add}
use Rattle.format.proofs.Laws.Cases.{by_test, from_zero_one, and_left, and_right}
use Rattle.format.specs.Figures.{used_limit, size_bytes, number_bytes, number_limit, data_limit, uri_limit}
use Rattle.format.specs.Integers.{write_integer}
use Rattle.format.specs.Uris.{type_name, header_name, appendable}
use Rattle.format.proofs.Laws.Uris.{appendable_type, appendable_header}
use Rattle.format.specs.Register.{find, is_held, Rising, free_from, Named, Names, named_number, named_uri, uri_of, number_for}
use Rattle.format.proofs.Laws.Register.{holder_least, holder_none, free_bounds, free_not_held, free_least, row_of}
use Rattle.format.specs.Records.{Refusal, logbook, at_header, room_for, assignable}
use Rattle.format.specs.Reading.{Walked, whole, stop, walk, walk_all}
use Rattle.format.specs.Calls.{Book, used_bytes, Parts, parts, book_of, append, assign, appended, denied, Left, record_of, write, append_new, append_held, append_walked, assign_under, assign_walked, may_append, may_assign, call, call_on}
use Rattle.format.specs.Grammar.{Listed, listed_at, Writing, RecordOf, Register, change, Element, entry, assignment, removal, Sequence, done, more, Logbook, logbook as logbook_of}
use Rattle.format.specs.Entries.{Least, Free, Added, as_held, as_new, Grown, Appends, appends, stands_for, Assigns, assigns}
use Rattle.format.proofs.Laws.Requests.{AskedAppend, asked_append, AskedAssign, asked_assign}
use Rattle.format.proofs.Laws.Order.Items.{not_stop}
use Rattle.format.proofs.Laws.Order.Standing.{Number, Stands, stands_none, stands_more, walk_stands}
use Rattle.format.proofs.Laws.Order.Wiping.{size_of}
use Rattle.format.proofs.Laws.Order.Writing.{write_reads, number_long, held_by}
use Rattle.format.proofs.Laws.Order.Runs.{sound_book}
use Rattle.format.proofs.Laws.Lists.Shapes.{shape_allowed}
use Rattle.format.proofs.Laws.Lists.Rolls.{roll}
use Rattle.format.proofs.Laws.Lists.Registers.{meaning, of_room}
use Rattle.format.proofs.Laws.Lists.Parsing.{other_name, walk_logbook}
use Rattle.format.proofs.Laws.Lists.Steps.{past_of, used_of, entries_logbook}
use Rattle.format.proofs.Laws.Lists.Erasing.{Made, made_of, answer_of}

-- ---- a logbook and one element more
sequence_more : {r r1 r2 : Register} {p : ℕ} {x : List ℕ} {es : List Listed} → Sequence r p x es r1 → (w : List ℕ) (e : List Listed) → Element r1 (p + length x) w e r2 → Sequence r p (x ++ w) (es ++ e) r2
sequence_more {r2 = r2} (done {r = r} {p = p}) w e el =
    let z : Sequence r p (w ++ []) (e ++ []) r2 = more (rw add-zero at el) done in
    simp append-nil at z
sequence_more (more {p = p} {w = v} {x = x} {e = f} {es = es} a s) w e el =
    rw (append_assoc v x w, append_assoc f es e) (more a (sequence_more s w e (rw (length-append v x, ← (add_assoc p (length v) (length x))) at el)))

logbook_more : {l : List ℕ} {es : List Listed} {r r1 : Register} → Logbook l es r → (w : List ℕ) (e : List Listed) → Element r (length l) w e r1 → Logbook (l ++ w) (es ++ e) r1
logbook_more (logbook_of h {x = x} f s) w e el = rw (append_assoc h x w) (logbook_of h f (sequence_more s w e (rw (length-append h x) at el)))

-- ---- what is written
written_integer : (k n : ℕ) → n < 128 ^ suc k → Writing (suc k) (write_integer (suc k) n) n
written_integer k n h = size_of (write_integer (suc k) n) n (rw append-nil at (write_reads k n h []))

pub written_number : (n : ℕ) → n ≤ number_limit → Writing number_bytes (write_integer number_bytes n) n
written_number n h = written_integer (pred number_bytes) n (omega (arith, h))

written_record : (t : ℕ) (d : List ℕ) → Number t → length d ≤ 70000 → RecordOf (record_of t d) t d
unfolding record_of
written_record t d (a, b) l =
    let e = number_long t in
    let z : length (write_integer number_bytes t ++ d) ≡ length (write_integer number_bytes t) + length d = length-append (write_integer number_bytes t) d in
    record {
      size = write_integer size_bytes (length (write_integer number_bytes t) + length d);
      type = write_integer number_bytes t;
      all = refl;
      sized = rw z (written_integer (pred size_bytes) (length (write_integer number_bytes t) + length d) (omega arith));
      typed = written_number t b;
    }

-- ---- the numbers that the calls take
pub least_number : (l : List ℕ) (g : Names) (u : List ℕ) (n : ℕ) → Stands l g → number_for u g ≡ some n → Least (meaning g) u n
unfolding number_for
least_number l g u n s e =
    record {
      holds = (held_by l g u n s e).names;
      least = λ j h k. let r = row_of g j u k in omega (arith, holder_least named_number named_uri u 0 n j r.row g s.rising e r.found r.named);
    }

pub no_number : (g : Names) (u : List ℕ) → number_for u g ≡ none → (j : ℕ) → uri_of j g ≡ some u → ⊥
unfolding number_for
no_number g u e j k = let r = row_of g j u k in holder_none named_number named_uri u j r.row g e r.found r.named

not_held_lem : (v : Option Named) → is_held v ≡ true → map named_uri v ≡ none → ⊥
not_held_lem none e f = from_zero_one (cc)
not_held_lem (some r) e f = from_zero_one (cc)

pub free_number : (g : Names) → Rising named_number 0 g → Free (meaning g) (free_from named_number 1 g)
unfolding uri_of
free_number g t =
    record {
      from_one = (free_bounds named_number 1 g).0;
      not_held = rw (free_not_held named_number 0 g t);
      least = λ j a b e. not_held_lem (find named_number j g) (free_least named_number 1 j g a b) e;
    }

-- ---- elements
entry_element : (r : Register) (p n : ℕ) (w d u : List ℕ) → 1 ≤ n → RecordOf w n d → r n ≡ some u → appendable u ≡ true → Element r p w (listed_at p u d ∷ []) r
entry_element r p zero w d u o c h a = absurd (omega arith)
entry_element r p (suc n) w d u o c h a = entry c h (other_name u header_name (appendable_header u a)) (other_name u type_name (appendable_type u a))

assign_element : (g : Names) (p t k : ℕ) (w m u : List ℕ) → 1 ≤ t → 1 ≤ k → RecordOf w t (m ++ u) → uri_of t g ≡ some type_name → Writing number_bytes m k → assignable k u ≡ true → room_for k u g ≡ true
    → Element (meaning g) p w (listed_at p type_name (m ++ u) ∷ []) (change (meaning g) k (stands_for u))
unfolding assignable room_for stands_for
assign_element g p zero k w m u o i c h x a r = absurd (omega arith)
assign_element g p (suc t) zero w m u o i c h x a r = absurd (omega arith)
assign_element g p (suc t) (suc k) w m [] o i c h x a r = rw (append-nil m) (removal (rw append-nil at c) h x)
assign_element g p (suc t) (suc k) w m (b ∷ u) o i c h x a r = assignment m b u c h x (shape_allowed (suc k) (b ∷ u) a) (of_room g (suc k) r)

change_here : (r : Register) (k : ℕ) (v : Option (List ℕ)) → change r k v k ≡ v
unfolding change
change_here r k v = rw (eq-eqb k k refl)

stands_some : (u : List ℕ) → 1 ≤ length u → stands_for u ≡ some u
unfolding stands_for
stands_some [] h = absurd (omega arith)
stands_some (c ∷ u) h = refl

-- ---- the records that are added, by the names g that stand in l
abbrev pub free : Names → ℕ
free g = free_from named_number 1 g

module _ (l : List ℕ) (g : Names) (s : Stands l g) where
  free_numbers : Number (free g)
  free_numbers = let k = free_bounds named_number 1 g in (k.0, omega (arith, s.few))

  held_record : (u d : List ℕ) (n : ℕ) → length d ≤ data_limit → number_for u g ≡ some n → RecordOf (record_of n d) n d
  held_record u d n f h = written_record n d (held_by l g u n s h).number (omega arith)

  pub assign_record : (t k : ℕ) (u : List ℕ) → k ≤ number_limit → length u ≤ uri_limit → number_for type_name g ≡ some t → RecordOf (record_of t (write_integer number_bytes k ++ u)) t (write_integer number_bytes k ++ u)
  assign_record t k u a f h = let w = number_long k in held_record type_name (write_integer number_bytes k ++ u) t (rw length-append (omega arith)) h

  pub added_held : (u d : List ℕ) (n : ℕ) → AskedAppend u d → number_for u g ≡ some n → Added (meaning g) (length l) u d (record_of n d) (listed_at (length l) u d ∷ []) (meaning g) (length l)
  added_held u d n a h = as_held n (least_number l g u n s h) (held_record u d n a.few_bytes h)

  free_record : (d : List ℕ) → length d ≤ data_limit → RecordOf (record_of (free g) d) (free g) d
  free_record d f = written_record (free g) d free_numbers (omega arith)

  pub added_new : (u d : List ℕ) (t : ℕ) → AskedAppend u d → number_for u g ≡ none → number_for type_name g ≡ some t
      → Added (meaning g) (length l) u d (record_of t (write_integer number_bytes (free g) ++ u) ++ record_of (free g) d)
      (listed_at (length l) type_name (write_integer number_bytes (free g) ++ u) ∷ listed_at (length l + length (record_of t (write_integer number_bytes (free g) ++ u))) u d ∷ []) (change (meaning g) (free g) (some u)) (length l + length (record_of t (write_integer number_bytes (free g) ++ u)))
  added_new u d t a h ht =
      as_new t (free g) (no_number g u h) (least_number l g type_name t s ht) (free_number g s.rising) (assign_record t (free g) u free_numbers.1 a.uri_short ht)
      (written_number (free g) free_numbers.1) (free_record d a.few_bytes)

-- ---- a write
not_appended : {P : Type 0} {x : Refusal} {s s1 : Parts} {q n : ℕ} → ◌≡◌ {A = Left} (denied x, s) (appended q n, s1) → P
not_appended e = from_zero_one (let d = answer_of e in cc)

record Wrote (off : ℕ) (w l rest : List ℕ) (q n : ℕ) (s1 : Parts) : Type 0 where
  fits : length w ≤ length rest
  small : length l + length w ≤ used_limit
  place : q ≡ length l + off
  used : n ≡ length l + length w
  after : s1 ≡ parts (l ++ w) (drop (length w) rest)

wrote : (off : ℕ) (w l rest : List ℕ) (q n : ℕ) (s1 : Parts) → write off w (parts l rest) ≡ (appended q n, s1) → Wrote off w l rest q n s1
unfolding write
wrote off w l rest q n s1 e =
    by_test (leb (length w) (length rest) && leb (length l + length w) used_limit)
    (λ h. let f = rw h at e in
    let d : appended (length l + off) (length l + length w) ≡ appended q n = answer_of f in
    record {
      fits = leb-true _ _ (and_left (leb (length w) (length rest)) _ h);
      small = leb-true _ _ (and_right (leb (length w) (length rest)) _ h);
      place = cc;
      used = cc;
      after = sym (ap (λ (l : Left). l.1) f);
    })
    (λ h. not_appended (rw h at e))

grown : (w l rest : List ℕ) (n : ℕ) (es new : List Listed) (r r1 : Register) → length l ≤ used_limit → length w ≤ length rest → length l + length w ≤ used_limit → n ≡ length l + length w → Logbook l es r → Logbook (l ++ w) (es ++ new) r1
    → Grown (book_of (parts l rest)) (book_of (parts (l ++ w) (drop (length w) rest))) w new es r r1 n
unfolding book_of
grown w l rest n es new r r1 b fit small en k k1 =
    let u0 : used_bytes (book_of (parts l rest)) ≡ l = used_of l rest in
    let u1 : used_bytes (book_of (parts (l ++ w) (drop (length w) rest))) ≡ l ++ w = used_of (l ++ w) (drop (length w) rest) in
    let x0 : Logbook (used_bytes (book_of (parts l rest))) es r = subst (λ (v : List ℕ). Logbook v es r) (sym u0) k in
    let x1 : Logbook (used_bytes (book_of (parts (l ++ w) (drop (length w) rest)))) (es ++ new) r1 = subst (λ (v : List ℕ). Logbook v (es ++ new) r1) (sym u1) k1 in
    record {
      was = x0;
      now = x1;
      listed_was = entries_logbook (book_of (parts l rest)) (sound_book logbook l rest b) es r x0;
      listed_now = entries_logbook (book_of (parts (l ++ w) (drop (length w) rest))) (sound_book logbook (l ++ w) (drop (length w) rest) (simp length-append small)) (es ++ new) r1 x1;
      bytes_now = u1 ∙ ap (λ (v : List ℕ). v ++ w) (sym u0);
      used_now = length-append l w ∙ sym en;
      same_behind = rw en (drop_at (l ++ w) (drop (length w) rest) (length l + length w) (length-append l w) ∙ sym (drop-append-add l rest (length w)));
      same_long = simp (length-append, length-drop) (omega arith);
    }

-- ---- the calls, on a log that is walked to its end
module _ (l rest : List ℕ) (b : length l ≤ used_limit) (some_bytes : 1 ≤ length l) (g : Names) (walks : walk logbook 0 [] 0 l ≡ whole g) where
  stands : Stands l g
  stands = walk_stands l logbook 0 [] g 0 l refl (stands_more [] l [] (stands_none [])) walks

  -- the logbook before
  before : Logbook l (roll logbook 0 [] 0 l) (meaning g)
  before = walk_logbook l g some_bytes walks

  module _ (u d : List ℕ) (asked : AskedAppend u d) where
    append_held_lem : (n q N : ℕ) (s1 : Parts) → number_for u g ≡ some n → Wrote 0 (record_of n d) l rest q N s1 → Appends (book_of (parts l rest)) (book_of s1) u d q N
    unfolding book_of
    append_held_lem n q N s1 h w =
        let hb = held_by l g u n stands h in
        let c : RecordOf (record_of n d) n d = held_record l g stands u d n asked.few_bytes h in
        let k1 : Logbook (l ++ record_of n d) (roll logbook 0 [] 0 l ++ (listed_at (length l) u d ∷ [])) (meaning g)
        = logbook_more before (record_of n d) (listed_at (length l) u d ∷ []) (entry_element (meaning g) (length l) n (record_of n d) d u hb.number.0 c hb.names asked.uri_good) in
        let e : q ≡ length l = w.place ∙ add-zero (length l) in
        rw (w.after, e)
        (appends (added_held l g stands u d n asked h) (grown (record_of n d) l rest N (roll logbook 0 [] 0 l) (listed_at (length l) u d ∷ []) (meaning g) (meaning g) b w.fits w.small w.used before k1))

    append_new_lem : (t q N : ℕ) (s1 : Parts) → number_for u g ≡ none → number_for type_name g ≡ some t → room_for (free g) u g ≡ true
        → Wrote (length (record_of t (write_integer number_bytes (free g) ++ u))) (record_of t (write_integer number_bytes (free g) ++ u) ++ record_of (free g) d) l rest q N s1 → Appends (book_of (parts l rest)) (book_of s1) u d q N
    unfolding book_of
    append_new_lem t q N s1 h ht rm w =
        let v : ℕ = free g in
        let nv : Number v = free_numbers l g stands in
        let m : List ℕ = write_integer number_bytes v in
        let hb = held_by l g type_name t stands ht in
        let w1 : List ℕ = record_of t (m ++ u) in
        let c : RecordOf w1 t (m ++ u) = assign_record l g stands t v u nv.1 asked.uri_short ht in
        let es : List Listed = roll logbook 0 [] 0 l in
        let e1 : List Listed = listed_at (length l) type_name (m ++ u) ∷ [] in
        let e2 : List Listed = listed_at (length l + length w1) u d ∷ [] in
        let r1 : Register = change (meaning g) v (some u) in
        let k1 : Logbook (l ++ w1) (es ++ e1) r1
        = rw (stands_some u asked.uri_some) at (logbook_more before w1 e1 (assign_element g (length l) t v w1 m u hb.number.0 nv.0 c hb.names (written_number v nv.1) (asked.uri_any v) rm)) in
        let k2 : Logbook ((l ++ w1) ++ record_of v d) ((es ++ e1) ++ e2) r1
        = logbook_more k1 (record_of v d) e2 (rw (length-append l w1) (entry_element r1 (length l + length w1) v (record_of v d) d u nv.0 (free_record l g stands d asked.few_bytes) (change_here (meaning g) v (some u)) asked.uri_good)) in
        let k3 : Logbook (l ++ (w1 ++ record_of v d)) (es ++ (e1 ++ e2)) r1 = rw (append_assoc l w1 (record_of v d), append_assoc es e1 e2) at k2 in
        rw (w.after, w.place)
        (appends (added_new l g stands u d t asked h ht) (grown (w1 ++ record_of v d) l rest N es (e1 ++ e2) (meaning g) r1 b w.fits w.small w.used before k3))

    append_typed : (v : Option ℕ) (q N : ℕ) (s1 : Parts) → number_for type_name g ≡ v → number_for u g ≡ none → append_new v g u d (parts l rest) ≡ (appended q N, s1) → Appends (book_of (parts l rest)) (book_of s1) u d q N
    unfolding append_new
    append_typed none q N s1 ht h e = not_appended e
    append_typed (some t) q N s1 ht h e =
        by_test (room_for (free_from named_number 1 g) u g)
        (λ r. append_new_lem t q N s1 h ht r
        (wrote (length (record_of t (write_integer number_bytes (free_from named_number 1 g) ++ u))) (record_of t (write_integer number_bytes (free_from named_number 1 g) ++ u) ++ record_of (free_from named_number 1 g) d) l rest q N s1 (rw r at e)))
        (λ r. not_appended (rw r at e))

    append_named : (v : Option ℕ) (q N : ℕ) (s1 : Parts) → number_for u g ≡ v → append_held v g u d (parts l rest) ≡ (appended q N, s1) → Appends (book_of (parts l rest)) (book_of s1) u d q N
    unfolding append_held
    append_named (some n) q N s1 h e = append_held_lem n q N s1 h (wrote 0 (record_of n d) l rest q N s1 e)
    append_named none q N s1 h e = append_typed (number_for type_name g) q N s1 refl h e

  module _ (k : ℕ) (u : List ℕ) (asked : AskedAssign k u) where
    assign_one : (t q N : ℕ) (s1 : Parts) → number_for type_name g ≡ some t → room_for k u g ≡ true → Wrote 0 (record_of t (write_integer number_bytes k ++ u)) l rest q N s1 → Assigns (book_of (parts l rest)) (book_of s1) k u q N
    unfolding book_of
    assign_one t q N s1 ht rm w =
        let m : List ℕ = write_integer number_bytes k in
        let hb = held_by l g type_name t stands ht in
        let w1 : List ℕ = record_of t (m ++ u) in
        let c : RecordOf w1 t (m ++ u) = assign_record l g stands t k u asked.number.1 asked.uri_short ht in
        let x : Writing number_bytes m k = written_number k asked.number.1 in
        let e1 : List Listed = listed_at (length l) type_name (m ++ u) ∷ [] in
        let k1 : Logbook (l ++ w1) (roll logbook 0 [] 0 l ++ e1) (change (meaning g) k (stands_for u))
        = logbook_more before w1 e1 (assign_element g (length l) t k w1 m u hb.number.0 asked.number.0 c hb.names x asked.uri_good rm) in
        rw w.after
        (assigns t (least_number l g type_name t stands ht) c x (w.place ∙ add-zero (length l)) (grown w1 l rest N (roll logbook 0 [] 0 l) e1 (meaning g) (change (meaning g) k (stands_for u)) b w.fits w.small w.used before k1))

    assign_typed : (v : Option ℕ) (q N : ℕ) (s1 : Parts) → number_for type_name g ≡ v → assign_under v g k u (parts l rest) ≡ (appended q N, s1) → Assigns (book_of (parts l rest)) (book_of s1) k u q N
    unfolding assign_under
    assign_typed none q N s1 ht e = not_appended e
    assign_typed (some t) q N s1 ht e =
        by_test (room_for k u g)
        (λ r. assign_one t q N s1 ht r (wrote 0 (record_of t (write_integer number_bytes k ++ u)) l rest q N s1 (rw r at e)))
        (λ r. not_appended (rw r at e))

-- ---- any log
record WholeWalk (l : List ℕ) (g : Names) : Type 0 where
  some : 1 ≤ length l
  walks : walk logbook 0 [] 0 l ≡ whole g

whole_walk : (l : List ℕ) (g : Names) → walk_all logbook l ≡ whole g → WholeWalk l g
unfolding walk_all
whole_walk l g e =
    by_test (at_header logbook (length l)) (λ h. not_stop logbook (rw h at e)) (λ h. record { some = past_of (length l) h; walks = rw h at e })

append_walked_lem : (l rest u d : List ℕ) (q N : ℕ) (s1 : Parts) → length l ≤ used_limit → may_append u d ≡ true → (v : Walked) → walk_all logbook l ≡ v → append_walked v u d (parts l rest) ≡ (appended q N, s1)
    → Appends (book_of (parts l rest)) (book_of s1) u d q N
unfolding append_walked
append_walked_lem l rest u d q N s1 b m (stop r) w e = not_appended e
append_walked_lem l rest u d q N s1 b m (whole g) w e =
    let k = whole_walk l g w in
    append_named l rest b k.some g k.walks u d (asked_append u d m) (number_for u g) q N s1 refl e

append_parts : (l rest u d : List ℕ) (q N : ℕ) (s1 : Parts) → length l ≤ used_limit → call logbook (append u d) (parts l rest) ≡ (appended q N, s1) → Appends (book_of (parts l rest)) (book_of s1) u d q N
unfolding call
append_parts l rest u d q N s1 b e =
    by_test (may_append u d) (λ m. append_walked_lem l rest u d q N s1 b m (walk_all logbook l) refl (rw m at e)) (λ m. not_appended (rw m at e))

append_made : (u d : List ℕ) (q N : ℕ) (b b1 : Book) → Made (append u d) b (appended q N) b1 → Appends b b1 u d q N
append_made u d q N b b1 m = rw (m.is, m.now) (append_parts m.log m.rest u d q N m.left m.small m.does)

-- an append adds exactly its entry, and an assignment only where no held number has the URI
pub append_exact : (u d : List ℕ) (q N : ℕ) (b b1 : Book) → call_on logbook (append u d) b ≡ record { answer = appended q N; book = b1 } → Appends b b1 u d q N
append_exact u d q N b b1 e = append_made u d q N b b1 (made_of (append u d) b b1 (appended q N) (λ d. from_zero_one (cc)) e)

assign_walked_lem : (l rest u : List ℕ) (k q N : ℕ) (s1 : Parts) → length l ≤ used_limit → may_assign k u ≡ true → (v : Walked) → walk_all logbook l ≡ v → assign_walked v k u (parts l rest) ≡ (appended q N, s1)
    → Assigns (book_of (parts l rest)) (book_of s1) k u q N
unfolding assign_walked
assign_walked_lem l rest u k q N s1 b m (stop r) w e = not_appended e
assign_walked_lem l rest u k q N s1 b m (whole g) w e =
    let x = whole_walk l g w in
    assign_typed l rest b x.some g x.walks k u (asked_assign k u m) (number_for type_name g) q N s1 refl e

assign_parts : (l rest u : List ℕ) (k q N : ℕ) (s1 : Parts) → length l ≤ used_limit → call logbook (assign k u) (parts l rest) ≡ (appended q N, s1) → Assigns (book_of (parts l rest)) (book_of s1) k u q N
unfolding call
assign_parts l rest u k q N s1 b e =
    by_test (may_assign k u) (λ m. assign_walked_lem l rest u k q N s1 b m (walk_all logbook l) refl (rw m at e)) (λ m. not_appended (rw m at e))

assign_made : (k : ℕ) (u : List ℕ) (q N : ℕ) (b b1 : Book) → Made (assign k u) b (appended q N) b1 → Assigns b b1 k u q N
assign_made k u q N b b1 m = rw (m.is, m.now) (assign_parts m.log m.rest u k q N m.left m.small m.does)

-- an assignment or a removal adds exactly its entry
pub assign_exact : (k : ℕ) (u : List ℕ) (q N : ℕ) (b b1 : Book) → call_on logbook (assign k u) b ≡ record { answer = appended q N; book = b1 } → Assigns b b1 k u q N
assign_exact k u q N b b1 e = assign_made k u q N b b1 (made_of (assign k u) b b1 (appended q N) (λ d. from_zero_one (cc)) e)
