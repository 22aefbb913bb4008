-- The walk and the grammar: a whole walk has passed over a logbook of the grammar, with the entries that it lists.
use Rattle.std.specs.Prelude.{◌≡◌, refl, true, false, ℕ, zero, suc, pred, ◌+◌, ◌≤◌, length, take, drop, leb, eqb}
use Rattle.std.proofs.Common.{sym, ap, ◌∙◌, subst, arith, zero-add, eqb-true, length-append, length-drop, take-append-drop, length-take-le, take_at, drop_at, drop-drop, take_all}
use mathlib.Core.List.{List, [], ◌∷◌, ◌++◌, append_assoc, append-nil}
use Rattle.std.proofs.Math.Option.{some}
use Rattle.format.proofs.Laws.Cases.{and_left, by_test, from_zero_one}
use Rattle.format.specs.Bytes.{same}
use Rattle.format.proofs.Laws.Bytes.{same_equal, equal_same}
use Rattle.format.specs.Figures.{size_bytes, number_bytes, header_length}
use Rattle.format.specs.Integers.{value, read_integer}
use Rattle.format.proofs.Laws.Integers.{read_exact}
use Rattle.format.specs.Uris.{type_name, header_name}
use Rattle.format.specs.Header.{header_form}
use Rattle.format.specs.Register.{Rising, implied, Names, named_number, named_uri, implied_names, uri_of}
use Rattle.format.proofs.Laws.Register.{uri_found}
use Rattle.format.specs.Records.{header, entry_of, Item, live, got, assigned, room_for, assignable, element, header_at, logbook as the_logbook}
use Rattle.format.specs.Reading.{whole, walk}
use Rattle.format.specs.Grammar.{listed_at, Writing, RecordOf, Element, Sequence, Logbook, padding as padding_element, deleted as deleted_element, entry as entry_element, assignment as assignment_element, removal as removal_element, header as header_element, done, more, logbook}
use Rattle.format.proofs.Laws.Order.Items.{got_item, got_bytes, got_names, not_bad, Judgement, gone, entry, heading, assigning, judgement, Sizes, Form, form, size_form, past_start, item_element, item_header, First, first, walk_first, walk_nil}
use Rattle.format.proofs.Laws.Order.Standing.{Stands, item_stands, stands_implied}
use Rattle.format.proofs.Laws.Order.Wiping.{size_of}
use Rattle.format.specs.Entries.{told}
use Rattle.format.proofs.Laws.Lists.Shapes.{shape_header, shape_allowed}
use Rattle.format.proofs.Laws.Lists.Rolls.{roll, Part, part_walk, part_roll, got_part, item_part}
use Rattle.format.proofs.Laws.Lists.Registers.{meaning, implied_meaning, assigned_meaning, removed_meaning, of_room}

-- ---- one record
pub other_name : (u v : List ℕ) → same u v ≡ false → u ≡ v → ⊥
other_name u v e q = from_zero_one (let d : true ≡ false = sym (equal_same u v q) ∙ e in cc)

-- an integer read from b is written by its first bytes
pub read_writing : (b : List ℕ) (v j : ℕ) → read_integer number_bytes b ≡ value v j → Writing number_bytes (take j b) v
read_writing b v j e =
    let q = read_exact number_bytes b v j e in
    size_of (take j b) v (rw (length-take-le j b q.inside) (rw append-nil at (q.exact [])))

pub sizes_writing : (a b : List ℕ) → Sizes a b → Writing size_bytes a (length b)
sizes_writing a b m = size_of a (length b) (rw append-nil at (m []))

unfoldable pub record_read : (a b : List ℕ) (v j : ℕ) → Sizes a b → read_integer number_bytes b ≡ value v j → RecordOf (a ++ b) v (drop j b)
record_read a b v j m e =
    record {
      size = a;
      type = take j b;
      all = rw take-append-drop;
      sized = rw take-append-drop (sizes_writing a b m);
      typed = read_writing b v j e;
    }

module _ (g : Names) (rises : Rising named_number 0 g) (p : ℕ) (w : List ℕ) (a : ℕ) where
  -- an assignment of u, written m
  assigned_element : (d m u : List ℕ) (c q : ℕ) → d ≡ m ++ u → RecordOf w (suc a) d → uri_of (suc a) g ≡ some type_name → Writing number_bytes m (suc c) → assignable (suc c) u ≡ true → room_for (suc c) u g ≡ true
      → Element (meaning g) p w (listed_at p type_name d ∷ []) (meaning (assigned (suc c) q u g))
  unfolding assignable room_for
  assigned_element d m [] c q e r s v x y =
      let f : d ≡ m = e ∙ append-nil m in
      rw (removed_meaning g (suc c) q rises, f) (removal_element (rw f at r) s v)
  assigned_element d m (z ∷ u) c q e r s v x y = rw (assigned_meaning g (suc c) q z u, e) (assignment_element m z u (rw e at r) s v (shape_allowed (suc c) (z ∷ u) x) (of_room g (suc c) y))

judged_element : (g : Names) (p : ℕ) (a b : List ℕ) (h : Names) (l n : ℕ) (i : Item) → Rising named_number 0 g → Sizes a b → Judgement p (length a) (a ++ b) b l g i n h
    → Element (meaning g) p (a ++ b) (told i) (meaning h)
unfolding told
judged_element g p a b h l n i t m (gone j r) = deleted_element (record_read a b 0 j m r)
judged_element g p a b h l n i t m (entry y j u r s n1 n2) =
    entry_element (record_read a b (suc y) j m r) (uri_found g (suc y) u s) (other_name (named_uri u) header_name n1) (other_name (named_uri u) type_name n2)
judged_element g p a b h l n i t m (heading y j u r s n1 f) =
    let v = same_equal (named_uri u) header_name n1 in
    rw (implied_meaning, v) (header_element (record_read a b (suc y) j m r) (uri_found g (suc y) u s ∙ rw v) (shape_header (a ++ b) f))
judged_element g p a b h l n i t m (assigning y j c k u r s n1 n2 q x z) =
    let v = same_equal (named_uri u) type_name n2 in
    rw v (assigned_element g t p (a ++ b) y (drop j b) (take k (drop j b)) (drop k (drop j b)) c (p + length a + j + k) (sym (take-append-drop k (drop j b)))
    (record_read a b (suc y) j m r) (uri_found g (suc y) u s ∙ rw v) (read_writing (drop j b) (suc c) k q) x z)

pub first_two : (n : ℕ) (a b ys : List ℕ) → n ≡ length (a ++ b) → take n (a ++ (b ++ ys)) ≡ a ++ b
first_two n a b ys k = rw (← (append_assoc a b ys)) (take_at (a ++ b) ys n (sym k))

form_element : (g h : Names) (p x n : ℕ) (xs : List ℕ) (i : Item) → Rising named_number 0 g → Form g p (x ∷ xs) i n h → Element (meaning g) p (x ∷ take n xs) (told i) (meaning h)
form_element g h p x n xs i t (form [] b ys e m j z) = absurd (omega (arith, (read_exact size_bytes [] (length b) 0 (m [])).some))
form_element g h p x n xs i t (form (y ∷ a) b ys e m j z) =
    let k : suc n ≡ length ((y ∷ a) ++ b) = rw length-append (omega arith) in
    let v : x ∷ take n xs ≡ (y ∷ a) ++ b = ap (take (suc n)) e ∙ first_two (suc n) (y ∷ a) b ys k in
    rw v (judged_element g p (y ∷ a) b h (pred (suc (length a) + length b)) n i t m (judgement p (suc (length a)) ((y ∷ a) ++ b) b (pred (suc (length a) + length b)) g j))

element_of : (g h : Names) (p x n : ℕ) (xs : List ℕ) (i : Item) → Rising named_number 0 g → element g p x xs ≡ got i n h → Element (meaning g) p (x ∷ take n xs) (told i) (meaning h)
unfolding element told
element_of g h p zero n xs i t e = rw (← (got_item e), ← (got_bytes e), ← (got_names e)) padding_element
element_of g h p (suc x) n xs i t e = form_element g h p (suc x) n xs i t (size_form g h p n (suc x ∷ xs) i e)

-- ---- a sequence of elements
module _ (l : List ℕ) (h : Names) where
  -- of what stands at q of the log l
  abbrev Parses : ℕ → Type 0
  Parses fuel =
      (g : Names) (q : ℕ) (ys : List ℕ) → length ys ≤ fuel → 1 ≤ q → drop q l ≡ ys → Stands l g → walk the_logbook 0 g q ys ≡ whole h
      → Sequence (meaning g) q ys (roll the_logbook 0 g q ys) (meaning h)

  parse_first : (fuel : ℕ) (g : Names) (q x : ℕ) (xs : List ℕ) → Parses fuel → length xs ≤ fuel → 1 ≤ q → drop q l ≡ x ∷ xs → Stands l g → First the_logbook g q x xs h → walk the_logbook 0 g q (x ∷ xs) ≡ whole h
      → Sequence (meaning g) q (x ∷ xs) (roll the_logbook 0 g q (x ∷ xs)) (meaning h)
  parse_first fuel g q x xs ih b o d s (first i n g1 e f) w =
      let v : List ℕ = x ∷ take n xs in
      let c : (x ∷ take n xs) ++ drop n xs ≡ x ∷ xs = rw take-append-drop in
      let t : Part the_logbook g q (x ∷ take n xs) (told i) g1 = got_part the_logbook g g1 q x n xs i e in
      let el : Element (meaning g) q (x ∷ take n xs) (told i) (meaning g1) = element_of g g1 q x n xs i s.rising (sym (item_element the_logbook g q x xs (past_start the_logbook q o)) ∙ e) in
      let k : roll the_logbook 0 g q (x ∷ xs) ≡ told i ++ roll the_logbook 0 g1 (q + length v) (drop n xs) = rw (← c) (part_roll the_logbook t (drop n xs)) in
      let r = ih g1 (q + length v) (drop n xs) (rw length-drop (omega arith)) (omega arith)
      (sym (drop-drop (length v) q l) ∙ ap (drop (length v)) (d ∙ sym c) ∙ drop_at v (drop n xs) (length v) refl)
      (item_stands l the_logbook g g1 q x n xs i d s e)
      (sym (part_walk the_logbook t (drop n xs)) ∙ (rw c w)) in
      rw k (subst (λ (ys : List ℕ). Sequence (meaning g) q ys (told i ++ roll the_logbook 0 g1 (q + length v) (drop n xs)) (meaning h)) c (more el r))

  parse_step : (fuel : ℕ) → Parses fuel → Parses (suc fuel)
  unfolding roll
  parse_step fuel ih g q [] b o d s w = rw (walk_nil the_logbook g h q w) done
  parse_step fuel ih g q (x ∷ xs) b o d s w = parse_first fuel g q x xs ih (omega arith) o d s (walk_first the_logbook g h q x xs w) w

  parse_none : Parses 0
  unfolding roll
  parse_none g q [] b o d s w = rw (walk_nil the_logbook g h q w) done
  parse_none g q (x ∷ xs) b o d s w = absurd (omega arith)

  pub parse_walk : (fuel : ℕ) → Parses fuel
  parse_walk zero = parse_none
  parse_walk (suc fuel) = parse_step fuel (parse_walk fuel)

-- ---- the header
pub form_long : (l : List ℕ) → header_form l ≡ true → length l ≡ header_length
unfolding header_form
form_long l e = eqb-true (length l) header_length (and_left (eqb (length l) header_length) _ e)

pub header_part_lem : (l : List ℕ) → header_form l ≡ true → Part the_logbook [] 0 l (listed_at 0 header_name (drop 2 l) ∷ []) implied_names
unfolding header_at told
header_part_lem [] e = absurd (omega (arith, form_long [] e))
header_part_lem (x ∷ w) e =
    let n : length w ≡ pred header_length = omega (arith, form_long (x ∷ w) e) in
    let k : take (pred header_length) w ≡ w = take_all (pred header_length) w (omega arith) in
    item_part the_logbook [] implied_names 0 x w (live (entry_of 0 1 header (implied 111) 2 (drop 1 w)))
    (item_header the_logbook [] 0 x w refl ∙ rw (n, k, e))

-- the walk of a log that has bytes
pub head_got : (x : ℕ) (xs : List ℕ) (i : Item) (n : ℕ) (h : Names) → header_at (x ∷ xs) ≡ got i n h → (header_form (x ∷ take (pred header_length) xs) ≡ true) × (n ≡ pred header_length) × (h ≡ implied_names)
unfolding header_at
head_got x xs i n h e =
    by_test (leb header_length (suc (length xs)))
    (λ a. by_test (header_form (x ∷ take (pred header_length) xs))
    (λ b. let c = rw (a, b) at e in (b, sym (got_bytes c), sym (got_names c)))
    (λ b. not_bad (rw (a, b) at e)))
    (λ a. not_bad (rw a at e))

pub walk_logbook : (l : List ℕ) (h : Names) → 1 ≤ length l → walk the_logbook 0 [] 0 l ≡ whole h → Logbook l (roll the_logbook 0 [] 0 l) (meaning h)
walk_logbook [] h o w = absurd (omega arith)
walk_logbook (x ∷ xs) h o w = go (walk_first the_logbook [] h 0 x xs w)
  where
    go : First the_logbook [] 0 x xs h → Logbook (x ∷ xs) (roll the_logbook 0 [] 0 (x ∷ xs)) (meaning h)
    go (first i n g1 e f) =
        let q = head_got x xs i n g1 (sym (item_header the_logbook [] 0 x xs refl) ∙ e) in
        let v : List ℕ = x ∷ take (pred header_length) xs in
        let ys : List ℕ = drop (pred header_length) xs in
        let t : Part the_logbook [] 0 v (listed_at 0 header_name (drop 2 v) ∷ []) implied_names = header_part_lem v q.0 in
        let c : v ++ ys ≡ x ∷ xs = rw take-append-drop in
        let k : roll the_logbook 0 [] 0 (x ∷ xs) ≡ listed_at 0 header_name (drop 2 v) ∷ roll the_logbook 0 implied_names (length v) ys = rw (← c) (part_roll the_logbook t ys ∙ rw zero-add) in
        let m0 : walk the_logbook 0 implied_names (0 + length v) ys ≡ whole h = sym (part_walk the_logbook t ys) ∙ (rw c w) in
        let m : walk the_logbook 0 implied_names (length v) ys ≡ whole h = rw zero-add at m0 in
        let d : drop (length v) (x ∷ xs) ≡ ys = subst (λ (zs : List ℕ). drop (length v) zs ≡ ys) c (drop_at v ys (length v) refl) in
        let s = parse_walk (x ∷ xs) h (length ys) implied_names (length v) ys (omega arith) (omega arith) d (stands_implied (x ∷ xs)) m in
        rw k (subst (λ (zs : List ℕ). Logbook zs (listed_at 0 header_name (drop 2 v) ∷ roll the_logbook 0 implied_names (length v) ys) (meaning h)) c (logbook v (shape_header v q.0) (rw implied_meaning at s)))
