-- What the first rule means, and that one item is refused by the first of its rules that is due.
use Rattle.std.specs.Prelude.{◌≡◌, Bool, true, false, ◌&&◌, ◌||◌, not, List, [], ◌∷◌, ◌++◌, ◌↔◌, leb, ltb, eqb}
use Rattle.std.proofs.Math.Path.{refl, sym, ap}
use Rattle.std.proofs.Common.{◌∙◌, arith, add-zero}
use Rattle.std.proofs.Math.Option.{Option, none, some}
use Prim.Native.Nat.{ℕ, zero, suc, pred, ◌+◌}
use borrow.Author.Tests.{lt-ltb, le-ltb, le-leb, lt-leb, leb-true, ne_eqb}
use Rattle.std.proofs.Math.ListN.{length, take, drop}
use Rattle.std.proofs.Math.Seq.{length-take-le}
use Rattle.format.proofs.Laws.Cases.{by_test, by_order, from_zero_one, and_false}
use Rattle.format.specs.Bytes.{same}
use Rattle.format.proofs.Laws.Bytes.{same_equal}
use Rattle.format.specs.Text.{ascii}
use Rattle.format.specs.Figures.{size_bytes, number_bytes, row_limit, header_length}
use Rattle.format.specs.Integers.{Integer, value, broken, not_over}
use Rattle.format.specs.Uris.{type_name, header_name}
use Rattle.format.specs.Header.{header_form}
use Rattle.format.specs.Register.{is_held, find, has_room, Named, Names, named_number, named_uri, uri_of}
use Rattle.format.proofs.Laws.Register.{some_some}
use Rattle.format.specs.Records.{Refusal, room_for, assignable, assignment_part, header_part, data_part, named_part, type_part, size_part, element, header_at, Origin, at_header, item}
use Rattle.format.specs.Refusals.{Rule, rule, first_of, NoneDue, FirstDue, due, standing, is_among, InTable, value_in, size_at, record_at, body_at, type_at, data_at, assigned_number, assigned_uri, uri_at, is_incomplete, leads_with80, is_too_long, is_past_size, type_place, last_place, not_held, not_form, bad_assignment, is_too_many, no_room, integer_rules, data_rules, meaning_rules, record_rules, header_rules, element_rules, item_rules, refusal_of_got}
use Rattle.format.proofs.Laws.Denials.Integers.{ByTests, leading, long, short, over, read_tests}

-- ---- the first rule
pub first_on : (r : Rule) (rs : List Rule) → r.when ≡ false → first_of (r ∷ rs) ≡ first_of rs
unfolding first_of
first_on r rs e = rw e

pub first_here : (r : Rule) (rs : List Rule) → r.when ≡ true → first_of (r ∷ rs) ≡ some r.refusal
unfolding first_of
first_here r rs e = rw e

pub none_some : {P : Type 0} {x : Refusal} → none ≡ some x → P
none_some e = from_zero_one (cc)

due_on : (r : Rule) (rs : List Rule) (x : Refusal) → r.when ≡ false → FirstDue rs x → FirstDue (r ∷ rs) x
unfolding NoneDue
due_on r rs x f (due before s behind e n w q) = due (r ∷ before) s behind (ap (λ (l : List Rule). r ∷ l) e) (f, n) w q

first_due : (rs : List Rule) (x : Refusal) → first_of rs ≡ some x → FirstDue rs x
unfolding first_of NoneDue
first_due [] x e = none_some e
first_due (r ∷ rs) x e =
    by_test r.when
    (λ h. due [] r rs refl tt h (some_some (sym (first_here r rs h) ∙ e)))
    (λ h. due_on r rs x h (first_due rs x (sym (first_on r rs h) ∙ e)))

due_split : (before : List Rule) (r : Rule) (behind : List Rule) → NoneDue before → r.when ≡ true → first_of (before ++ (r ∷ behind)) ≡ some r.refusal
unfolding NoneDue
due_split [] r behind n w = first_here r behind w
due_split (s ∷ before) r behind (f, n) w = first_on s (before ++ (r ∷ behind)) f ∙ due_split before r behind n w

due_first : (rs : List Rule) (x : Refusal) → FirstDue rs x → first_of rs ≡ some x
due_first rs x (due before r behind e n w q) = rw (e, ← q) (due_split before r behind n w)

pub first_means : (rs : List Rule) (x : Refusal) → (first_of rs ≡ some x) ↔ FirstDue rs x
first_means rs x = (first_due rs x, due_first rs x)

none_due : (rs : List Rule) → first_of rs ≡ none → NoneDue rs
unfolding NoneDue
none_due [] e = tt
none_due (r ∷ rs) e =
    by_test r.when
    (λ h. none_some (sym e ∙ first_here r rs h))
    (λ h. (h, none_due rs (sym (first_on r rs h) ∙ e)))

due_none : (rs : List Rule) → NoneDue rs → first_of rs ≡ none
unfolding first_of NoneDue
due_none [] n = refl
due_none (r ∷ rs) (f, n) = first_on r rs f ∙ due_none rs n

pub none_means : (rs : List Rule) → (first_of rs ≡ none) ↔ NoneDue rs
none_means rs = (none_due rs, due_none rs)

-- ---- tests and their denials
pub over_not : (a b : ℕ) → ltb b a ≡ not (leb a b)
over_not a b =
    by_order b a
    (λ h. rw (lt-ltb b a h, lt-leb a b h))
    (λ h. rw (le-ltb b a h, le-leb a b h))

pub not_and : (a b : Bool) → (not a || not b) ≡ not (a && b)
not_and true b = refl
not_and false b = refl

pub too_many : (n : ℕ) (u : List ℕ) (g : Names) → is_too_many n u g ≡ not (room_for n u g)
unfolding is_too_many room_for has_room
too_many n [] g = and_false (leb row_limit (length g))
too_many n (c ∷ u) g = go (is_held (find named_number n g))
  where
    go : (t : Bool) → (leb row_limit (length g) && not t) ≡ not (t || ltb (length g) row_limit)
    go true = and_false (leb row_limit (length g))
    go false =
        by_order (length g) row_limit
        (λ h. rw (lt-ltb (length g) row_limit h, lt-leb row_limit (length g) h))
        (λ h. rw (le-ltb (length g) row_limit h, le-leb row_limit (length g) h))

pub positive : (k : ℕ) → eqb (suc k) 0 ≡ false
positive k = ne_eqb (suc k) 0 (λ e. omega arith)

header_other : (u : List ℕ) → same u header_name ≡ true → same u type_name ≡ false
unfolding same type_name header_name ascii
header_other u e = rw (same_equal u header_name e)

-- ---- the data d of the record w at p, under the name y
module _ (g : Names) (p : ℕ) (w d : List ℕ) (y : Named) where
  number_stage : (t q n : ℕ) → same (named_uri y) header_name ≡ false → same (named_uri y) type_name ≡ true → (v : Integer) → assigned_number d ≡ v
      → refusal_of_got (assignment_part v y p t q d n g) ≡ first_of (data_rules g p (some (named_uri y)) w d)
  unfolding first_of data_rules assignment_part not_form bad_assignment no_room assigned_uri
  number_stage t q n a e not_over f = rw (a, e, f)
  number_stage t q n a e (broken why at) f = rw (a, e, f)
  number_stage t q n a e (value zero m) f = rw (a, e, f)
  number_stage t q n a e (value (suc k) m) f =
      by_test (assignable (suc k) (drop m d))
      (λ h. by_test (room_for (suc k) (drop m d) g)
      (λ r. rw (a, e, f, positive k, h, too_many (suc k) (drop m d) g, r))
      (λ r. rw (a, e, f, positive k, h, too_many (suc k) (drop m d) g, r)))
      (λ h. rw (a, e, f, positive k, h))

  assigning_part : (t q n : ℕ) → same (named_uri y) header_name ≡ false → same (named_uri y) type_name ≡ true
      → data_part y p t q w d n g ≡ assignment_part (assigned_number d) y p t q d n g
  unfolding data_part assigned_number
  assigning_part t q n h f = rw (h, f)

  pub data_refusal : (t q n : ℕ) → refusal_of_got (data_part y p t q w d n g) ≡ first_of (data_rules g p (some (named_uri y)) w d)
  unfolding first_of data_rules data_part header_part not_form bad_assignment no_room
  data_refusal t q n =
      by_test (same (named_uri y) header_name)
      (λ h. by_test (header_form w) (λ f. rw (h, header_other (named_uri y) h, f)) (λ f. rw (h, f)))
      (λ h. by_test (same (named_uri y) type_name)
      (λ f. ap refusal_of_got (assigning_part t q n h f) ∙ number_stage t q n h f (assigned_number d) refl)
      (λ f. rw (h, f)))

-- ---- a record l at p, stage by stage from the last: at each, the rules of the stages before it aren't due
module _ (g : Names) (p : ℕ) (l : List ℕ) where
  -- a type that is there
  meaning_held : (u : List ℕ) → not_held g (value_in (type_at l)) ≡ false → uri_at g l ≡ some u
      → first_of (meaning_rules g p l) ≡ first_of (data_rules g p (some u) (record_at l) (data_at l))
  unfolding meaning_rules
  meaning_held u c e = first_on _ _ c ∙ ap (λ (v : Option (List ℕ)). first_of (data_rules g p v (record_at l) (data_at l))) e

  meaning_stage : (k n a j : ℕ) → type_at l ≡ value a j
      → refusal_of_got (type_part (value a j) p k (record_at l) (body_at l) n g) ≡ first_of (meaning_rules g p l)
  unfolding first_of meaning_rules data_rules type_part not_held not_form bad_assignment no_room uri_at uri_of named_part data_at
  meaning_stage k n zero j e = rw e
  meaning_stage k n (suc m) j e = go (find named_number (suc m) g) refl
    where
      go : (x : Option Named) → find named_number (suc m) g ≡ x
          → refusal_of_got (named_part x p (p + k) j (record_at l) (body_at l) n g) ≡ first_of (meaning_rules g p l)
      go none q = rw (e, positive m, q)
      go (some u) q =
          let d : data_at l ≡ drop j (body_at l) = rw e in
          rw (← d)
          (data_refusal g p (record_at l) (data_at l) u (p + k) (p + k + j) n
          ∙ sym (meaning_held (named_uri u) (rw (e, positive m, q)) (rw (e, q))))

  -- a record that is whole: its size takes k bytes, and its last byte is n behind the first
  type_stage : (s k n : ℕ) → is_incomplete l ≡ false → leads_with80 l ≡ false → is_too_long size_bytes l ≡ false → size_at l ≡ value s k
      → pred (length (record_at l)) ≡ n → (v : Integer) → type_at l ≡ v → ByTests number_bytes (body_at l) v
      → refusal_of_got (type_part v p k (record_at l) (body_at l) n g) ≡ first_of (record_rules g p l)
  unfolding first_of record_rules integer_rules type_part is_too_long is_past_size type_place last_place
  type_stage s k n a b c d f v e (leading t) = rw (a, b, c, d, t, add-zero)
  type_stage s k n a b c d f v e (long t u) = rw (a, b, c, d, t, u)
  type_stage s k n a b c d f v e (short t u w) = rw (a, b, c, t, u, w, f)
  type_stage s k n a b c d f v e (over x j t u w) = rw (a, b, c, t, u, w) (meaning_stage k n x j e)

  size_stage : (v : Integer) → size_at l ≡ v → ByTests size_bytes l v → refusal_of_got (size_part v p l g) ≡ first_of (record_rules g p l)
  unfolding first_of record_rules integer_rules size_part is_incomplete is_too_long record_at body_at type_at leads_with80
  size_stage v e (leading t) = rw (e, le-ltb (length l) 0 (omega arith), t, add-zero)
  size_stage v e (long t u) = rw (e, le-ltb (length l) 0 (omega arith), t, u)
  size_stage v e (short t u w) = rw e
  size_stage v e (over s k t u w) =
      by_test (leb (k + s) (length l))
      (λ h.
      let w : record_at l ≡ take (k + s) l = rw e in
      let b : body_at l ≡ take s (drop k l) = rw e in
      let n : length (record_at l) ≡ k + s = ap length w ∙ length-take-le (k + s) l (leb-true (k + s) (length l) h) in
      rw (h, ← w, ← b)
      (type_stage s k (pred (k + s)) (rw (e, over_not (k + s) (length l), h)) t u e (ap pred n)
      (type_at l) refl (read_tests number_bytes (body_at l) (omega arith))))
      (λ h. rw (e, over_not (k + s) (length l), h))

pub element_refusal : (g : Names) (p x : ℕ) (xs : List ℕ)
    → refusal_of_got (element g p x xs) ≡ first_of (element_rules (x ∷ xs) (record_rules g p (x ∷ xs)))
unfolding element element_rules first_of size_at
element_refusal g p zero xs = refl
element_refusal g p (suc x) xs = size_stage g p (suc x ∷ xs) (size_at (suc x ∷ xs)) refl (read_tests size_bytes (suc x ∷ xs) (omega arith))

pub header_refusal : (l : List ℕ) → refusal_of_got (header_at l) ≡ first_of (header_rules l)
unfolding header_at header_rules first_of
header_refusal l =
    by_test (leb header_length (length l))
    (λ h. by_test (header_form (take header_length l)) (λ f. rw (over_not header_length (length l), h, f)) (λ f. rw (over_not header_length (length l), h, f)))
    (λ h. rw (over_not header_length (length l), h))

-- the item at p, of the bytes x ∷ xs
pub item_refusal : (o : Origin) (g : Names) (p x : ℕ) (xs : List ℕ) → refusal_of_got (item o g p x xs) ≡ first_of (item_rules o g p (x ∷ xs))
unfolding item item_rules
item_refusal o g p x xs = by_test (at_header o p) (λ h. rw h (header_refusal (x ∷ xs))) (λ h. rw h (element_refusal g p x xs))

-- ---- every rule has a number of the table
unfoldable pub Numbered : List Rule → Type 0
Numbered [] = Unit {0}
Numbered (r ∷ rs) = (r.when ≡ true → InTable r.refusal) × Numbered rs

pub first_numbered : (rs : List Rule) (x : Refusal) → Numbered rs → first_of rs ≡ some x → InTable x
unfolding Numbered first_of
first_numbered [] x n e = none_some e
first_numbered (r ∷ rs) x (a, n) e =
    by_test r.when
    (λ h. let q : r.refusal ≡ x = some_some (sym (first_here r rs h) ∙ e) in rw (← q) (a h))
    (λ h. first_numbered rs x n (sym (first_on r rs h) ∙ e))

pub numbered_rule : (r : Rule) (rs : List Rule) → (r.when ≡ true → InTable r.refusal) → Numbered rs → Numbered (r ∷ rs)
unfolding Numbered
numbered_rule r rs a n = (a, n)

pub numbered : (n p : ℕ) (t : Bool) (rs : List Rule) → is_among n standing ≡ true → Numbered rs → Numbered (rule n p t ∷ rs)
numbered n p t rs e = numbered_rule (rule n p t) rs (λ h. e)

pub numbered_none : Numbered []
unfolding Numbered
numbered_none = tt

pub record_numbered : (g : Names) (p : ℕ) (l : List ℕ) → Numbered (record_rules g p l)
unfolding record_rules integer_rules meaning_rules data_rules
record_numbered g p l =
    numbered 2 _ _ _ refl
    (numbered 14 _ _ _ refl
    (numbered 14 _ _ _ refl
    (numbered 15 _ _ _ refl
    (numbered 15 _ _ _ refl
    (numbered 16 _ _ _ refl
    (numbered 6 _ _ _ refl
    (numbered 3 _ _ _ refl
    (numbered 5 _ _ _ refl
    (numbered 7 _ _ _ refl
    numbered_none)))))))))

pub element_numbered : (l : List ℕ) (rs : List Rule) → Numbered rs → Numbered (element_rules l rs)
unfolding element_rules
element_numbered [] rs n = numbered_none
element_numbered (zero ∷ xs) rs n = numbered_none
element_numbered (suc x ∷ xs) rs n = n

pub item_numbered : (o : Origin) (g : Names) (p : ℕ) (l : List ℕ) → Numbered (item_rules o g p l)
unfolding item_rules header_rules
item_numbered o g p l =
    by_test (at_header o p)
    (λ h. rw h (numbered 2 0 _ _ refl (numbered 3 0 _ _ refl numbered_none)))
    (λ h. rw h (element_numbered l (record_rules g p l) (record_numbered g p l)))
