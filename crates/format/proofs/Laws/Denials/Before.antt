-- 02 [1]: "The same records are refused.", by one of the three where 01 had 4, and all else as it was.
use Rattle.std.specs.Prelude.{◌≡◌, Bool, false, ◌||◌, cond, ◌↔◌}
use Rattle.std.proofs.Math.Path.{refl, ap}
use Rattle.std.proofs.Common.{sym, ◌∙◌, arith}
use Rattle.std.proofs.Math.Bool.{true}
use mathlib.Core.List.{List, [], ◌∷◌, ◌++◌}
use Rattle.std.proofs.Math.Option.{Option, none, some, map}
use Prim.Native.Nat.{ℕ, zero, suc}
use Rattle.format.proofs.Laws.Cases.{by_test, true_false, or_true}
use Rattle.format.specs.Figures.{size_bytes, number_bytes}
use Rattle.format.specs.Integers.{Integer}
use Rattle.format.specs.Register.{Names}
use Rattle.format.proofs.Laws.Register.{some_some}
use Rattle.format.specs.Records.{Refusal, refusal, element}
use Rattle.format.specs.Refusals.{Rule, first_of, standing, is_among, InTable, is_faulty, is_unfinished, size_at, body_at, type_at, leads_with80, is_too_long, is_past_size, is_incomplete, integer_rules, data_rules, meaning_rules, record_rules, is_broken, base_rules, is_split, IsSplit, as_before, element_rules, refusal_before, refusal_of_got}
use Rattle.format.proofs.Laws.Denials.Integers.{ByTests, leading, long, short, over, read_tests}
use Rattle.format.proofs.Laws.Denials.Items.{none_some, element_refusal, first_numbered, record_numbered, element_numbered}

-- ---- rules of the three (b is true) or of none of them, as 01 told them of a record at p
unfoldable AreSplit : Bool → List Rule → Type 0
AreSplit b [] = Unit {0}
AreSplit b (r ∷ rs) = (is_split r.refusal ≡ b) × AreSplit b rs

unfoldable any_due : List Rule → Bool
any_due [] = false
any_due (r ∷ rs) = r.when || any_due rs

module _ (p : ℕ) where
  abbrev told : List Rule → Option Refusal
  told rs = map (as_before p) (first_of rs)

  split_first : (fs rs : List Rule) → AreSplit true fs → told (fs ++ rs) ≡ cond (any_due fs) (some (refusal 4 p)) (told rs)
  unfolding first_of AreSplit any_due as_before
  split_first [] rs a = refl
  split_first (f ∷ fs) rs (s, a) = by_test f.when (λ h. rw (h, s)) (λ h. rw h (split_first fs rs a))

  others_first : (rs : List Rule) → AreSplit false rs → told rs ≡ first_of rs
  unfolding first_of AreSplit as_before
  others_first [] a = refl
  others_first (r ∷ rs) (s, a) = by_test r.when (λ h. rw (h, s)) (λ h. rw h (others_first rs a))

-- ---- 01's condition holds where one of the three's does
module _ (p : ℕ) (l : List ℕ) where
  abbrev type_broken : Bool
  type_broken = leads_with80 (body_at l) || (is_too_long number_bytes (body_at l) || (is_past_size (body_at l) || false))

  type_broken_lem : (t : Integer) → ByTests number_bytes (body_at l) t → (is_faulty t || is_unfinished t) ≡ type_broken
  unfolding is_too_long is_past_size
  type_broken_lem t (leading a) = rw a
  type_broken_lem t (long a b) = rw (a, b)
  type_broken_lem t (short a b c) = rw (a, b, c)
  type_broken_lem t (over v k a b c) = rw (a, b, c)

  size_broken : (s t : Integer) → ByTests size_bytes l s → ByTests number_bytes (body_at l) t
      → (is_faulty s || (is_faulty t || is_unfinished t)) ≡ any_due (integer_rules p l)
  unfolding any_due integer_rules is_too_long
  size_broken s t (leading a) d = rw a
  size_broken s t (long a b) d = rw (a, b, or_true (leads_with80 (body_at l)))
  size_broken s t (short a b c) d = rw (a, b) (type_broken_lem t d)
  size_broken s t (over v k a b c) d = rw (a, b) (type_broken_lem t d)

  broken_split : is_broken l ≡ any_due (integer_rules p l)
  unfolding is_broken size_at type_at
  broken_split =
      size_broken (size_at l) (type_at l)
      (read_tests size_bytes l (omega arith))
      (read_tests number_bytes (body_at l) (omega arith))

-- ---- so the two tables differ in the three alone
module _ (g : Names) (p : ℕ) (l : List ℕ) where
  integers_split : AreSplit true (integer_rules p l)
  unfolding AreSplit integer_rules
  integers_split = (refl, (refl, (refl, (refl, (refl, tt)))))

  meanings_not : AreSplit false (meaning_rules g p l)
  unfolding AreSplit meaning_rules data_rules
  meanings_not = (refl, (refl, (refl, (refl, tt))))

  record_before : first_of (base_rules g p l) ≡ told p (record_rules g p l)
  unfolding first_of base_rules record_rules as_before
  record_before =
      by_test (is_incomplete l)
      (λ h. rw h)
      (λ h.
      let e = split_first p (integer_rules p l) (meaning_rules g p l) integers_split in
      rw (h, broken_split p l, e, others_first p (meaning_rules g p l) meanings_not))

-- the element at p, of the bytes x ∷ xs
module _ (g : Names) (p : ℕ) where
  pub element_before : (x : ℕ) (xs : List ℕ) → refusal_before g p (x ∷ xs) ≡ map (as_before p) (refusal_of_got (element g p x xs))
  unfolding refusal_before element_rules first_of element
  element_before zero xs = refl
  element_before (suc x) xs = record_before g p (suc x ∷ xs) ∙ ap (map (as_before p)) (sym (element_refusal g p (suc x) xs))

  -- "exactly when": nothing else is told as 4
  split_four : (x : Refusal) → InTable x → (as_before p x ≡ refusal 4 p) ↔ (is_split x ≡ true)
  unfolding as_before
  split_four x t = (λ e. by_test (is_split x) (λ h. h) (λ h. four_stays (rw h at e)), λ h. rw h)
    where
      four_stays : x ≡ refusal 4 p → is_split x ≡ true
      four_stays e = true_false (sym t ∙ ap (λ (y : Refusal). is_among y.number standing) e)

  element_in_table : (x : ℕ) (xs : List ℕ) (y : Refusal) → refusal_of_got (element g p x xs) ≡ some y → InTable y
  element_in_table x xs y e =
      first_numbered (element_rules (x ∷ xs) (record_rules g p (x ∷ xs))) y
      (element_numbered (x ∷ xs) _ (record_numbered g p (x ∷ xs)))
      (sym (element_refusal g p x xs) ∙ e)

  pub element_split : (x : ℕ) (xs : List ℕ)
      → (refusal_before g p (x ∷ xs) ≡ some (refusal 4 p)) ↔ IsSplit (refusal_of_got (element g p x xs))
  element_split x xs = rw (element_before x xs) (go (refusal_of_got (element g p x xs)) (λ y e. split_four y (element_in_table x xs y e)))
    where
      go : (v : Option Refusal) → ((y : Refusal) → v ≡ some y → (as_before p y ≡ refusal 4 p) ↔ (is_split y ≡ true))
          → (map (as_before p) v ≡ some (refusal 4 p)) ↔ IsSplit v
      go none f = (λ q. none_some q, λ q. absurd q)
      go (some y) f = (λ q. (f y refl).0 (some_some q), λ q. ap some ((f y refl).1 q))
