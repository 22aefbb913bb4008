-- Proof by cases on numbers and Booleans, from a contradiction, and by a computed table.
use Rattle.std.specs.Prelude.{◌≡◌, refl, Bool, true, false, ◌&&◌, ◌||◌, List, map, ℕ, zero, suc, ◌+◌, ◌<◌, ◌≤◌, get_or, drop, replicate}
use Rattle.std.proofs.Common.{ap, ◌∙◌, arith}
use Rattle.std.proofs.Math.Logic.{dite}
use Rattle.std.proofs.Math.Decide.{dec_lt, ℕ_discrete}
use Rattle.format.specs.Bytes.{up_from}

pub by_order : {P : Type 0} (a b : ℕ) → (a < b → P) → (b ≤ a → P) → P
by_order a b below above = dite (dec_lt a b) below (λ h. above (omega arith))

pub by_equality : {P : Type 0} (a b : ℕ) → (a ≡ b → P) → ((a ≡ b → ⊥) → P) → P
by_equality a b equal other = dite (ℕ_discrete a b) equal other

pub by_test : {P : Type 0} (t : Bool) → (t ≡ true → P) → (t ≡ false → P) → P
by_test true holds fails = holds refl
by_test false holds fails = fails refl

-- an equation of two different constructors makes any two numbers equal
pub from_zero_one : {P : Type 0} → ◌≡◌ {A = ℕ} 0 1 → P
from_zero_one e = absurd (let z : ⊥ = omega arith in z)

pub true_false : {P : Type 0} → true ≡ false → P
true_false e = from_zero_one (cc)

pub and_false : (a : Bool) → (a && false) ≡ false
and_false true = refl
and_false false = refl

pub and_true : (a : Bool) → (a && true) ≡ a
and_true true = refl
and_true false = refl

pub or_true : (a : Bool) → (a || true) ≡ true
or_true true = refl
or_true false = refl

pub or_false : (a : Bool) → (a || false) ≡ a
or_false true = refl
or_false false = refl

pub and_left : (a b : Bool) → (a && b) ≡ true → a ≡ true
and_left true b e = refl
and_left false b e = cc

pub and_right : (a b : Bool) → (a && b) ≡ true → b ≡ true
and_right true b e = e
and_right false b e = cc

-- where f is k at each of n numbers from lo, as a computed list shows, it is k at any of them
pub by_table : {A : Type 0} (f : ℕ → A) (k : A) (lo n : ℕ) → map f (up_from lo n) ≡ replicate n k → (b : ℕ) → lo ≤ b → b < lo + n → f b ≡ k
by_table f k lo zero e b l h = absurd (let z : ⊥ = omega arith in z)
by_table {A} f k lo (suc n) e b l h =
    by_order lo b
    (λ g. by_table f k (suc lo) n (ap (drop 1) e) b g (omega arith))
    (λ g. let q : b ≡ lo = omega arith in ap f q ∙ ap (λ (x : List A). get_or x 0 k) e)
