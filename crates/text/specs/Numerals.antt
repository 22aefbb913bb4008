-- How long a numeral is, and texts stored one behind another.
use Rattle.std.specs.Prelude.{◌≡◌, List, [], ◌∷◌, ◌++◌, ℕ, zero, suc, ◌+◌, ◌*◌, ◌/◌, ◌%◌, ◌≤◌, ◌<◌, length, set}
use Rattle.std.proofs.Common.{ap, ◌∙◌, arith, length-append}
use Rattle.format.specs.Bytes.{stored}
use Rattle.format.proofs.Laws.Bytes.{stored_first, stored_byte, stored_behind}
use Rattle.format.proofs.Laws.Cases.{by_order}
use Rattle.format.specs.Listing.{decimal}
use Rattle.format.proofs.Laws.Listing.{decimal_digit, decimal_more}

-- ten to a power
unfoldable pub ten_to : ℕ → ℕ
ten_to zero = 1
ten_to (suc k) = 10 * ten_to k

pub digit_length : (v : ℕ) → v < 10 → length (decimal v) ≡ 1
digit_length v h = rw (decimal_digit v h)

pub more_length : (v : ℕ) → 10 ≤ v → length (decimal v) ≡ length (decimal (v / 10)) + 1
more_length v h = rw (decimal_more v h, length-append)

-- a number below ten to a power has at most that many digits
pub decimal_below : (k v : ℕ) → v < ten_to (suc k) → length (decimal v) ≤ suc k
unfolding ten_to
decimal_below zero v h = omega (arith, digit_length v (omega arith))
decimal_below (suc k) v h =
    by_order v 10
    (λ l. omega (arith, digit_length v l))
    (λ l. omega (arith, more_length v l, decimal_below k (v / 10) (omega arith)))

-- a number of 64 bits has at most 20
pub decimal_short : (v : ℕ) → v < 18446744073709551616 → length (decimal v) ≤ 20
unfolding ten_to
decimal_short v h = decimal_below 19 v (omega arith)

-- ---- a numeral as it is stored: one digit, or the last digit behind the others
module _ (d : List ℕ) (at v : ℕ) (fits : at + length (decimal v) ≤ length d) where
  pub put_digit : v < 10 → set d at (0x30 + v) ≡ stored d at (decimal v)
  put_digit h = rw (decimal_digit v h) (stored_first d at (0x30 + v) (omega (arith, digit_length v h)))

  pub put_more : (n : ℕ) → 10 ≤ v → n ≡ at + length (decimal (v / 10))
      → set (stored d at (decimal (v / 10))) n (0x30 + v % 10) ≡ stored d at (decimal v)
  put_more n h e =
      let l = more_length v h in
      rw (decimal_more v h) (stored_byte d at (decimal (v / 10)) (omega arith) n (0x30 + v % 10) e (omega arith))

pub ruleset numeral_steps = (digit_length, more_length, put_digit, put_more)

-- ---- texts one behind another: x stored at a place of d gives e, and ends at n
abbrev pub Laid : List ℕ → ℕ → List ℕ → List ℕ → ℕ → Type 0
Laid d at x e n = (n ≡ at + length x) × (e ≡ stored d at x)

-- a text laid behind another
pub laid_behind : (d : List ℕ) (at : ℕ) (x y : List ℕ) → at + length x ≤ length d → {e f : List ℕ} {n m : ℕ}
    → Laid d at x e n → Laid e n y f m → Laid d at (x ++ y) f m
laid_behind d at x y fits {e} {f} {n} {m} (p, q) (r, s) =
    (rw length-append (omega arith), s ∙ ap (λ (z : List ℕ). stored z n y) q ∙ stored_behind d at x fits n y p)

pub laid_byte : (d : List ℕ) (at : ℕ) (x : List ℕ) (b : ℕ) → at + length x < length d → {e : List ℕ} {n : ℕ}
    → Laid d at x e n → Laid d at (x ++ (b ∷ [])) (set e n b) (n + 1)
laid_byte d at x b fits {e} {n} (p, q) =
    (rw length-append (omega arith), ap (λ (z : List ℕ). set z n b) q ∙ stored_byte d at x (omega arith) n b p (omega arith))
