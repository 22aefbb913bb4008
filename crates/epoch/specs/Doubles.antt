-- The double of a whole number, and which bits it has.
use Rattle.std.specs.Prelude.{◌≡◌, Bool, true, false, cond, ℕ, ◌+◌, ◌*◌, ◌^◌, ◌≤◌, ◌<◌, ℤ, pos, negsuc, nat_abs, Float}
use Rattle.std.specs.Float.{binary64}
use Rattle.std.specs.Float.Ieee.{of_int, to_bits}
use Rattle.std.specs.Float.Ieee.Exact.{HasValue}

abbrev pub double_of : ℤ → Float
double_of z = of_int binary64 z

abbrev pub negative : ℤ → Bool
negative (pos n) = false
negative (negsuc n) = true

-- the bits of a double whose value is z: none set for 0; else the sign, the exponent's eleven bits e and the fraction's 52
-- bits f, for plus or minus (1 + f / 2 ^ 52) 2 ^ (e - 1023)
pub data DoubleBits : ℤ → ℕ → Type 0 where
  zero_bits : DoubleBits (pos 0) 0
  whole_bits : (z : ℤ) (e f : ℕ) → 1 ≤ nat_abs z → 1 ≤ e → e ≤ 2046 → f < 2 ^ 52 → (2 ^ 52 + f) * 2 ^ e ≡ nat_abs z * 2 ^ (52 + 1023)
      → DoubleBits z (cond (negative z) (2 ^ 63) 0 + (e * 2 ^ 52 + f))

-- a double that is a whole number: nothing was rounded, and no other bits stand for it
pub record IsDouble (z : ℤ) (x : Float) : Type 0 where
  pub value : HasValue x (negative z) (nat_abs z) 1
  pub bits : DoubleBits z (to_bits binary64 x)
