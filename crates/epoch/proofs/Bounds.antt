-- The difference from an epoch, where it saturates; a signed field's bits.
use Rattle.std.specs.Prelude.{◌≡◌, ◌≤◌, ◌<◌, ◌&&◌, Bool, true, false, cond, leb, ltb, T, ℕ, suc, ◌+◌, ◌-◌, ◌^◌, ℤ, pos, negsuc, neg_ℤ, nat_abs, ◌+ℤ◌, ◌-ℤ◌}
use Rattle.std.proofs.Common.{sym, ap, ◌∙◌, subst, arith, le-ltb, ltb-true, to_z, of_z, Fits, SFits}
use Rattle.std.specs.Int.{w64, saturate_signed}
use Rattle.std.proofs.lemmas.Int.{to_z_pos, to_z-of_z}
use Rattle.std.proofs.lemmas.Bool.{lt-leb}
use Rattle.std.proofs.Math.IntN.{ -ℤ-+ℤ_cancel}
use Rattle.std.specs.Int.Signed.{mag, lt_z, non_neg}
use Rattle.std.specs.Float.{binary64}
use Rattle.std.specs.Float.Ieee.{in_float}
use Rattle.format.specs.Figures.{coordinate_limit, difference_limit, motion_limit}
use Rattle.format.specs.Epochs.{Triple, is_within, in_bounds, difference_of}
use Rattle.format.proofs.Laws.Cases.{from_zero_one, true_false, and_false}
use Rattle.format.proofs.Laws.Wholes.{abs_neg, abs_add}
use Rattle.format.proofs.Laws.Shifts.{inside}
use Rattle.epoch.proofs.DoubleLaws.{in_range}

-- a difference that has no room saturates, and both are over the bound
saturated_within : (z : ℤ) → leb (nat_abs (saturate_signed w64 z)) difference_limit ≡ leb (nat_abs z) difference_limit
saturated_within (pos n) = grind arith
saturated_within (negsuc n) = grind arith

pub saturated_bounds : (p : Triple) (z : ℤ) (m : Triple) → in_bounds p (saturate_signed w64 z) m ≡ in_bounds p z m
unfolding in_bounds
saturated_bounds p z m = ap (λ (b : Bool). is_within coordinate_limit p && (b && is_within motion_limit m)) (saturated_within z)

-- one within the bound is itself
pub saturated_back : (z : ℤ) → nat_abs (saturate_signed w64 z) ≤ difference_limit → saturate_signed w64 z ≡ z
saturated_back (pos n) h = grind arith
saturated_back (negsuc n) h = grind arith

-- an asked epoch over 2,000,000 in size is over the bound from every epoch
module _ (asked : ℤ) (epoch : ℕ) (k : epoch < 1000000) where
  far_apart : 2000000 < nat_abs asked → difference_limit < nat_abs (difference_of asked epoch)
  far_apart h =
      let back : nat_abs (asked -ℤ pos epoch +ℤ pos epoch) ≡ nat_abs asked = ap nat_abs (-ℤ-+ℤ_cancel asked (pos epoch)) in
      omega (arith, abs_add (asked -ℤ pos epoch) (pos epoch), back, h, k)

  pub far_over : (p m : Triple) → 2000000 < nat_abs asked → in_bounds p (difference_of asked epoch) m ≡ false
  unfolding in_bounds
  far_over p m h = rw (lt-leb (nat_abs (difference_of asked epoch)) difference_limit (far_apart h)) (and_false (is_within coordinate_limit p))

-- a signed field reaches a call as its bits, read back
pub field_back : (z : ℤ) → mag z < 9223372036854775808 → to_z w64 (of_z w64 z) ≡ z
field_back z h = to_z-of_z w64 z (record { sfits = h })

-- what the tests of a shift need
pub ruleset shifting = (to_z-of_z, inside, saturated_bounds, saturated_back)

-- ---- laws of the difference's steps: of an asked epoch of at most 2,000,000 in size it doesn't wrap; kept since docs/PORT.md names them as theorems
mag_small : (z : ℤ) → mag z ≤ nat_abs z
mag_small (pos n) = omega arith
mag_small (negsuc n) = omega arith

module _ (asked : ℤ) (epoch : ℕ) (k : epoch < 1000000) where
  pub near_fits : nat_abs asked ≤ 2000000 → SFits w64 (asked -ℤ pos epoch)
  near_fits h = record { sfits = omega (arith, mag_small (asked -ℤ pos epoch), abs_add asked (neg_ℤ (pos epoch)), abs_neg epoch, h, k) }

  pub difference_back : SFits w64 asked → nat_abs asked ≤ 2000000
      → to_z w64 (of_z w64 (to_z w64 (of_z w64 asked) -ℤ to_z w64 epoch)) ≡ difference_of asked epoch
  difference_back f h =
      ap (λ (z : ℤ). to_z w64 (of_z w64 (z -ℤ to_z w64 epoch))) (to_z-of_z w64 asked f)
      ∙ ap (λ (z : ℤ). to_z w64 (of_z w64 (asked -ℤ z))) (to_z_pos w64 epoch (omega (arith, k)))
      ∙ to_z-of_z w64 (asked -ℤ pos epoch) (near_fits h)

  pub difference_fits : SFits w64 asked → nat_abs asked ≤ 2000000 → SFits w64 (to_z w64 (of_z w64 asked) -ℤ to_z w64 epoch)
  difference_fits f h =
      subst (λ (z : ℤ). SFits w64 (z -ℤ to_z w64 epoch)) (sym (to_z-of_z w64 asked f))
      (subst (λ (z : ℤ). SFits w64 (asked -ℤ z)) (sym (to_z_pos w64 epoch (omega (arith, k)))) (near_fits h))

-- ---- laws of a size's steps, by the number's sign, kept since docs/PORT.md names them as theorems
less_one : (a : ℕ) → negsuc 0 -ℤ negsuc a ≡ pos a
less_one a =
    ap (λ (t : Bool). cond t (negsuc (1 - suc (suc a))) (pos (suc a - 1))) (le-ltb (suc a) 1 (omega arith))
    ∙ ap pos (let e : suc a - 1 ≡ a = omega arith in e)

back : (a : ℕ) → a < 9223372036854775808 → to_z w64 (of_z w64 (negsuc 0 -ℤ negsuc a)) ≡ pos a
back a h = ap (λ (z : ℤ). to_z w64 (of_z w64 z)) (less_one a) ∙ to_z_pos w64 a h

not_below : {P : Type 0} (n : ℕ) → ltb n 0 ≡ true → P
not_below n h = from_zero_one (let z : n < 0 = ltb-true n 0 h in let e : ◌≡◌ {A = ℕ} 0 1 = omega (arith, z) in e)

pub below_fits : (z : ℤ) → SFits w64 z → lt_z z (pos 0) ≡ true → SFits w64 (negsuc 0 -ℤ z)
below_fits (pos n) f h = not_below n h
below_fits (negsuc a) f h = subst (SFits w64) (sym (less_one a)) (record { sfits = f.sfits })

pub below_cast : (z : ℤ) → SFits w64 z → lt_z z (pos 0) ≡ true
    → T (non_neg (to_z w64 (of_z w64 (negsuc 0 -ℤ z)))) × Fits w64 (nat_abs (to_z w64 (of_z w64 (negsuc 0 -ℤ z))))
below_cast (pos n) f h = not_below n h
below_cast (negsuc a) f h =
    subst (λ (y : ℤ). T (non_neg y) × Fits w64 (nat_abs y)) (sym (back a f.sfits)) (tt, record { fits = omega (arith, f.sfits) })

pub below_size : (z : ℤ) → SFits w64 z → lt_z z (pos 0) ≡ true → nat_abs (to_z w64 (of_z w64 (negsuc 0 -ℤ z))) + 1 ≡ nat_abs z
below_size (pos n) f h = not_below n h
below_size (negsuc a) f h = ap (λ (y : ℤ). nat_abs y + 1) (back a f.sfits) ∙ (let e : a + 1 ≡ suc a = omega arith in e)

pub size_fits : (z : ℤ) → SFits w64 z → nat_abs z < 18446744073709551616
size_fits (pos n) f = omega (arith, f.sfits)
size_fits (negsuc n) f = omega (arith, f.sfits)

pub above_cast : (z : ℤ) → SFits w64 z → lt_z z (pos 0) ≡ false → T (non_neg z) × Fits w64 (nat_abs z)
above_cast (pos n) f h = (tt, record { fits = omega (arith, f.sfits) })
above_cast (negsuc a) f h = true_false h

-- ---- laws of the steps of a field's bits, read back, kept since docs/PORT.md names them as theorems
pub fits_back : (z : ℤ) → SFits w64 z → SFits w64 (to_z w64 (of_z w64 z))
fits_back z f = subst (SFits w64) (sym (to_z-of_z w64 z f)) f

pub range_back : (z : ℤ) → SFits w64 z → nat_abs z < 2 ^ 53 → T (in_float binary64 (to_z w64 (of_z w64 z)))
range_back z f h = subst (λ (y : ℤ). T (in_float binary64 y)) (sym (to_z-of_z w64 z f)) (in_range z h)
