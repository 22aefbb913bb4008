-- Which bits the double of a whole number has.
use Rattle.std.specs.Prelude.{◌≡◌, refl, Bool, cond, ℕ, zero, suc, ◌+◌, ◌-◌, ◌*◌, ◌/◌, ◌^◌, ◌≤◌, ◌<◌, ℤ, pos, negsuc, nat_abs, Float}
use Rattle.std.proofs.Common.{sym, ap, ◌∙◌, subst, mul-one, mul_assoc, mul_right_comm, mul-div_cancel, mul-le-mul_right, le_of_mul-le-mul_right, lt_of_mul-lt-mul_right, pow-suc, arith, lit<, lit≤, pow_pos, pow-add, shl_lt}
use Rattle.std.proofs.Math.Nat.{pow-le-pow_right}
use Rattle.std.proofs.lemmas.Nat.{shl-shr}
use Rattle.std.specs.Float.{nan, inf, fin, binary64}
use Rattle.std.specs.Float.Ieee.{up, down, size, span, climb, round, units, odd, of_int, to_bits}
use Rattle.std.specs.Int.Count.{count_trailing_zeros}
use Rattle.std.specs.Float.Ieee.Digits.{size-lt, size_reaches, size-le}
use Rattle.std.specs.Float.Ieee.Fits.{down_pos}
use Rattle.std.specs.Float.Ieee.Exact.{HasValue}
use Rattle.format.proofs.Laws.Cases.{by_order}
use Rattle.epoch.specs.Doubles.{double_of, negative, DoubleBits, zero_bits, whole_bits, IsDouble}
use Rattle.epoch.proofs.DoubleLaws.{exact}

-- ---- the leading 53 digits of n 2 ^ a, and how many are behind them
record Leading (n a : ℕ) : Type 0 where
  more : ℕ
  kept : ℕ
  is_more : size (n * 2 ^ a) - 53 ≡ more
  not_over : more ≤ a
  enough : a ≤ more + 52
  whole : n * 2 ^ a ≡ kept * 2 ^ more
  at_least : 2 ^ 52 ≤ kept
  below : kept < 2 ^ 53

leading : (n a : ℕ) → 52 ≤ a → 1 ≤ n → n < 2 ^ 53 → Leading n a
leading n a room some few =
    record {
      more = k;
      kept = n * 2 ^ (a - k);
      is_more = refl;
      not_over = small;
      enough = omega (arith, large);
      whole = parted;
      at_least = le_of_mul-le-mul_right (subst (λ (x : ℕ). 2 ^ 52 * 2 ^ k ≤ x) parted lower) (pow_pos k);
      below = lt_of_mul-lt-mul_right (2 ^ k) (subst (λ (x : ℕ). x < 2 ^ 53 * 2 ^ k) parted upper);
    }
  where
    k : ℕ
    k = size (n * 2 ^ a) - 53

    large : a < size (n * 2 ^ a)
    large =
        by_order a (size (n * 2 ^ a)) (λ h. h)
        (λ h. let p : 2 ^ size (n * 2 ^ a) ≤ 2 ^ a = pow-le-pow_right {n = 2} (lit< tt) h in
        let q : 1 * 2 ^ a ≤ n * 2 ^ a = mul-le-mul_right (2 ^ a) some in
        omega (arith, p, q, size-lt (n * 2 ^ a)))

    small : k ≤ a
    small = let p : size (n * 2 ^ a) ≤ 53 + a = size-le (n * 2 ^ a) (53 + a) (shl_lt 53 a few) in omega (arith, p)

    parted : n * 2 ^ a ≡ n * 2 ^ (a - k) * 2 ^ k
    parted =
        ap (λ (x : ℕ). n * 2 ^ x) (let e : a ≡ a - k + k = omega (arith, small) in e)
        ∙ ap (λ (x : ℕ). n * x) (pow-add 2 (a - k) k) ∙ sym (mul_assoc n (2 ^ (a - k)) (2 ^ k))

    lower : 2 ^ 52 * 2 ^ k ≤ n * 2 ^ a
    lower = subst (λ (x : ℕ). x ≤ n * 2 ^ a) (pow-add 2 52 k) (size_reaches (n * 2 ^ a) (52 + k) (omega (arith, large, room)))

    upper : n * 2 ^ a < 2 ^ 53 * 2 ^ k
    upper =
        subst (λ (x : ℕ). n * 2 ^ a < x)
        (ap (λ (x : ℕ). 2 ^ x) (let e : size (n * 2 ^ a) ≡ 53 + k = omega (arith, large, room) in e) ∙ pow-add 2 53 k)
        (size-lt (n * 2 ^ a))

-- ---- the bits of a float that is a whole number
scaled_down : (m n u d w : ℕ) → 0 < d → m * u * 1 ≡ n * d → m * u * w / d ≡ n * w
scaled_down m n u d w h e =
    ap (λ (x : ℕ). x * w / d) (sym (mul-one (m * u)) ∙ e) ∙ ap (λ (x : ℕ). x / d) (mul_right_comm n d w) ∙ mul-div_cancel (n * w) h

bits_are : (x : Float) (s : Bool) (n : ℕ) → HasValue x s n 1
    → to_bits binary64 x ≡ cond s (2 ^ 63) 0 + (size (n * 2 ^ 1074) - 53) * 2 ^ 52 + n * 2 ^ 1074 / 2 ^ (size (n * 2 ^ 1074) - 53)
unfolding to_bits
bits_are nan s n h = absurd h
bits_are (inf t) s n h = absurd h
bits_are (fin t m e) s n h =
    ap (λ (b : Bool). bits b (m * up e * 2 ^ 1074 / down e)) h.0
    ∙ ap (bits s) (scaled_down m n (up e) (down e) (2 ^ 1074) (down_pos e) h.1)
  where
    bits : Bool → ℕ → ℕ
    bits b x = cond b (2 ^ 63) 0 + (size x - 53) * 2 ^ 52 + x / 2 ^ (size x - 53)

laid : (s more kept : ℕ) → 2 ^ 52 ≤ kept → s + more * 2 ^ 52 + kept ≡ s + (suc more * 2 ^ 52 + (kept - 2 ^ 52))
laid s more kept h = omega (arith, h)

doubled : (n more kept : ℕ) → 2 ^ 52 ≤ kept → n * 2 ^ 1074 ≡ kept * 2 ^ more → (2 ^ 52 + (kept - 2 ^ 52)) * 2 ^ suc more ≡ n * 2 ^ (52 + 1023)
doubled n more kept h e =
    ap (λ (x : ℕ). x * 2 ^ suc more) (let q : 2 ^ 52 + (kept - 2 ^ 52) ≡ kept = omega (arith, h) in q)
    ∙ ap (λ (x : ℕ). kept * x) (pow-suc 2 more) ∙ sym (mul_assoc kept (2 ^ more) 2) ∙ ap (λ (x : ℕ). x * 2) (sym e)
    ∙ mul_assoc n (2 ^ 1074) 2 ∙ ap (λ (x : ℕ). n * x) (sym (pow-suc 2 1074))

bits_whole : (z : ℤ) → 1 ≤ nat_abs z → nat_abs z < 2 ^ 53 → DoubleBits z (to_bits binary64 (double_of z))
bits_whole z some few =
    let l : Leading (nat_abs z) 1074 = leading (nat_abs z) 1074 (lit≤ tt) some few in
    let s : ℕ = cond (negative z) (2 ^ 63) 0 in
    subst (DoubleBits z)
    (sym
    (bits_are (double_of z) (negative z) (nat_abs z) (exact z few)
    ∙ ap (λ (k : ℕ). s + k * 2 ^ 52 + nat_abs z * 2 ^ 1074 / 2 ^ k) l.is_more
    ∙ ap (λ (x : ℕ). s + l.more * 2 ^ 52 + x / 2 ^ l.more) l.whole
    ∙ ap (λ (x : ℕ). s + l.more * 2 ^ 52 + x) (shl-shr l.kept l.more)
    ∙ laid s l.more l.kept l.at_least))
    (whole_bits z (suc l.more) (l.kept - 2 ^ 52) some (omega arith) (omega (arith, l.not_over)) (omega (arith, l.below, l.at_least))
    (doubled (nat_abs z) l.more l.kept l.at_least l.whole))

bits_zero : DoubleBits (pos 0) (to_bits binary64 (double_of (pos 0)))
unfolding to_bits of_int round size span climb units odd count_trailing_zeros
bits_zero = zero_bits

bits_of : (z : ℤ) → nat_abs z < 2 ^ 53 → DoubleBits z (to_bits binary64 (double_of z))
bits_of (pos zero) h = bits_zero
bits_of (pos (suc n)) h = bits_whole (pos (suc n)) (omega arith) h
bits_of (negsuc n) h = bits_whole (negsuc n) (omega arith) h

pub is_double : (z : ℤ) → nat_abs z < 2 ^ 53 → IsDouble z (double_of z)
is_double z h = record { value = exact z h; bits = bits_of z h }
