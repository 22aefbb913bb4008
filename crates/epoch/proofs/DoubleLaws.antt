-- Products and sums of whole numbers below 2 ^ 53 are exact in binary64. `value_of s n` is n with the sign s, and `whole_of s n` the float nearest to it.
use Rattle.std.specs.Prelude.{◌≡◌, refl, ℕ, zero, suc, ◌+◌, ◌-◌, ◌*◌, ◌^◌, ◌≤◌, ◌<◌, Bool, true, false, cond, ◌&&◌, T, ltb, ℤ, pos, negsuc, neg_ℤ, nat_abs, ◌+ℤ◌, ◌*ℤ◌, Float}
use Rattle.std.proofs.Common.{sym, ap, ◌∙◌, subst, mul-one, mul-zero, zero-mul, mul_comm, mul_assoc, mul-pos, add-mul, le_of_lt, zero-lt-suc, lt_of_lt_of_le, add_comm, add-zero, mul-lt-mul_of_pos_right, mul-le-mul_right, not-suc-le-zero, arith, lit≤, lit<, le→leb, lt→ltb, pow_mono, shl_lt, lt-ltb, le-ltb}
use Rattle.std.proofs.Math.Nat.{mul-sub, sub-zero}
use Rattle.std.specs.Bool.{beq}
use Rattle.std.proofs.lemmas.Bool.{false≢true}
use Rattle.std.specs.Int.Count.{count_trailing_zeros}
use Rattle.std.specs.Float.{nan, inf, fin, binary64}
use Rattle.std.specs.Float.Ieee.{emax, low, up, down, unlike, round, size, span, climb, units, odd, sum, add, mul, of_int, in_float, of_bits, of_fields}
use Rattle.std.specs.Float.Ieee.Fits.{down_pos}
use Rattle.std.specs.Float.Ieee.Exact.{HasValue, round_exact}
use Rattle.std.specs.Float.Ieee.Scale.{round_same}
use Rattle.format.proofs.Laws.Cases.{by_order}
use Rattle.epoch.specs.Doubles.{double_of, negative}

abbrev pub value_of : Bool → ℕ → ℤ
value_of false n = pos n
value_of true n = neg_ℤ (pos n)

abbrev pub whole_of : Bool → ℕ → Float
whole_of s n = round binary64 s n 1

pub of_whole : (z : ℤ) → of_int binary64 z ≡ whole_of (negative z) (nat_abs z)
unfolding of_int
of_whole (pos n) = refl
of_whole (negsuc n) = refl

pub is_value : (z : ℤ) → z ≡ value_of (negative z) (nat_abs z)
is_value (pos n) = refl
is_value (negsuc n) = refl

-- a whole number below 2 ^ 53 is a float's value
pub has_value : (s : Bool) (n : ℕ) → n < 2 ^ 53 → HasValue (whole_of s n) s n 1
has_value s n h = round_exact binary64 s n 1 n (low binary64) (zero-lt-suc 0) h
    (subst (λ (x : ℕ). n * 2 ^ low binary64 < 2 ^ x) (add_comm (suc (emax binary64)) (low binary64))
    (lt_of_lt_of_le (shl_lt 53 (low binary64) h) (pow_mono {i = 53 + low binary64} {j = 1024 + low binary64} (lit≤ tt))))
    (sym (mul-one (n * 2 ^ low binary64)))

-- (a c) (b d) ≡ (a b) (c d)
cross : (a c b d : ℕ) → a * c * (b * d) ≡ a * b * (c * d)
cross a c b d =
    mul_assoc a c (b * d) ∙ ap (λ (x : ℕ). a * x) (sym (mul_assoc c b d) ∙ ap (λ (x : ℕ). x * d) (mul_comm c b) ∙ mul_assoc b c d)
    ∙ sym (mul_assoc a b (c * d))

-- ---- the product
mul_value : (x y : Float) (s t : Bool) (a b : ℕ) → HasValue x s a 1 → HasValue y t b 1 → mul binary64 x y ≡ whole_of (unlike s t) (a * b)
unfolding mul
mul_value nan y s t a b u v = absurd u
mul_value (inf r) y s t a b u v = absurd u
mul_value (fin r m e) nan s t a b u v = absurd v
mul_value (fin r m e) (inf q) s t a b u v = absurd v
mul_value (fin r m e) (fin q n d) s t a b u v =
    ap (λ (z : Bool). round binary64 (unlike z q) (m * up e * (n * up d)) (down e * down d)) u.0
    ∙ ap (λ (z : Bool). round binary64 (unlike s z) (m * up e * (n * up d)) (down e * down d)) v.0
    ∙ round_same binary64 (unlike s t) (m * up e * (n * up d)) (down e * down d) (a * b) 1 (mul-pos (down_pos e) (down_pos d)) (zero-lt-suc 0)
    (mul-one (m * up e * (n * up d))
    ∙ ap (λ (z : ℕ). z * (n * up d)) (sym (mul-one (m * up e)) ∙ u.1) ∙ ap (λ (z : ℕ). a * down e * z) (sym (mul-one (n * up d)) ∙ v.1)
    ∙ cross a (down e) b (down d))

pub mul_whole : (s t : Bool) (a b : ℕ) → a < 2 ^ 53 → b < 2 ^ 53 → mul binary64 (whole_of s a) (whole_of t b) ≡ whole_of (unlike s t) (a * b)
mul_whole s t a b h k = mul_value (whole_of s a) (whole_of t b) s t a b (has_value s a h) (has_value t b k)

-- ---- the sum
ltb_scale : (a b c : ℕ) → 0 < c → ltb (a * c) (b * c) ≡ ltb a b
ltb_scale a b c h =
    by_order a b (λ l. lt-ltb (a * c) (b * c) (mul-lt-mul_of_pos_right l h) ∙ sym (lt-ltb a b l))
    (λ l. le-ltb (a * c) (b * c) (mul-le-mul_right c l) ∙ sym (le-ltb a b l))

sub_mul : (a b c : ℕ) → (a - b) * c ≡ a * c - b * c
sub_mul a b c = mul_comm (a - b) c ∙ mul-sub c a b ∙ ap (λ (x : ℕ). x - c * b) (mul_comm c a) ∙ ap (λ (x : ℕ). a * c - x) (mul_comm c b)

sum_scale : (s t : Bool) (a b c : ℕ) → 0 < c → sum binary64 s (a * c) t (b * c) c ≡ sum binary64 s a t b 1
unfolding sum
sum_scale s t a b c h =
    ap (λ (z : Bool). cond (beq s t) (round binary64 s (a * c + b * c) c)
    (cond z (round binary64 t (b * c - a * c) c) (round binary64 (s && ltb (b * c) (a * c)) (a * c - b * c) c))) (ltb_scale a b c h)
    ∙ ap (λ (z : Bool). cond (beq s t) (round binary64 s (a * c + b * c) c)
    (cond (ltb a b) (round binary64 t (b * c - a * c) c) (round binary64 (s && z) (a * c - b * c) c))) (ltb_scale b a c h)
    ∙ ap (λ (z : Float). cond (beq s t) z (cond (ltb a b) (round binary64 t (b * c - a * c) c) (round binary64 (s && ltb b a) (a * c - b * c) c)))
    (round_same binary64 s (a * c + b * c) c (a + b) 1 h (zero-lt-suc 0) (mul-one (a * c + b * c) ∙ sym (add-mul a b c)))
    ∙ ap (λ (z : Float). cond (beq s t) (round binary64 s (a + b) 1) (cond (ltb a b) z (round binary64 (s && ltb b a) (a * c - b * c) c)))
    (round_same binary64 t (b * c - a * c) c (b - a) 1 h (zero-lt-suc 0) (mul-one (b * c - a * c) ∙ sym (sub_mul b a c)))
    ∙ ap (λ (z : Float). cond (beq s t) (round binary64 s (a + b) 1) (cond (ltb a b) (round binary64 t (b - a) 1) z))
    (round_same binary64 (s && ltb b a) (a * c - b * c) c (a - b) 1 h (zero-lt-suc 0) (mul-one (a * c - b * c) ∙ sym (sub_mul a b c)))

add_value : (x y : Float) (s t : Bool) (a b : ℕ) → HasValue x s a 1 → HasValue y t b 1 → add binary64 x y ≡ sum binary64 s a t b 1
unfolding add
add_value nan y s t a b u v = absurd u
add_value (inf r) y s t a b u v = absurd u
add_value (fin r m e) nan s t a b u v = absurd v
add_value (fin r m e) (inf q) s t a b u v = absurd v
add_value (fin r m e) (fin q n d) s t a b u v =
    ap (λ (z : Bool). sum binary64 z (m * up e * down d) q (n * up d * down e) (down e * down d)) u.0
    ∙ ap (λ (z : Bool). sum binary64 s (m * up e * down d) z (n * up d * down e) (down e * down d)) v.0
    ∙ ap (λ (z : ℕ). sum binary64 s z t (n * up d * down e) (down e * down d))
    (ap (λ (z : ℕ). z * down d) (sym (mul-one (m * up e)) ∙ u.1) ∙ mul_assoc a (down e) (down d))
    ∙ ap (λ (z : ℕ). sum binary64 s (a * (down e * down d)) t z (down e * down d))
    (ap (λ (z : ℕ). z * down e) (sym (mul-one (n * up d)) ∙ v.1) ∙ mul_assoc b (down d) (down e) ∙ ap (λ (z : ℕ). b * z) (mul_comm (down d) (down e)))
    ∙ sum_scale s t a b (down e * down d) (mul-pos (down_pos e) (down_pos d))

-- the sum of two whole numbers, the first of them no negative zero, is the float of their sum
pub sum_whole : (s t : Bool) (a b : ℕ) → (s ≡ true → 0 < a) → sum binary64 s a t b 1 ≡ of_int binary64 (value_of s a +ℤ value_of t b)
unfolding sum of_int
sum_whole false false a b h = refl
sum_whole false true a zero h =
    ap (λ (z : Bool). cond z (round binary64 true (0 - a) 1) (round binary64 false (a - 0) 1)) (le-ltb a 0 (omega arith))
    ∙ ap (λ (n : ℕ). round binary64 false n 1) (sub-zero a ∙ sym (add-zero a))
sum_whole false true a (suc b) h = by_order a (suc b)
    (λ l. ap (λ (z : Bool). cond z (round binary64 true (suc b - a) 1) (round binary64 false (a - suc b) 1)) (lt-ltb a (suc b) l)
    ∙ ap (λ (n : ℕ). round binary64 true n 1) (down_one l)
    ∙ ap (λ (z : Bool). of_int binary64 (cond z (negsuc (suc b - suc a)) (pos (a - suc b)))) (sym (lt-ltb a (suc b) l)))
    (λ l. ap (λ (z : Bool). cond z (round binary64 true (suc b - a) 1) (round binary64 false (a - suc b) 1)) (le-ltb a (suc b) l)
    ∙ ap (λ (z : Bool). of_int binary64 (cond z (negsuc (suc b - suc a)) (pos (a - suc b)))) (sym (le-ltb a (suc b) l)))
  where
    down_one : a < suc b → suc b - a ≡ suc (suc b - suc a)
    down_one l = omega (arith, l)
sum_whole true t zero b h = absurd (not-suc-le-zero (h refl))
sum_whole true false (suc a) b h = by_order b (suc a)
    (λ l. ap (λ (z : Bool). cond z (round binary64 false (b - suc a) 1) (round binary64 (ltb b (suc a)) (suc a - b) 1)) (le-ltb (suc a) b (omega (arith, l)))
    ∙ ap (λ (z : Bool). round binary64 z (suc a - b) 1) (lt-ltb b (suc a) l) ∙ ap (λ (n : ℕ). round binary64 true n 1) (down_one l)
    ∙ ap (λ (z : Bool). of_int binary64 (cond z (negsuc (suc a - suc b)) (pos (b - suc a)))) (sym (lt-ltb b (suc a) l)))
    (λ l. ap (λ (z : Bool). cond (ltb (suc a) b) (round binary64 false (b - suc a) 1) (round binary64 z (suc a - b) 1)) (le-ltb b (suc a) l)
    ∙ by_order (suc a) b
    (λ k. ap (λ (z : Bool). cond z (round binary64 false (b - suc a) 1) (round binary64 false (suc a - b) 1)) (lt-ltb (suc a) b k))
    (λ k. ap (λ (z : Bool). cond z (round binary64 false (b - suc a) 1) (round binary64 false (suc a - b) 1)) (le-ltb (suc a) b k)
    ∙ ap (λ (n : ℕ). round binary64 false n 1) (level l k))
    ∙ ap (λ (z : Bool). of_int binary64 (cond z (negsuc (suc a - suc b)) (pos (b - suc a)))) (sym (le-ltb b (suc a) l)))
  where
    down_one : b < suc a → suc a - b ≡ suc (suc a - suc b)
    down_one l = omega (arith, l)

    level : suc a ≤ b → b ≤ suc a → suc a - b ≡ b - suc a
    level l k = omega (arith, l, k)
sum_whole true true (suc a) zero h =
    ap (λ (n : ℕ). round binary64 true n 1) (up_one a)
    ∙ ap (λ (z : Bool). of_int binary64 (cond z (negsuc (suc a - suc 0)) (pos (0 - suc a)))) (sym (lt-ltb 0 (suc a) (zero-lt-suc a)))
  where
    up_one : (n : ℕ) → suc n + 0 ≡ suc (suc n - suc 0)
    up_one n = omega arith
sum_whole true true (suc a) (suc b) h = ap (λ (n : ℕ). round binary64 true n 1) (up_two a b)
  where
    up_two : (n m : ℕ) → suc n + suc m ≡ suc (suc (n + m))
    up_two n m = omega arith

pub add_whole : (s t : Bool) (a b : ℕ) → a < 2 ^ 53 → b < 2 ^ 53 → (s ≡ true → 0 < a)
    → add binary64 (whole_of s a) (whole_of t b) ≡ of_int binary64 (value_of s a +ℤ value_of t b)
add_whole s t a b h k p = add_value (whole_of s a) (whole_of t b) s t a b (has_value s a h) (has_value t b k) ∙ sum_whole s t a b p

pub value_mul : (s t : Bool) (a b : ℕ) → value_of s a *ℤ value_of t b ≡ value_of (unlike s t) (a * b)
value_mul false false a b = refl
value_mul false true a zero = ap pos (mul-zero a) ∙ ap (λ (n : ℕ). neg_ℤ (pos n)) (sym (mul-zero a))
value_mul false true a (suc b) = refl
value_mul true false zero b = ap pos (zero-mul b) ∙ ap (λ (n : ℕ). neg_ℤ (pos n)) (sym (zero-mul b))
value_mul true false (suc a) b = refl
value_mul true true zero zero = refl
value_mul true true zero (suc b) = ap (λ (n : ℕ). neg_ℤ (pos n)) (zero-mul (suc b)) ∙ ap pos (sym (zero-mul (suc b)))
value_mul true true (suc a) zero = ap (λ (n : ℕ). neg_ℤ (pos n)) (mul-zero (suc a)) ∙ ap pos (sym (mul-zero (suc a)))
value_mul true true (suc a) (suc b) = refl

-- ---- for whole numbers themselves
pub in_range : (z : ℤ) → nat_abs z < 2 ^ 53 → T (in_float binary64 z)
unfolding in_float
in_range (pos n) h = le→leb n (2 ^ 53) (le_of_lt h)
in_range (negsuc n) h = lt→ltb n (2 ^ 53) (le_of_lt h)

-- the double of a whole number below 2 ^ 53 is that number
pub exact : (z : ℤ) → nat_abs z < 2 ^ 53 → HasValue (double_of z) (negative z) (nat_abs z) 1
exact z h = subst (λ (x : Float). HasValue x (negative z) (nat_abs z) 1) (sym (of_whole z)) (has_value (negative z) (nat_abs z) h)

-- the literals 100.0 and 0.0
pub hundred : of_bits binary64 4636737291354636288 ≡ double_of (pos 100)
unfolding of_bits of_fields of_int round size span climb units odd count_trailing_zeros
hundred = refl

pub zero_double : of_bits binary64 0 ≡ double_of (pos 0)
unfolding of_bits of_fields of_int round size span climb units odd count_trailing_zeros
zero_double = refl

pub product : (m d : ℤ) → nat_abs m < 2 ^ 53 → nat_abs d < 2 ^ 53
    → mul binary64 (double_of m) (double_of d) ≡ whole_of (unlike (negative m) (negative d)) (nat_abs m * nat_abs d)
product m d hm hd =
    ap (λ (x : Float). mul binary64 x (double_of d)) (of_whole m)
    ∙ ap (λ (x : Float). mul binary64 (whole_of (negative m) (nat_abs m)) x) (of_whole d)
    ∙ mul_whole (negative m) (negative d) (nat_abs m) (nat_abs d) hm hd

product_value : (m d : ℤ) → value_of (unlike (negative m) (negative d)) (nat_abs m * nat_abs d) ≡ m *ℤ d
product_value m d =
    sym (value_mul (negative m) (negative d) (nat_abs m) (nat_abs d))
    ∙ ap (λ (x : ℤ). x *ℤ value_of (negative d) (nat_abs d)) (sym (is_value m))
    ∙ ap (λ (x : ℤ). m *ℤ x) (sym (is_value d))

-- 100 z is no negative zero
below_zero : (z : ℤ) → unlike false (negative z) ≡ true → 0 < 100 * nat_abs z
below_zero (pos n) e = absurd (false≢true e)
below_zero (negsuc n) e = mul-pos (zero-lt-suc 99) (zero-lt-suc n)

of_value : (s : Bool) (n : ℕ) → (s ≡ true → 0 < n) → whole_of s n ≡ of_int binary64 (value_of s n)
unfolding of_int
of_value false n h = refl
of_value true zero h = absurd (not-suc-le-zero (h refl))
of_value true (suc n) h = refl

pub hundredfold : (z : ℤ) → nat_abs z < 2 ^ 53 → mul binary64 (double_of (pos 100)) (double_of z) ≡ double_of (pos 100 *ℤ z)
hundredfold z h =
    product (pos 100) z (lit< tt) h ∙ of_value (unlike false (negative z)) (100 * nat_abs z) (below_zero z) ∙ ap double_of (product_value (pos 100) z)

pub sum_exact : (p m d : ℤ) → nat_abs p < 2 ^ 53 → nat_abs m < 2 ^ 53 → nat_abs d < 2 ^ 53 → 100 * nat_abs p < 2 ^ 53 → nat_abs m * nat_abs d < 2 ^ 53
    → add binary64 (mul binary64 (double_of (pos 100)) (double_of p)) (mul binary64 (double_of m) (double_of d)) ≡ double_of (pos 100 *ℤ p +ℤ m *ℤ d)
sum_exact p m d hp hm hd h k =
    ap (λ (x : Float). add binary64 x (mul binary64 (double_of m) (double_of d))) (product (pos 100) p (lit< tt) hp)
    ∙ ap (λ (x : Float). add binary64 (whole_of (unlike false (negative p)) (100 * nat_abs p)) x) (product m d hm hd)
    ∙ add_whole (unlike false (negative p)) (unlike (negative m) (negative d)) (100 * nat_abs p) (nat_abs m * nat_abs d) h k (below_zero p)
    ∙ ap (λ (x : ℤ). double_of (x +ℤ value_of (unlike (negative m) (negative d)) (nat_abs m * nat_abs d))) (product_value (pos 100) p)
    ∙ ap (λ (x : ℤ). double_of (pos 100 *ℤ p +ℤ x)) (product_value m d)
