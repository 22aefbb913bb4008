-- Whole numbers of either sign: sizes of sums and products, and what a hundredfold does.
use Rattle.std.specs.Prelude.{◌≡◌, refl, Bool, cond, ℕ, zero, suc, ◌+◌, ◌-◌, ◌*◌, ◌≤◌, ◌<◌, ℤ, pos, negsuc, neg_ℤ, nat_abs, ◌+ℤ◌, ◌*ℤ◌}
use Rattle.std.proofs.Common.{sym, ap, ◌∙◌, subst, mul_assoc, mul-zero, zero-mul, arith, lt-ltb, le-ltb}
use Rattle.std.proofs.Math.IntN.{sub_ℕ}
use Rattle.format.proofs.Laws.Cases.{by_order}

-- ---- a difference of natural numbers
sub_low : (a b : ℕ) → a < b → sub_ℕ a b ≡ neg_ℤ (pos (b - a))
sub_low a b h =
    ap (λ (t : Bool). cond t (negsuc (b - suc a)) (pos (a - b))) (lt-ltb a b h)
    ∙ ap (λ (n : ℕ). neg_ℤ (pos n)) (let e : suc (b - suc a) ≡ b - a = omega (arith, h) in e)

sub_high : (a b : ℕ) → b ≤ a → sub_ℕ a b ≡ pos (a - b)
sub_high a b h = ap (λ (t : Bool). cond t (negsuc (b - suc a)) (pos (a - b))) (le-ltb a b h)

add_neg : (a b : ℕ) → pos a +ℤ neg_ℤ (pos b) ≡ sub_ℕ a b
add_neg a zero = sym (sub_high a 0 (omega arith) ∙ ap pos (let e : a - 0 ≡ a + 0 = omega arith in e))
add_neg a (suc b) = refl

neg_add : (a b : ℕ) → neg_ℤ (pos a) +ℤ pos b ≡ sub_ℕ b a
neg_add zero b = sym (sub_high b 0 (omega arith) ∙ ap pos (let e : b - 0 ≡ 0 + b = omega arith in e))
neg_add (suc a) b = refl

neg_add_neg : (a b : ℕ) → neg_ℤ (pos a) +ℤ neg_ℤ (pos b) ≡ neg_ℤ (pos (a + b))
neg_add_neg zero zero = refl
neg_add_neg zero (suc b) = sub_low 0 (suc b) (omega arith) ∙ ap (λ (n : ℕ). neg_ℤ (pos n)) (let e : suc b - 0 ≡ 0 + suc b = omega arith in e)
neg_add_neg (suc a) zero = sub_low 0 (suc a) (omega arith) ∙ ap (λ (n : ℕ). neg_ℤ (pos n)) (let e : suc a - 0 ≡ suc a + 0 = omega arith in e)
neg_add_neg (suc a) (suc b) = ap (λ (n : ℕ). neg_ℤ (pos n)) (let e : suc (suc (a + b)) ≡ suc a + suc b = omega arith in e)

-- ---- products
times_neg : (c n : ℕ) → pos c *ℤ neg_ℤ (pos n) ≡ neg_ℤ (pos (c * n))
times_neg c zero = rw (mul-zero c)
times_neg c (suc n) = refl

neg_times : (n d : ℕ) → neg_ℤ (pos n) *ℤ pos d ≡ neg_ℤ (pos (n * d))
neg_times zero d = rw (zero-mul d)
neg_times (suc n) d = refl

neg_times_neg : (n d : ℕ) → neg_ℤ (pos n) *ℤ negsuc d ≡ pos (n * suc d)
neg_times_neg zero d = rw (zero-mul (suc d))
neg_times_neg (suc n) d = refl

pub times_times : (c : ℕ) (m d : ℤ) → pos c *ℤ (m *ℤ d) ≡ pos c *ℤ m *ℤ d
times_times c (pos a) (pos b) = ap pos (sym (mul_assoc c a b))
times_times c (pos a) (negsuc b) = times_neg c (a * suc b) ∙ ap (λ (n : ℕ). neg_ℤ (pos n)) (sym (mul_assoc c a (suc b)))
times_times c (negsuc a) (pos b) =
    times_neg c (suc a * b) ∙ ap (λ (n : ℕ). neg_ℤ (pos n)) (sym (mul_assoc c (suc a) b)) ∙ sym (neg_times (c * suc a) b)
times_times c (negsuc a) (negsuc b) = ap pos (sym (mul_assoc c (suc a) (suc b))) ∙ sym (neg_times_neg (c * suc a) b)

-- ---- a hundredfold of a sum
hundred_sub : (a b : ℕ) → pos 100 *ℤ sub_ℕ a b ≡ sub_ℕ (100 * a) (100 * b)
hundred_sub a b =
    by_order a b
    (λ h. ap (λ (z : ℤ). pos 100 *ℤ z) (sub_low a b h) ∙ times_neg 100 (b - a)
    ∙ ap (λ (n : ℕ). neg_ℤ (pos n)) (let e : 100 * (b - a) ≡ 100 * b - 100 * a = omega (arith, h) in e)
    ∙ sym (sub_low (100 * a) (100 * b) (omega (arith, h))))
    (λ h. ap (λ (z : ℤ). pos 100 *ℤ z) (sub_high a b h)
    ∙ ap pos (let e : 100 * (a - b) ≡ 100 * a - 100 * b = omega (arith, h) in e)
    ∙ sym (sub_high (100 * a) (100 * b) (omega (arith, h))))

pub hundred_add : (x y : ℤ) → pos 100 *ℤ (x +ℤ y) ≡ pos 100 *ℤ x +ℤ pos 100 *ℤ y
hundred_add (pos a) (pos b) = ap pos (let e : 100 * (a + b) ≡ 100 * a + 100 * b = omega arith in e)
hundred_add (pos a) (negsuc b) = hundred_sub a (suc b) ∙ sym (add_neg (100 * a) (100 * suc b))
hundred_add (negsuc a) (pos b) = hundred_sub b (suc a) ∙ sym (neg_add (100 * suc a) (100 * b))
hundred_add (negsuc a) (negsuc b) =
    ap (λ (n : ℕ). neg_ℤ (pos n)) (let e : 100 * suc (suc (a + b)) ≡ 100 * suc a + 100 * suc b = omega arith in e)
    ∙ sym (neg_add_neg (100 * suc a) (100 * suc b))

-- ---- sizes
pub abs_neg : (n : ℕ) → nat_abs (neg_ℤ (pos n)) ≡ n
abs_neg zero = refl
abs_neg (suc n) = refl

pub abs_mul : (x y : ℤ) → nat_abs (x *ℤ y) ≡ nat_abs x * nat_abs y
abs_mul (pos a) (pos b) = refl
abs_mul (pos a) (negsuc b) = abs_neg (a * suc b)
abs_mul (negsuc a) (pos b) = abs_neg (suc a * b)
abs_mul (negsuc a) (negsuc b) = refl

abs_sub : (a b : ℕ) → nat_abs (sub_ℕ a b) ≤ a + b
abs_sub a b =
    by_order a b
    (λ h. subst (λ (z : ℤ). nat_abs z ≤ a + b) (sym (sub_low a b h)) (subst (λ (n : ℕ). n ≤ a + b) (sym (abs_neg (b - a))) (omega (arith, h))))
    (λ h. subst (λ (z : ℤ). nat_abs z ≤ a + b) (sym (sub_high a b h)) (omega (arith, h)))

pub abs_add : (x y : ℤ) → nat_abs (x +ℤ y) ≤ nat_abs x + nat_abs y
abs_add (pos a) (pos b) = omega arith
abs_add (pos a) (negsuc b) = abs_sub a (suc b)
abs_add (negsuc a) (pos b) = omega (arith, abs_sub b (suc a))
abs_add (negsuc a) (negsuc b) = omega arith
