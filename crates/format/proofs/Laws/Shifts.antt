-- The laws of an epoch shift: each of its ways, and what a shot that was moved is known by.
use Rattle.std.specs.Prelude.{◌≡◌, refl, true, false, ◌&&◌, List, [], ◌∷◌, ◌++◌, ℕ, zero, suc, ◌+◌, ◌≤◌, take, drop, leb, eqb, ℤ, pos, nat_abs, ◌+ℤ◌, ◌*ℤ◌}
use Rattle.std.proofs.Math.Path.{sym, ap}
use Rattle.std.proofs.Common.{◌∙◌, subst, le_trans, mul-le-mul_left, mul-le-mul_right, arith, length-drop, take-append-drop, length-take-le, drop-drop, take_all}
use Rattle.std.proofs.Math.Option.{Option, none, some}
use borrow.Author.Tests.{leb-true, eqb-true, eq-eqb, ne_eqb}
use Rattle.std.proofs.Math.ListN.{length}
use Rattle.format.specs.Figures.{shot_length, coordinate_limit, difference_limit, motion_limit}
use Rattle.format.specs.Bytes.{AreBytes}
use Rattle.format.specs.Shapes.{ShotBytes}
use Rattle.format.specs.Records.{Refusal, refusal}
use Rattle.format.specs.Epochs.{epoch_of, Triple, coordinate_at, position_of, is_within, in_bounds, difference_of, moved_of, yearly_of, Shot, Shifted, shifted, not_shifted, shot_of, shift_from, shift_named, shift, Sizes, Inside}
use Rattle.format.proofs.Laws.Cases.{by_test, from_zero_one, and_left, and_right}
use Rattle.format.proofs.Laws.Wholes.{times_times, hundred_add, abs_mul, abs_add}
use Rattle.format.proofs.Laws.Epochs.{signed_means}

-- ---- the ways through a shift
module _ (epoch : ℕ) (d : List ℕ) (asked : ℤ) (m : Triple) where
  pub from_other_length : (length d ≡ shot_length → ⊥) → shift_from epoch d asked m ≡ not_shifted (refusal 25 0)
  unfolding shift_from
  from_other_length l = rw (ne_eqb (length d) shot_length l)

  pub from_over : length d ≡ shot_length → in_bounds (position_of d) (difference_of asked epoch) m ≡ false
      → shift_from epoch d asked m ≡ not_shifted (refusal 26 0)
  unfolding shift_from
  from_over l k = rw (eq-eqb (length d) shot_length l, k)

  pub from_done : length d ≡ shot_length → in_bounds (position_of d) (difference_of asked epoch) m ≡ true
      → shift_from epoch d asked m ≡ shifted (shot_of epoch (position_of d) asked m)
  unfolding shift_from
  from_done l k = rw (eq-eqb (length d) shot_length l, k)

module _ (u d : List ℕ) (asked : ℤ) (m : Triple) where
  pub shift_unnamed : epoch_of u ≡ none → shift u d asked m ≡ not_shifted (refusal 24 0)
  unfolding shift shift_named
  shift_unnamed h = ap (λ (o : Option ℕ). shift_named o d asked m) h

  pub shift_named_lem : (epoch : ℕ) → epoch_of u ≡ some epoch → shift u d asked m ≡ shift_from epoch d asked m
  unfolding shift shift_named
  shift_named_lem epoch h = ap (λ (o : Option ℕ). shift_named o d asked m) h

  -- what was moved
  pub record Done (s : Shot) : Type 0 where
    pub epoch : ℕ
    pub is_named : epoch_of u ≡ some epoch
    pub is_long : length d ≡ shot_length
    pub is_inside : in_bounds (position_of d) (difference_of asked epoch) m ≡ true
    pub is_shot : shot_of epoch (position_of d) asked m ≡ s

  shot_in : Shot → Shifted → Shot
  shot_in s (shifted t) = t
  shot_in s (not_shifted x) = s

  refused_shifted : {P : Type 0} {x : Refusal} {s : Shot} → not_shifted x ≡ shifted s → P
  refused_shifted e = from_zero_one (cc)

  done_from : (s : Shot) (o : Option ℕ) → epoch_of u ≡ o → shift u d asked m ≡ shifted s → Done s
  unfolding shot_in
  done_from s none h e = refused_shifted (sym (shift_unnamed h) ∙ e)
  done_from s (some epoch) h e =
      let f : shift_from epoch d asked m ≡ shifted s = sym (shift_named_lem epoch h) ∙ e in
      by_test (eqb (length d) shot_length)
      (λ t. let l : length d ≡ shot_length = eqb-true (length d) shot_length t in
      by_test (in_bounds (position_of d) (difference_of asked epoch) m)
      (λ k. record { epoch = epoch; is_named = h; is_long = l; is_inside = k; is_shot = ap (shot_in s) (sym (from_done epoch d asked m l k) ∙ f) })
      (λ k. refused_shifted (sym (from_over epoch d asked m l k) ∙ f)))
      (λ t. refused_shifted (sym (from_other_length epoch d asked m (λ l. from_zero_one (cc))) ∙ f))

  pub shot_done : (s : Shot) → shift u d asked m ≡ shifted s → Done s
  shot_done s e = done_from s (epoch_of u) refl e

-- ---- within the bounds
pub sizes_within : (n : ℕ) (t : Triple) → is_within n t ≡ true → Sizes n t
sizes_within n t h =
    let yz : (leb (nat_abs t.y) n && leb (nat_abs t.z) n) ≡ true = and_right (leb (nat_abs t.x) n) _ h in
    record {
      size_x = leb-true (nat_abs t.x) n (and_left (leb (nat_abs t.x) n) _ h);
      size_y = leb-true (nat_abs t.y) n (and_left (leb (nat_abs t.y) n) _ yz);
      size_z = leb-true (nat_abs t.z) n (and_right (leb (nat_abs t.y) n) _ yz);
    }

pub inside : (p : Triple) (difference : ℤ) (m : Triple) → in_bounds p difference m ≡ true → Inside p difference m
unfolding in_bounds
inside p difference m h =
    let dm : (leb (nat_abs difference) difference_limit && is_within motion_limit m) ≡ true = and_right (is_within coordinate_limit p) _ h in
    record {
      coordinates = sizes_within coordinate_limit p (and_left (is_within coordinate_limit p) _ h);
      apart = leb-true (nat_abs difference) difference_limit (and_left (leb (nat_abs difference) difference_limit) _ dm);
      motions = sizes_within motion_limit m (and_right (leb (nat_abs difference) difference_limit) _ dm);
    }

-- ---- the steps of the formula
pub moved_along : (p m difference : ℤ) → pos 100 *ℤ moved_of p m difference ≡ pos 100 *ℤ (pos 100 *ℤ p) +ℤ yearly_of m *ℤ difference
moved_along p m difference =
    hundred_add (pos 100 *ℤ p) (m *ℤ difference) ∙ ap (λ (z : ℤ). pos 100 *ℤ (pos 100 *ℤ p) +ℤ z) (times_times 100 m difference)

module _ (p m difference : ℤ) (hp : nat_abs p ≤ coordinate_limit) (hm : nat_abs m ≤ motion_limit) (hd : nat_abs difference ≤ difference_limit) where
  pub position_size_lem : nat_abs (pos 100 *ℤ p) ≤ 10000000000000
  position_size_lem = omega (arith, abs_mul (pos 100) p, hp)

  pub product_size_lem : nat_abs (m *ℤ difference) ≤ 1000000000
  product_size_lem =
      subst (λ (n : ℕ). n ≤ 1000000000) (sym (abs_mul m difference))
      (le_trans (mul-le-mul_left (nat_abs m) hd) (mul-le-mul_right difference_limit hm))

  pub point_size_lem : nat_abs (moved_of p m difference) ≤ 10001000000000
  point_size_lem = omega (arith, abs_add (pos 100 *ℤ p) (m *ℤ difference), position_size_lem, product_size_lem)

  pub motion_size_lem : nat_abs (yearly_of m) ≤ 1000000
  motion_size_lem = omega (arith, abs_mul (pos 100) m, hm)

-- ---- the bytes of a shot
bytes_take : (n : ℕ) (d : List ℕ) → AreBytes d → AreBytes (take n d)
unfolding AreBytes
bytes_take zero d h = tt
bytes_take (suc n) [] h = tt
bytes_take (suc n) (b ∷ d) h = (h.0, bytes_take n d h.1)

bytes_drop : (n : ℕ) (d : List ℕ) → AreBytes d → AreBytes (drop n d)
unfolding AreBytes
bytes_drop zero d h = h
bytes_drop (suc n) [] h = h
bytes_drop (suc n) (b ∷ d) h = bytes_drop n d h.1

pub shot_laid : (d : List ℕ) → length d ≡ shot_length → AreBytes d → ShotBytes d (position_of d).x (position_of d).y (position_of d).z
unfolding position_of coordinate_at
shot_laid d l h =
    record {
      a = take 8 (drop 0 d);
      b = take 8 (drop 8 d);
      c = take 8 (drop 16 d);
      long_a = long_at 0 (omega (arith, l));
      long_b = long_at 8 (omega (arith, l));
      long_c = long_at 16 (omega (arith, l));
      is_x = signed_means (take 8 (drop 0 d)) (long_at 0 (omega (arith, l))) (bytes_at 0);
      is_y = signed_means (take 8 (drop 8 d)) (long_at 8 (omega (arith, l))) (bytes_at 8);
      is_z = signed_means (take 8 (drop 16 d)) (long_at 16 (omega (arith, l))) (bytes_at 16);
      all = sym (take-append-drop 8 d) ∙ ap (λ (r : List ℕ). take 8 d ++ r)
          (sym (take-append-drop 8 (drop 8 d)) ∙ ap (λ (r : List ℕ). take 8 (drop 8 d) ++ r) third);
    }
  where
    third : drop 8 (drop 8 d) ≡ take 8 (drop 16 d)
    third = drop-drop 8 8 d ∙ sym (take_all 8 (drop 16 d) (omega (arith, length-drop 16 d, l)))

    long_at : (n : ℕ) → n + 8 ≤ length d → length (take 8 (drop n d)) ≡ 8
    long_at n k = length-take-le 8 (drop n d) (omega (arith, length-drop n d, k))

    bytes_at : (n : ℕ) → AreBytes (take 8 (drop n d))
    bytes_at n = bytes_take 8 (drop n d) (bytes_drop n d h)
