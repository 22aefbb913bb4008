-- What the doubles of a shift are (02 [11]): "The doubles are whole micrometres, so every step is exact, and that shall be shown
-- against the whole-number formula."
use Rattle.std.specs.Prelude.{◌≡◌, List, ℕ, ◌*◌, ◌^◌, ◌≤◌, ◌<◌, ℤ, pos, nat_abs, ◌-ℤ◌, ◌*ℤ◌, Float}
use Rattle.std.proofs.Common.{sym, subst, arith}
use Rattle.std.proofs.lemmas.Int.{to_z-of_z}
use Rattle.std.specs.Float.{binary64}
use Rattle.std.specs.Float.Ieee.{unlike, mul, add}
use Rattle.std.specs.Float.Ieee.Exact.{HasValue}
use Rattle.format.specs.Figures.{coordinate_limit, difference_limit, motion_limit}
use Rattle.format.specs.Epochs.{Triple, position_of, difference_of, moved_of, yearly_of, Shot, shifted, shift, Inside}
use Rattle.format.proofs.Laws.Wholes.{abs_mul}
use Rattle.format.proofs.Laws.Shifts.{inside, Done, shot_done, product_size_lem, point_size_lem, motion_size_lem}
use Rattle.epoch.specs.Doubles.{double_of, negative, IsDouble}
use Rattle.epoch.proofs.DoubleLaws.{whole_of, has_value, product, hundred, hundredfold, sum_exact}
use Rattle.epoch.proofs.DoubleBits.{is_double}

-- the three steps to a coordinate: p 100, m d, which may be a zero of either sign, and their sum
pub record Steps (p m d : ℤ) : Type 0 where
  pub hundredfold : mul binary64 (double_of (pos 100)) (double_of p) ≡ double_of (pos 100 *ℤ p)
  pub product : HasValue (mul binary64 (double_of m) (double_of d)) (unlike (negative m) (negative d)) (nat_abs (m *ℤ d)) 1
  pub sum : add binary64 (mul binary64 (double_of (pos 100)) (double_of p)) (mul binary64 (double_of m) (double_of d)) ≡ double_of (moved_of p m d)

pub record Coordinate (p m d : ℤ) (point motion : ℤ) : Type 0 where
  pub steps : Steps p m d
  pub yearly : mul binary64 (double_of (pos 100)) (double_of m) ≡ double_of motion
  pub point_double : IsDouble point (double_of point)
  pub motion_double : IsDouble motion (double_of motion)

pub record Doubles (asked : ℤ) (m : Triple) (s : Shot) : Type 0 where
  pub of_x : Coordinate s.position.x m.x (asked -ℤ pos s.epoch) s.point.x s.motion.x
  pub of_y : Coordinate s.position.y m.y (asked -ℤ pos s.epoch) s.point.y s.motion.y
  pub of_z : Coordinate s.position.z m.z (asked -ℤ pos s.epoch) s.point.z s.motion.z

module _ (p m d : ℤ) (hp : nat_abs p ≤ coordinate_limit) (hm : nat_abs m ≤ motion_limit) (hd : nat_abs d ≤ difference_limit) where
  small : nat_abs m * nat_abs d < 2 ^ 53
  small = let k : nat_abs (m *ℤ d) ≤ 1000000000 = product_size_lem p m d hp hm hd in omega (arith, k, abs_mul m d)

  pub steps_exact : Steps p m d
  steps_exact =
      record {
        hundredfold = hundredfold p (omega (arith, hp));
        product =
            subst (λ (x : Float). HasValue x (unlike (negative m) (negative d)) (nat_abs (m *ℤ d)) 1) (sym (product m d (omega (arith, hm)) (omega (arith, hd))))
            (subst (λ (n : ℕ). HasValue (whole_of (unlike (negative m) (negative d)) (nat_abs m * nat_abs d)) (unlike (negative m) (negative d)) n 1)
            (sym (abs_mul m d))
            (has_value (unlike (negative m) (negative d)) (nat_abs m * nat_abs d) small));
        sum = sum_exact p m d (omega (arith, hp)) (omega (arith, hm)) (omega (arith, hd)) (omega (arith, hp)) small;
      }

  pub sum_of_steps : add binary64 (mul binary64 (double_of (pos 100)) (double_of p)) (mul binary64 (double_of m) (double_of d))
      ≡ double_of (moved_of p m d)
  sum_of_steps = steps_exact.sum

  coordinate_exact : Coordinate p m d (moved_of p m d) (yearly_of m)
  coordinate_exact =
      record {
        steps = steps_exact;
        yearly = hundredfold m (omega (arith, hm));
        point_double = is_double (moved_of p m d) (omega (arith, point_size_lem p m d hp hm hd));
        motion_double = is_double (yearly_of m) (omega (arith, motion_size_lem p m d hp hm hd));
      }

-- what the code's steps need
pub ruleset steps = (hundred, to_z-of_z, hundredfold, sum_of_steps)

-- any URI, data, asked epoch and motion
pub doubles : (u d : List ℕ) (asked : ℤ) (m : Triple) (s : Shot) → shift u d asked m ≡ shifted s → Doubles asked m s
doubles u d asked m s e =
    let w : Done u d asked m s = shot_done u d asked m s e in
    let i : Inside (position_of d) (difference_of asked w.epoch) m = inside (position_of d) (difference_of asked w.epoch) m w.is_inside in
    subst (Doubles asked m) w.is_shot
    (record {
      of_x = coordinate_exact (position_of d).x m.x (difference_of asked w.epoch) i.coordinates.size_x i.motions.size_x i.apart;
      of_y = coordinate_exact (position_of d).y m.y (difference_of asked w.epoch) i.coordinates.size_y i.motions.size_y i.apart;
      of_z = coordinate_exact (position_of d).z m.z (difference_of asked w.epoch) i.coordinates.size_z i.motions.size_z i.apart;
    })
