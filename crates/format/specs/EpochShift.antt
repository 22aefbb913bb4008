-- What an epoch shift promises (02 [11]), a field for each sentence; what refuses it is in Demand1.
use Rattle.std.specs.Prelude.{◌≡◌, List, ℕ, ◌≤◌, ℤ, pos, nat_abs, ◌+ℤ◌, ◌-ℤ◌, ◌*ℤ◌}
use Rattle.format.specs.Bytes.{AreBytes}
use Rattle.format.specs.Shapes.{EpochUri, ShotBytes}
use Rattle.format.specs.Epochs.{Triple, Shot, shift, shifted}

-- one coordinate, of p tenths of a millimetre with m a year, d hundredths of a year on
pub record Moves (p m d : ℤ) (point motion : ℤ) : Type 0 where
  -- "each motion 100 times the given one"
  pub yearly : motion ≡ pos 100 *ℤ m
  -- "100 times the position plus motion times difference": in hundredths of a micrometre, the position and its yearly motion
  -- for so many hundredths of a year
  pub along : pos 100 *ℤ point ≡ pos 100 *ℤ (pos 100 *ℤ p) +ℤ motion *ℤ d
  -- "so every step is exact": the products and the sum are far below 2 ^ 53
  pub position_size : nat_abs (pos 100 *ℤ p) ≤ 10000000000000
  pub product_size : nat_abs (m *ℤ d) ≤ 1000000000
  pub point_size : nat_abs point ≤ 10001000000000
  pub motion_size : nat_abs motion ≤ 1000000

pub record Shifts (u d : List ℕ) (asked : ℤ) (m : Triple) (s : Shot) : Type 0 where
  -- "The epoch comes only from the URI"
  pub epoch_named : EpochUri u s.epoch
  -- "A shot's data is three signed 8-byte big-endian coordinates"
  pub bytes_laid : AreBytes d → ShotBytes d s.position.x s.position.y s.position.z
  -- "The difference is the asked epoch less the shot's"
  pub moves_x : Moves s.position.x m.x (asked -ℤ pos s.epoch) s.point.x s.motion.x
  pub moves_y : Moves s.position.y m.y (asked -ℤ pos s.epoch) s.point.y s.motion.y
  pub moves_z : Moves s.position.z m.z (asked -ℤ pos s.epoch) s.point.z s.motion.z

-- of any URI, data, asked epoch and motion
abbrev pub ShiftsHold : Type 0
ShiftsHold = (u d : List ℕ) (asked : ℤ) (m : Triple) (s : Shot) → shift u d asked m ≡ shifted s → Shifts u d asked m s
