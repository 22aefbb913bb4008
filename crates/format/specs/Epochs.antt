-- A shot moved from one epoch to another (02 [11]): the epoch that a URI names, the coordinates in a shot's data, and the
-- formula, all in whole numbers.
use Rattle.std.specs.Prelude.{Bool, ◌&&◌, cond, List, [], ◌∷◌, ◌++◌, ℕ, ◌+◌, ◌-◌, ◌*◌, ◌^◌, length, take, drop, get_or, leb, ltb, eqb, ℤ, pos, neg_ℤ, nat_abs, ◌+ℤ◌, ◌-ℤ◌, ◌*ℤ◌, ◌≤◌}
use Rattle.std.proofs.Math.Option.{Option, none, some, map}
use Rattle.format.specs.Text.{ascii}
use Rattle.format.specs.Bytes.{same, within}
use Rattle.format.specs.Figures.{shot_length, coordinate_limit, difference_limit, motion_limit}
use Rattle.format.specs.Records.{Refusal, refusal}

-- ---- "The epoch comes only from the URI", here in hundredths of a year

-- the number that digits write behind v; none where a byte is no digit
unfoldable pub number_from : ℕ → List ℕ → Option ℕ
number_from v [] = some v
number_from v (b ∷ bs) = cond (within 0x30 0x39 b) (number_from (v * 10 + (b - 0x30)) bs) none

-- "four digits, or those, a point and two digits"
unfoldable pub epoch_in : List ℕ → Option ℕ
epoch_in t =
    cond (eqb (length t) 4) (map (λ y. y * 100) (number_from 0 t))
    (cond (eqb (length t) 7 && eqb (get_or t 4 0) 0x2E) (number_from 0 (take 4 t ++ drop 5 t)) none)

-- "urn:ep: and" these
unfoldable pub epoch_of : List ℕ → Option ℕ
epoch_of u = cond (same (take 7 u) (ascii "urn:ep:")) (epoch_in (drop 7 u)) none

-- ---- "A shot's data is three signed 8-byte big-endian coordinates in tenths of a millimetre"
pub record Triple : Type 0 where
  pub x : ℤ
  pub y : ℤ
  pub z : ℤ

abbrev pub triple : ℤ → ℤ → ℤ → Triple
triple a b c = record { x = a; y = b; z = c }

unfoldable pub big_endian : List ℕ → ℕ
big_endian [] = 0
big_endian (b ∷ bs) = b * 256 ^ length bs + big_endian bs

-- from half of 2 ^ 64 on a number stands for itself less 2 ^ 64
unfoldable pub signed : ℕ → ℤ
signed v = cond (ltb v (2 ^ 63)) (pos v) (neg_ℤ (pos (2 ^ 64 - v)))

unfoldable pub coordinate_at : ℕ → List ℕ → ℤ
coordinate_at place d = signed (big_endian (take 8 (drop place d)))

unfoldable pub position_of : List ℕ → Triple
position_of d = triple (coordinate_at 0 d) (coordinate_at 8 d) (coordinate_at 16 d)

-- ---- the bounds: "at most .. in size"
abbrev pub is_within : ℕ → Triple → Bool
is_within n t = leb (nat_abs t.x) n && (leb (nat_abs t.y) n && leb (nat_abs t.z) n)

unfoldable pub in_bounds : Triple → ℤ → Triple → Bool
in_bounds p difference m =
    is_within coordinate_limit p && (leb (nat_abs difference) difference_limit && is_within motion_limit m)

-- ---- the formula, in micrometres

-- "The difference is the asked epoch less the shot's"
abbrev pub difference_of : ℤ → ℕ → ℤ
difference_of asked epoch = asked -ℤ pos epoch

-- "Each coordinate is 100 times the position plus motion times difference"
abbrev pub moved_of : ℤ → ℤ → ℤ → ℤ
moved_of p m difference = pos 100 *ℤ p +ℤ m *ℤ difference

-- ".., each motion 100 times the given one."
abbrev pub yearly_of : ℤ → ℤ
yearly_of m = pos 100 *ℤ m

abbrev pub point_of : Triple → Triple → ℤ → Triple
point_of p m difference =
    triple (moved_of p.x m.x difference) (moved_of p.y m.y difference) (moved_of p.z m.z difference)

abbrev pub motion_of : Triple → Triple
motion_of m = triple (yearly_of m.x) (yearly_of m.y) (yearly_of m.z)

-- ---- the call
pub record Shot : Type 0 where
  pub epoch : ℕ  -- its own
  pub position : Triple  -- its own
  pub point : Triple  -- moved
  pub motion : Triple  -- a year's

pub data Shifted : Type 0 where
  shifted : Shot → Shifted
  not_shifted : Refusal → Shifted

abbrev pub shot_of : ℕ → Triple → ℤ → Triple → Shot
shot_of epoch p asked m =
    record { epoch = epoch; position = p; point = point_of p m (difference_of asked epoch); motion = motion_of m }

-- "25 data not 24 bytes; 26 a figure over its bound"
unfoldable pub shift_from : ℕ → List ℕ → ℤ → Triple → Shifted
shift_from epoch d asked m =
    cond (eqb (length d) shot_length)
    (cond (in_bounds (position_of d) (difference_of asked epoch) m)
    (shifted (shot_of epoch (position_of d) asked m))
    (not_shifted (refusal 26 0)))
    (not_shifted (refusal 25 0))

-- "24 another URI"
unfoldable pub shift_named : Option ℕ → List ℕ → ℤ → Triple → Shifted
shift_named none d asked m = not_shifted (refusal 24 0)
shift_named (some epoch) d asked m = shift_from epoch d asked m

-- from URI, data, asked epoch and motion
unfoldable pub shift : List ℕ → List ℕ → ℤ → Triple → Shifted
shift u d asked m = shift_named (epoch_of u) d asked m

-- ---- each coordinate of at most n in size, and a request within its bounds: what the arithmetic of a shift needs
pub record Sizes (n : ℕ) (t : Triple) : Type 0 where
  pub size_x : nat_abs t.x ≤ n
  pub size_y : nat_abs t.y ≤ n
  pub size_z : nat_abs t.z ≤ n

pub record Inside (p : Triple) (difference : ℤ) (m : Triple) : Type 0 where
  pub coordinates : Sizes coordinate_limit p
  pub apart : nat_abs difference ≤ difference_limit
  pub motions : Sizes motion_limit m
