-- What the code's numbers are in format's Epochs, and the answer that stands for the definition's.
use Rattle.std.proofs.Math.Option as Math
use Rattle.std.specs.Prelude.{ℕ, Option, Some, None, Result, Ok, Err}
use Rattle.format.specs.Epochs as Epochs
use Rattle.record.specs.Items.{refusal_back}
use Rattle.record.specs.declared.Refusal.{Refusal}
use Rattle.epoch.specs.Doubles.{double_of}
use Rattle.epoch.specs.declared.Triple.{Triple}
use Rattle.epoch.specs.declared.Point.{Point}
use Rattle.epoch.specs.declared.Motion.{Motion}
use Rattle.epoch.specs.declared.Shifted.{Shifted}

abbrev pub number_of : Option ℕ → Math.Option ℕ
number_of (Some n) = Math.some n
number_of None = Math.none

abbrev pub triple_of : Triple → Epochs.Triple
triple_of t = record { x = t.x; y = t.y; z = t.z }

abbrev pub triple_as : Epochs.Triple → Triple
triple_as t = record { x = t.x; y = t.y; z = t.z }

abbrev pub point_as : Epochs.Triple → Point
point_as t = record { x = double_of t.x; y = double_of t.y; z = double_of t.z }

abbrev pub motion_as : Epochs.Triple → Motion
motion_as t = record { x = double_of t.x; y = double_of t.y; z = double_of t.z }

abbrev pub moved_as : Epochs.Shot → Shifted
moved_as s = record { epoch = s.epoch; position = triple_as s.position; point = point_as s.point; motion = motion_as s.motion }

abbrev pub shifted_as : Epochs.Shifted → Result Shifted Refusal
shifted_as (Epochs.shifted s) = Ok (moved_as s)
shifted_as (Epochs.not_shifted x) = Err (refusal_back x)
