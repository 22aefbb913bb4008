-- What C gets of an epoch shift.
use Rattle.std.specs.Prelude.{◌≡◌, refl, pos, Result, Ok, Err}
use Rattle.std.proofs.Common.{ap}
use Rattle.format.specs.Records.{Refusal}
use Rattle.format.specs.Epochs as Epochs
use Rattle.format.specs.Epochs.{shifted, not_shifted, triple}
use Rattle.record.specs.Items.{refusal_of}
use Rattle.record.specs.declared.Refusal as Code
use Rattle.epoch.specs.Answers as Answers
use Rattle.epoch.specs.Answers.{triple_as, point_as, motion_as}
use Rattle.epoch.proofs.Ways.{Known}
use Rattle.epoch.specs.declared.Shifted.{Shifted}
use Rattle.logbook_c.specs.declared.LogbookShifted.{LogbookShifted}

abbrev zeros : Epochs.Triple
zeros = triple (pos 0) (pos 0) (pos 0)

-- where refused, every number is 0
abbrev pub refused_shift : Refusal → LogbookShifted
refused_shift x =
    record {
      refusal = x.number;
      place = x.place;
      epoch = 0;
      position = triple_as zeros;
      point = point_as zeros;
      motion = motion_as zeros;
    }

abbrev pub shifted_as : Epochs.Shifted → LogbookShifted
shifted_as (shifted s) =
    record {
      refusal = 0;
      place = 0;
      epoch = s.epoch;
      position = triple_as s.position;
      point = point_as s.point;
      motion = motion_as s.motion;
    }
shifted_as (not_shifted x) = refused_shift x

-- the same, of the library's answer
abbrev pub shifted_from : Result Shifted Code.Refusal → LogbookShifted
shifted_from (Ok s) =
    record {
      refusal = 0;
      place = 0;
      epoch = s.epoch;
      position = s.position;
      point = s.point;
      motion = s.motion;
    }
shifted_from (Err x) = refused_shift (refusal_of x)

pub shift_told : (s : Epochs.Shifted) → Known s → shifted_from (Answers.shifted_as s) ≡ shifted_as s
shift_told (shifted s) k = refl
shift_told (not_shifted x) k = ap refused_shift k
