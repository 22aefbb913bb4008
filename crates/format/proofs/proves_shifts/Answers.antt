use Rattle.format.proofs.EpochShift.{shifts}
use Rattle.format.proofs.proves_shifts.Goals as goal

pub returns : goal.returns
returns c = shifts
