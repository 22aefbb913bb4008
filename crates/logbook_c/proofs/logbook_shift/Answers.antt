-- The library's answer, in a struct.
use mathlib.Core.Path.{ap, ◌∙◌}
use lib.IntN.{ℤ}
use mir.Syntax.{w64}
use mir.ValLaws.{to_z-of_z}
use Rattle.format.specs.Epochs.{shift}
use Rattle.epoch.specs.Answers as Answers
use Rattle.epoch.specs.Answers.{triple_of}
use Rattle.epoch.proofs.Ways.{shift_known}
use Rattle.logbook_c.specs.Shifts.{shifted_from, shift_told}
use Rattle.logbook_c.proofs.logbook_shift.Goals as goal

pub returns : goal.returns
returns c = let u = c.args.uri.now in
    let d = c.args.bytes.now in
    let m = triple_of c.args.motion in
    c.from.ensures ∙ ap shifted_from c.shift.ensures
    ∙ ap (λ (z : ℤ). shifted_from (Answers.shifted_as (shift u d z m))) (to_z-of_z w64 c.args.asked c.ranges.asked)
    ∙ shift_told (shift u d c.args.asked m) (shift_known u d c.args.asked m)
