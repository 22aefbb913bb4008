-- The library's step, its item in a struct.
use Rattle.std.proofs.Common.{refl}
use Rattle.logbook_c.specs.Items.{step_told}
use Rattle.logbook_c.proofs.logbook_step.Goals as goal

pub returns : goal.returns
returns c = let a = c.args in
    let v = c.advance-item in
    step_told a.buf.now a.used a.reading _ v.result _ c.item_as.ensures v.ensures.1 v.ensures.0 refl
