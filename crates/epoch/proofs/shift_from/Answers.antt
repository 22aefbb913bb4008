-- What the code found in its bounds is inside them.
use Rattle.std.proofs.Common.{sym, ◌∙◌}
use Rattle.format.proofs.Laws.Shifts.{inside}
use Rattle.epoch.proofs.shift_from.Goals as goal

pub point_at-requires : goal.point_at-requires
point_at-requires c = inside _ _ _ (sym c.in_bounds.ensures ∙ c.if-not-in_bounds.false)
