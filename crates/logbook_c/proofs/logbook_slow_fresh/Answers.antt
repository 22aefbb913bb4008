-- The library's slow reading, in a struct: it holds nothing.
use Rattle.std.proofs.Common.{◌∙◌, refl, sym, ap, subst}
use Rattle.format.specs.Moves as Format
use Rattle.slow.specs.Numbers.{Numbered}
use Rattle.logbook_c.specs.Moves.{slow_back}
use Rattle.logbook_c.proofs.logbook_slow_fresh.Goals as goal

pub returns : goal.returns
returns c = slow_back _ _ c.from.ensures (subst Numbered (sym (ap (λ (s : Format.Slow). s.held) c.fresh.ensures)) refl) ∙ c.fresh.ensures
