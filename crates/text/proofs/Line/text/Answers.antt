-- The bytes, and one byte behind them.
use mathlib.Core.Path.{refl}
use Rattle.text.specs.Numerals.{laid_byte}
use Rattle.text.proofs.Line.text.Goals as goal

pub returns-clause-laid : goal.returns-clause-laid
returns-clause-laid c = laid_byte _ _ _ _ c.requires (refl, c.put.ensures)
