-- The digits, and one byte behind them.
use Rattle.text.specs.Numerals.{laid_byte}
use Rattle.text.proofs.Line.number.Goals as goal

pub returns-clause-laid : goal.returns-clause-laid
returns-clause-laid c = laid_byte _ _ _ _ c.requires c.put_decimal-end.ensures
