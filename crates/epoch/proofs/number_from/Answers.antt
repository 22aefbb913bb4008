use Rattle.std.proofs.Common.{sym, ◌∙◌, arith}
use Rattle.epoch.proofs.Loops.{room_on, digit_on}
use Rattle.epoch.proofs.number_from.Goals as goal

pub loop-b-preserved : goal.loop-b-preserved
loop-b-preserved c = let l = c.loop-b in
    rw c.from.ensures (
      l.invariant.0 ∙ digit_on l.n _ l.b-index c.loop-b-test.true (sym c.is_ascii_digit.ensures.value ∙ c.if-not-is_ascii_digit.false),
      room_on 10000 10 l.n _ l.b-index (omega (arith, c.if-not-is_ascii_digit.ensures.cases)) l.invariant.1,
    )
