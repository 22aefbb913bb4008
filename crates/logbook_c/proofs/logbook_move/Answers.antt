-- The library's move, what it shows and what it holds in structs.
use Rattle.std.proofs.Common.{subst}
use Rattle.slow.specs.Moving as Library
use Rattle.slow.specs.Moving.{slow_of}
use Rattle.slow.specs.declared.Slow.{Slow}
use Rattle.logbook_c.specs.Moves.{move_told}
use Rattle.logbook_c.proofs.logbook_move.Goals as goal

pub returns : goal.returns
returns c = let a = c.args in
    let v = c.advance-outcome in
    move_told a.buf.now a.used a.slow _ (record { outcome = v.result; slow = v.new.self })
    (subst (λ (s : Slow). Library.MovesOn a.buf.now a.used (slow_of s) (record { outcome = v.result; slow = v.new.self })) c.from-slow.ensures v.ensures)
    c.outcome_as.ensures c.from.ensures
