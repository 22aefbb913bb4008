-- What is left is no longer than the buffer, and each read leaves less of it.
use Prim.Native.Nat.{◌≤◌}
use lib.ListN.{length}
use Rattle.list.proofs.input.take_all.Given as goal

abbrev pub invariant-loop-from : goal.invariant-loop-from
invariant-loop-from g l = length l.rest ≤ l.room

abbrev pub decreases-loop-from : goal.decreases-loop-from
decreases-loop-from g l = length l.rest
