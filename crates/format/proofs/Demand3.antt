-- Demand 3 is proved, of readings by steps and by moves; Laws/Order is behind it.
use Rattle.format.specs.Records.{logbook}
use Rattle.format.proofs.Laws.Order.Standing.{stands_none}
use Rattle.format.proofs.Laws.Order.Frames.{fresh_sees}
use Rattle.format.proofs.Laws.Order.Runs.{same_in_both}
use Rattle.format.proofs.Laws.Order.Slowly.{slow_same_in_both}
use Rattle.format.specs.Demand3.{Demand3, Demand3Slowly}

-- any logbook that reads to its end, any series of events, one fresh reading
pub demand3 : Demand3
demand3 b r es = same_in_both logbook (stands_none _) fresh_sees b r es

-- 02 [9]: "Show demand 3 again for that reading." The statement is SlowSeries.SameInBothSlow, under the request's premise.
pub demand3_slowly : Demand3Slowly
demand3_slowly b r es p = slow_same_in_both logbook (stands_none _) fresh_sees b r es p
