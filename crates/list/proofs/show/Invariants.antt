-- Behind each part the listing goes on from the reading, which has passed a byte for each turn; so the turns are enough.
use Prim.Native.Nat.{◌*◌, ◌≤◌}
use Rattle.format.specs.Figures.{file_limit}
use Rattle.reading.specs.Readings.{reading_of}
use Rattle.list.specs.Handing.{room, Stands}
use Rattle.list.proofs.show.Given as goal

abbrev pub invariant-loop : goal.invariant-loop
invariant-loop g l = Stands l.file l.handed.len (reading_of l.reading) × (l.handed.len ≤ l.counter * room)
    × (l.counter ≤ l.reading.position.0) × (l.reading.position.0 ≤ file_limit)
