-- A reading in three moves does what it promises.
use Rattle.std.specs.Prelude.{◌≡◌, List, [], length, replicate}
use Rattle.std.proofs.Common.{append-nil}
use Rattle.format.specs.Records.{logbook}
use Rattle.format.specs.Calls.{Book}
use Rattle.format.specs.Interleaving.{world, steps, ReplyOf, reordered, replies, sorted, Spared}
use Rattle.format.specs.Series.{Reads}
use Rattle.format.specs.Moves.{Slow, fresh_slow, Told}
use Rattle.format.specs.SlowSeries.{slowly, Undisturbed}
use Rattle.format.proofs.Laws.Moves.{record_parts, three_moves_lem, move_stays, first_place, letter_spares}
use Rattle.format.proofs.Laws.Lists.Moves.{moves_steps, moves_entries}
use Rattle.format.proofs.Demand3.{demand3_slowly}
use Rattle.format.specs.SlowReading.{SlowReadingHolds}

-- the series with no call in it
undisturbed : (b : Book) → Reads logbook b → (ps : List (ReplyOf Told Slow)) × Undisturbed b ps
unfolding Spared sorted reordered
undisturbed b r =
    let m = demand3_slowly b r [] tt in
    let e : replies logbook (slowly logbook) (world b fresh_slow) (replicate (length m.whole) steps) ≡ m.whole =
    rw (append-nil, append-nil) at m.same_replies in
    (m.whole, record { is_to_end = m.to_end; read = e })

-- any buffer and used length
pub slow_reading : SlowReadingHolds
slow_reading b =
    record {
      parts = record_parts;
      three = three_moves_lem logbook;
      first = λ r e. first_place logbook b r (rw e);
      stays = move_stays logbook b;
      reads = undisturbed b;
      lists = moves_steps b;
      entries = moves_entries b;
      letter = letter_spares logbook b;
    }
