-- What a reading in three moves promises (02 [9]), a field for each sentence; what refuses a move is in Demand1, and Demand3 has
-- the order of calls and moves.
use Rattle.std.specs.Prelude.{◌≡◌, true, false, List, ◌∷◌, map, ℕ, suc, length}
use Rattle.format.specs.Figures.{size_bytes}
use Rattle.format.specs.Integers.{read_integer}
use Rattle.format.specs.Register.{Names}
use Rattle.format.specs.Records.{element, logbook}
use Rattle.format.specs.Reading.{Reading, step}
use Rattle.format.specs.Calls.{Book, Call, step_on}
use Rattle.format.specs.Interleaving.{ReplyOf, listing}
use Rattle.format.specs.Series.{Reads}
use Rattle.format.specs.Moves.{size_of, by_size, Held, nothing, Slow, slow, Told, holds, done, move_on, three_moves, AsStep}
use Rattle.format.specs.SlowSeries.{wipes_taken, spares_call, line_listed, lives, step_lines, Undisturbed}
use Rattle.format.specs.Entries.{entries_of}

pub record SlowReading (b : Book) : Type 0 where
  -- "the tablet takes size, type and data": a record is these three, each with its own refusals
  pub parts : (g : Names) (p x : ℕ) (xs : List ℕ)
      → by_size (size_of (read_integer size_bytes (suc x ∷ xs)) p (length (suc x ∷ xs))) p (suc x ∷ xs) g ≡ element g p (suc x) xs
  -- "in three separate moves": undisturbed they are one step, on any bytes, of any reading
  pub three : (log : List ℕ) (r : Reading) → AsStep r (step logbook log r) (three_moves logbook log r)
  -- "Place 0, a day file's aside, is one move, with nothing held."
  pub first : (r : Reading) → r.position ≡ 0 → move_on logbook b (slow r nothing) ≡ done (step_on logbook b r)
  -- "Otherwise the position stays at the record's start until it is done", and so do count and rows
  pub stays : (s : Slow) (h : Held) → (move_on logbook b s).answer ≡ holds h → (move_on logbook b s).slow ≡ slow s.reading h
  -- a logbook that reads to its end by steps does so by moves, and lists the same: entries, rows and numbers; those of demand 2
  pub reads : Reads logbook b → (ps : List (ReplyOf Told Slow)) × Undisturbed b ps
  pub lists : (ps : List (ReplyOf Told Slow)) → Undisturbed b ps → (r : Reads logbook b) × (listing lives ps ≡ listing step_lines r.list)
  pub entries : (ps : List (ReplyOf Told Slow)) → Undisturbed b ps → map line_listed (listing lives ps) ≡ entries_of b
  -- "no wipe on a record whose type the reading has taken and whose data it hasn't": that, by its letter, is enough
  pub letter : (s : Slow) (c : Call) → wipes_taken s c ≡ false → spares_call logbook b s c ≡ true

-- of any buffer and used length
abbrev pub SlowReadingHolds : Type 0
SlowReadingHolds = (b : Book) → SlowReading b
