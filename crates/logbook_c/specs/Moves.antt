-- What C gets of a slow reading and a move.
use Rattle.std.specs.Prelude.{Option, Result, Ok, Err, ◌≡◌, refl, List, ℕ, take}
use Rattle.std.proofs.Common.{ap, ap₂, ◌∙◌}
use Rattle.format.specs.Records.{logbook}
use Rattle.format.specs.Calls.{book_in}
use Rattle.format.specs.Moves as F
use Rattle.format.specs.Moves.{nothing, sized, typed, held_of, tells, holds, move_on}
use Rattle.slow.specs.Moving as Library
use Rattle.slow.specs.Moving.{slow_of, outcome_of, LyingOutcome}
use Rattle.slow.specs.Holding.{held_in, held_back}
use Rattle.slow.specs.Numbers.{numbers_of, numbers_back, Numbered, made_numbered, moved_numbered}
use Rattle.reading.specs.Readings.{reading_of}
use Rattle.reading.specs.declared.Reading.{Reading}
use Rattle.reading.specs.declared.Item.{Item}
use Rattle.slow.specs.declared.Slow.{Slow}
use Rattle.slow.specs.declared.Held.{Held}
use Rattle.slow.specs.declared.Held.TheVariants.{Sized, Typed}
use Rattle.record.specs.declared.Refusal.{Refusal}
use Rattle.slow.specs.declared.Taken.{Taken}
use Rattle.slow.specs.declared.Taken.TheVariants as Variant
use Rattle.slow.specs.declared.Move.{Move}
use Rattle.logbook_c.specs.declared.LogbookItem.{LogbookItem}
use Rattle.logbook_c.specs.declared.LogbookSlow.{LogbookSlow}
use Rattle.logbook_c.specs.declared.LogbookMove.{LogbookMove}
use Rattle.logbook_c.specs.Items.{bare_as, item_as, item_in, Bounded, item_shown}

-- ---- a slow reading that C hands in
abbrev pub slow_from : LogbookSlow → Slow
slow_from s =
    record {
      reading = s.reading;
      held = held_back (held_of s.type_place s.end s.number s.data_place);
    }

-- and what is handed back of one: its reading and the four numbers of what it holds
pub record SlowAs (s : Slow) (x : LogbookSlow) : Type 0 where
  pub reading : x.reading ≡ s.reading
  pub numbers : (record { 0 = x.type_place }, record { 0 = x.end }, x.number, record { 0 = x.data_place }) ≡ numbers_of s.held

-- ---- what a move at p shows: an item, or kind 7 for a size and kind 8 for a type that is now held
abbrev pub outcome_as : ℕ → Result (Taken Item) Refusal → LogbookItem
outcome_as p (Ok (Variant.Done i)) = item_as (Ok i)
outcome_as p (Ok (Variant.Holds (Sized t e))) = bare_as 7 0 p
outcome_as p (Ok (Variant.Holds (Typed t e n q))) = bare_as 8 0 p
outcome_as p (Err x) = item_as (Err x)

-- what the definition shows; a move never answers that nothing is held
abbrev pub held_told : ℕ → F.Held → LogbookItem
held_told p nothing = bare_as 7 0 p
held_told p (sized t e) = bare_as 7 0 p
held_told p (typed t e n q) = bare_as 8 0 p

abbrev pub item_told : ℕ → F.Told → LogbookItem
item_told p (tells x) = item_in x
item_told p (holds h) = held_told p h

-- it lies within n bytes
abbrev pub BoundedOutcome : ℕ → Result (Taken Item) Refusal → Type 0
BoundedOutcome n (Ok (Variant.Done i)) = Bounded n (Ok i)
BoundedOutcome n (Ok (Variant.Holds h)) = Unit {0}
BoundedOutcome n (Err x) = Unit {0}

-- a move is the definition's, what it shows and the reading it hands back
pub record MovesOn (l : List ℕ) (used : ℕ) (s : LogbookSlow) (x : LogbookMove) : Type 0 where
  pub item : x.item ≡ item_told s.reading.position.0 (move_on logbook (book_in l used) (slow_of (slow_from s))).answer
  pub slow : slow_of (slow_from x.slow) ≡ (move_on logbook (book_in l used) (slow_of (slow_from s))).slow

-- ---- laws
-- what lies in the log is what the definition shows
pub outcome_shown : (l : List ℕ) (p : ℕ) (a : Result (Taken Item) Refusal) → LyingOutcome l a → outcome_as p a ≡ item_told p (outcome_of l a)
outcome_shown l p (Ok (Variant.Done i)) k = item_shown l (Ok i) k
outcome_shown l p (Ok (Variant.Holds (Sized t e))) k = refl
outcome_shown l p (Ok (Variant.Holds (Typed t e n q))) k = refl
outcome_shown l p (Err x) k = refl

-- what is handed back of a reading that holds what four numbers can hold is that reading again
pub slow_back : (s : Slow) (x : LogbookSlow) → SlowAs s x → Numbered (held_in s.held) → slow_of (slow_from x) ≡ slow_of s
slow_back s x k n = ap₂ (λ (r : Reading) (h : Option Held). F.slow (reading_of r) (held_in h)) k.reading (numbers_back s.held _ k.numbers n)

pub move_told : (l : List ℕ) (used : ℕ) (s : LogbookSlow) (x : LogbookMove) (m : Move) → Library.MovesOn l used (slow_of (slow_from s)) m
    → x.item ≡ outcome_as s.reading.position.0 m.outcome → SlowAs m.slow x.slow → MovesOn l used s x
move_told l used s x m c d e =
    let n = moved_numbered l used (slow_from s) m c (made_numbered s.type_place s.end s.number s.data_place) in
    record {
      item = d ∙ outcome_shown (take used l) s.reading.position.0 m.outcome c.1 ∙ ap (λ (y : F.Moved). item_told s.reading.position.0 y.answer) c.0;
      slow = slow_back m.slow x.slow e n ∙ ap (λ (y : F.Moved). y.slow) c.0;
    }
