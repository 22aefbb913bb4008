-- What C gets of a call's answer: the refusal's number and place, or 0 and the result.
use Rattle.std.specs.Prelude.{◌≡◌, List, ℕ}
use Rattle.format.specs.Records.{logbook}
use Rattle.format.specs.Calls as Calls
use Rattle.format.specs.Calls.{book_in, Call, call_on, Answer, appended, erased, wiped, denied, begun, not_begun, Called, called_of}
use Rattle.logbook_c.specs.declared.LogbookStarted.{LogbookStarted}
use Rattle.logbook_c.specs.declared.LogbookAppended.{LogbookAppended}
use Rattle.logbook_c.specs.declared.LogbookErased.{LogbookErased}
use Rattle.logbook_c.specs.declared.LogbookWiped.{LogbookWiped}

abbrev pub started_as : Calls.Started → LogbookStarted
started_as (begun n) = record { refusal = 0; place = 0; used = n }
started_as (not_begun x) = record { refusal = x.number; place = x.place; used = 0 }

-- the used length after the call stands in it, refused or not; an append answers neither of the last two
abbrev pub appended_as : ℕ → Answer → LogbookAppended
appended_as used (appended p n) = record { refusal = 0; place = p; used = n }
appended_as used (denied x) = record { refusal = x.number; place = x.place; used = used }
appended_as used (erased p) = record { refusal = 0; place = p; used = used }
appended_as used (wiped n) = record { refusal = 0; place = 0; used = used }

-- an erase answers neither of the last two
abbrev pub erased_as : Answer → LogbookErased
erased_as (erased p) = record { refusal = 0; place = p }
erased_as (denied x) = record { refusal = x.number; place = x.place }
erased_as (appended p n) = record { refusal = 0; place = p }
erased_as (wiped n) = record { refusal = 0; place = 0 }

-- a wipe answers neither of the last two
abbrev pub wiped_as : Answer → LogbookWiped
wiped_as (wiped n) = record { refusal = 0; place = 0; stores = n }
wiped_as (denied x) = record { refusal = x.number; place = x.place; stores = 0 }
wiped_as (appended p n) = record { refusal = 0; place = p; stores = 0 }
wiped_as (erased p) = record { refusal = 0; place = p; stores = 0 }

-- ---- a call's answer and what it leaves are the definition's: a start has no used length before it, an append's stands in the
-- answer, any other call keeps it
abbrev pub Starts : List ℕ → List ℕ → List ℕ → List ℕ → LogbookStarted → Type 0
Starts uuid free l l1 x = (x ≡ started_as (Calls.start uuid free l).answer) × (l1 ≡ (Calls.start uuid free l).buffer)

abbrev pub Appends : Call → List ℕ → ℕ → List ℕ → LogbookAppended → Type 0
Appends c l used l1 x =
    (x ≡ appended_as used (call_on logbook c (book_in l used)).answer) × (book_in l1 x.used ≡ (call_on logbook c (book_in l used)).book)

abbrev pub Keeps : {A : Type 0} → (Answer → A) → Call → List ℕ → ℕ → List ℕ → A → Type 0
Keeps f c l used l1 x =
    (x ≡ f (call_on logbook c (book_in l used)).answer) × (book_in l1 used ≡ (call_on logbook c (book_in l used)).book)

-- ---- what the library's contract says, for C
