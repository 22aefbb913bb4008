-- What C gets of a reading, an item, a URI's place and a listing.
use Rattle.std.specs.Prelude.{Result, Ok, Err, ◌≡◌, refl, Bool, true, false, List, ℕ, ◌+◌, ◌-◌, ◌≤◌, length, take}
use Rattle.std.proofs.Common.{ap, ◌∙◌}
use Rattle.format.specs.Register as G
use Rattle.format.specs.Records as M
use Rattle.format.specs.Records.{Refusal, logbook}
use Rattle.format.specs.Reading.{Report, Shown, shown, end, refused, Stepped, stepped}
use Rattle.format.specs.Calls.{book_in, step_on, Resolved, in_log, in_names, no_uri}
use Rattle.format.specs.Bytes.{stored}
use Rattle.register.specs.Columns.{row_with}
use Rattle.register.specs.declared.Row.{Row}
use Rattle.record.specs.Items.{refusal_of, data_length}
use Rattle.reading.specs.Readings.{reading_of, shown_of, Lying}
use Rattle.reading.specs.declared.Entry.{Entry}
use Rattle.reading.specs.declared.Reading.{Reading}
use Rattle.reading.specs.declared.Item.{Item}
use Rattle.reading.specs.declared.Item.TheVariants as Variant
use Rattle.record.specs.declared.Refusal as Code
use Rattle.logbook_c.specs.declared.Kind.{Kind}
use Rattle.logbook_c.specs.declared.Kind.TheVariants as Kinds
use Rattle.listing.specs.Filling.{Filled}
use Rattle.listing.specs.declared.Listed.{Listed}
use Rattle.logbook_c.specs.declared.LogbookItem.{LogbookItem}
use Rattle.logbook_c.specs.declared.LogbookStep.{LogbookStep}
use Rattle.logbook_c.specs.declared.LogbookUri.{LogbookUri}
use Rattle.logbook_c.specs.declared.LogbookListed.{LogbookListed}

-- ---- an item: kinds 0 to 6, of a move 7 and 8 too
abbrev pub kind_number : Kind → ℕ
kind_number Kinds.Padding = 0
kind_number Kinds.Deleted = 1
kind_number Kinds.Entry = 2
kind_number Kinds.Header = 3
kind_number Kinds.Assignment = 4
kind_number Kinds.End = 5
kind_number Kinds.Refused = 6
kind_number Kinds.SizeHeld = 7
kind_number Kinds.TypeHeld = 8

abbrev pub bare_as : ℕ → ℕ → ℕ → LogbookItem
bare_as kind x p =
    record {
      kind = kind;
      refusal = x;
      place = p;
      number = 0;
      type_place = 0;
      data_place = 0;
      data_length = 0;
      row = record { number = 0; place = 0; length = 0 };
      declared_place = 0;
      declared_number = 0;
      assigned = 0;
      assigned_place = 0;
    }

-- k bytes of size, s of body
abbrev pub deleted_as : ℕ → ℕ → ℕ → LogbookItem
deleted_as p k s =
    record {
      kind = 1;
      refusal = 0;
      place = p;
      number = 0;
      type_place = p + k;
      data_place = p + k;
      data_length = s;
      row = record { number = 0; place = 0; length = 0 };
      declared_place = 0;
      declared_number = 0;
      assigned = 0;
      assigned_place = 0;
    }

abbrev pub live_as : ℕ → Entry → LogbookItem
live_as kind e =
    record {
      kind = kind;
      refusal = 0;
      place = e.place.0;
      number = e.number.0;
      type_place = e.place.0 + e.live.size;
      data_place = e.place.0 + e.live.size + e.live.kind;
      data_length = e.live.body - e.live.kind;
      row = e.live.row;
      declared_place = e.live.declared.place.0;
      declared_number = e.live.declared.number.0;
      assigned = 0;
      assigned_place = 0;
    }

-- of number n, whose URI stands m bytes behind the data's start
abbrev pub assignment_as : Entry → ℕ → ℕ → LogbookItem
assignment_as e n m =
    record {
      kind = 4;
      refusal = 0;
      place = e.place.0;
      number = e.number.0;
      type_place = e.place.0 + e.live.size;
      data_place = e.place.0 + e.live.size + e.live.kind;
      data_length = e.live.body - e.live.kind;
      row = e.live.row;
      declared_place = e.live.declared.place.0;
      declared_number = e.live.declared.number.0;
      assigned = n;
      assigned_place = e.place.0 + e.live.size + e.live.kind + m;
    }

abbrev pub refused_as : Refusal → LogbookItem
refused_as x = bare_as 6 x.number x.place

abbrev pub item_as : Result Item Code.Refusal → LogbookItem
item_as (Ok (Variant.Padding p)) = bare_as 0 0 p.0
item_as (Ok (Variant.Deleted p x)) = deleted_as p.0 x.size x.body
item_as (Ok (Variant.Entry e)) = live_as 2 e
item_as (Ok (Variant.Header e)) = live_as 3 e
item_as (Ok (Variant.Assignment e n m)) = assignment_as e n m
item_as (Ok (Variant.End p)) = bare_as 5 0 p.0
item_as (Err x) = refused_as (refusal_of x)

-- ---- it lies within n bytes
pub record BoundedEntry (n : ℕ) (e : Entry) : Type 0 where
  pub whole : e.place.0 + e.live.size + e.live.body ≤ n
  pub type : e.live.kind ≤ e.live.body

abbrev pub Bounded : ℕ → Result Item Code.Refusal → Type 0
Bounded n (Ok (Variant.Padding p)) = Unit {0}
Bounded n (Ok (Variant.Deleted p x)) = p.0 + x.size + x.body ≤ n
Bounded n (Ok (Variant.Entry e)) = BoundedEntry n e
Bounded n (Ok (Variant.Header e)) = BoundedEntry n e
Bounded n (Ok (Variant.Assignment e k m)) = BoundedEntry n e × (e.live.kind + m ≤ e.live.body)
Bounded n (Ok (Variant.End p)) = Unit {0}
Bounded n (Err x) = Unit {0}

-- ---- what the definition shows, in a struct
abbrev pub row_in : G.Row → Row
row_in r = row_with r.number r.place r.length

-- kinds 2, 3 and 4; an assignment has the number that it assigns and its URI's place
abbrev pub live_in : M.Entry → Report → ℕ → ℕ → ℕ → LogbookItem
live_in e n kind a q =
    record {
      kind = kind;
      refusal = 0;
      place = e.place;
      number = n.number;
      type_place = e.type_place;
      data_place = e.data_place;
      data_length = length e.bytes;
      row = row_in e.row;
      declared_place = n.declared.place;
      declared_number = n.declared.number;
      assigned = a;
      assigned_place = q;
    }

abbrev pub kind_in : M.Kind → M.Entry → Report → LogbookItem
kind_in M.plain e n = live_in e n 2 0 0
kind_in M.header e n = live_in e n 3 0 0
kind_in (M.assignment a q u) e n = live_in e n 4 a q

abbrev pub item_in : Shown → LogbookItem
item_in (shown (M.padding p) n) = bare_as 0 0 p
item_in (shown (M.deleted p k s) n) = deleted_as p k s
item_in (shown (M.live e) n) = kind_in e.kind e n
item_in (end p) = bare_as 5 0 p
item_in (refused x) = refused_as x

-- a step is the definition's, its item and the reading it hands back
pub record Steps (l : List ℕ) (used : ℕ) (r : Reading) (x : LogbookStep) : Type 0 where
  pub item : x.item ≡ item_in (step_on logbook (book_in l used) (reading_of r)).answer
  pub reading : reading_of x.reading ≡ (step_on logbook (book_in l used) (reading_of r)).reading

-- ---- where a URI stands
abbrev pub uri_as : Resolved → LogbookUri
uri_as (in_log p n) = record { refusal = 0; implied = 0; place = p; length = n }
uri_as (in_names p n) = record { refusal = 0; implied = 1; place = p; length = n }
uri_as (no_uri x) = record { refusal = x.number; implied = 0; place = 0; length = 0 }

-- ---- a listing's part
abbrev pub flag_of : Bool → ℕ
flag_of true = 1
flag_of false = 0

abbrev pub listed_as : Listed → LogbookListed
listed_as t = record { length = t.len; over = flag_of t.over; reading = t.reading }

pub record Lists (f : Filled) (out₀ out : List ℕ) (x : LogbookListed) : Type 0 where
  pub written : x.length ≡ length f.text
  pub last : x.over ≡ flag_of f.over
  pub reading : reading_of x.reading ≡ f.reading
  pub bytes : out ≡ stored out₀ 0 f.text

-- ---- laws
-- an item that lies in the log is what the definition shows
pub item_shown : (l : List ℕ) (i : Result Item Code.Refusal) → Lying l i → item_as i ≡ item_in (shown_of l i)
item_shown l (Ok (Variant.Padding p)) k = refl
item_shown l (Ok (Variant.Deleted p x)) k = refl
item_shown l (Ok (Variant.Entry e)) k = rw (data_length l e.place.0 e.live k)
item_shown l (Ok (Variant.Header e)) k = rw (data_length l e.place.0 e.live k)
item_shown l (Ok (Variant.Assignment e n m)) k = rw (data_length l e.place.0 e.live k.0)
item_shown l (Ok (Variant.End p)) k = refl
item_shown l (Err x) k = refl

pub step_told : (l : List ℕ) (used : ℕ) (r : Reading) (x : LogbookStep) (i : Result Item Code.Refusal) (s : Stepped) → x.item ≡ item_as i → Lying (take used l) i
    → stepped (shown_of (take used l) i) (reading_of x.reading) ≡ s → s ≡ step_on logbook (book_in l used) (reading_of r) → Steps l used r x
step_told l used r x i s e k p q =
    record {
      item = e ∙ item_shown (take used l) i k ∙ ap (λ (t : Stepped). item_in t.answer) (p ∙ q);
      reading = ap (λ (t : Stepped). t.reading) (p ∙ q);
    }
