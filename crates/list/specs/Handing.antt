-- What of a file's listing is handed to standard output: part by part, counted in bytes.
use Rattle.std.specs.Prelude.{◌≡◌, Bool, false, cond, List, [], ◌∷◌, ℕ, ◌+◌, ◌≤◌, ◌<◌, length, take, drop, leb, Result, Ok, Err}
use Rattle.format.specs.Figures.{file_limit}
use Rattle.format.specs.Records.{refusal}
use Rattle.format.specs.Reading.{Reading}
use Rattle.format.specs.Listing.{refused_line, listing_on, listing}
use Rattle.listing.specs.Filling.{Filled}
use Rattle.list.specs.declared.input.Taken.{Taken}
use Rattle.list.specs.declared.input.Unread.{Unread}
use Rattle.list.specs.declared.output.Handed.{Handed}
use Rattle.list.specs.declared.output.Failed.{Failed}

-- how many bytes were handed over, the last write failed or not
abbrev pub count_of : Result Handed Failed → ℕ
count_of (Ok h) = h.len
count_of (Err f) = f.len

-- the part is the listing's next behind its first n bytes, and 64 bits hold the count behind it
pub record NextPart (file : List ℕ) (n : ℕ) (part : List ℕ) : Type 0 where
  pub there : take (length part) (drop n (listing file)) ≡ part
  pub counted : n + length part < 18446744073709551616

-- parts handed over one after another, each the next: n bytes before them, m behind them
unfoldable pub Parts : List ℕ → ℕ → List (List ℕ) → ℕ → Type 0
Parts file n [] m = m ≡ n
Parts file n (p ∷ ps) m = NextPart file n p × Parts file (n + length p) ps m

-- the n bytes handed over are a beginning of the listing, and all of it unless a write failed
pub record Shows (file : List ℕ) (n : ℕ) (failed : Bool) : Type 0 where
  pub begun : n ≤ length (listing file)
  pub whole : failed ≡ false → n ≡ length (listing file)

-- the file was read, to the front of the whole buffer, and is shown, or couldn't be read and nothing is handed over
pub record Lists (read : Result Taken Unread) (buffer : List ℕ) (n : ℕ) (failed : Bool) : Type 0 where
  pub roomy : (t : Taken) → read ≡ Ok t → t.room ≡ length buffer
  pub shown : (t : Taken) → read ≡ Ok t → Shows (take t.len buffer) n failed
  pub silent : (x : Unread) → read ≡ Err x → n ≡ 0

-- ---- buffer by buffer

-- the bytes of a buffer of lines
abbrev pub room : ℕ
room = 262144

-- a buffer filled by f was handed over behind n bytes: there are m now, with f's reading and end
pub record HandsOver (n : ℕ) (f : Filled) (m : ℕ) (r : Reading) (ended : Bool) : Type 0 where
  pub count : m ≡ n + length f.text
  pub fits : length f.text ≤ room
  pub reading : r ≡ f.reading
  pub over : ended ≡ f.over

-- the listing from a reading on; a file over 65,536 bytes has one line, wherever the reading stands
unfoldable pub rest_on : List ℕ → Reading → List ℕ
rest_on file r = cond (leb (length file) file_limit) (listing_on file r) (refused_line (refusal 1 0))

-- behind the n bytes handed over the listing goes on from the reading; the next buffer can be counted too
pub record Stands (file : List ℕ) (n : ℕ) (r : Reading) : Type 0 where
  pub inside : n ≤ length (listing file)
  pub rest : drop n (listing file) ≡ rest_on file r
  pub counted : n + room < 18446744073709551616
