-- Laws of a listing that is handed over part by part: the parts joined, and where it stands before, between and behind them.
use Rattle.std.specs.Prelude.{◌≡◌, refl, Bool, true, false, cond, ℕ, ◌+◌, ◌≤◌, ◌<◌, take, drop}
use Rattle.std.proofs.Common.{sym, ap, ◌∙◌, arith, le-leb, length-append, length-drop, length-take, length-take-le, take-take, take-add, drop-drop}
use mathlib.Core.List.{List, [], ◌∷◌, ◌++◌, flatten, append_assoc, append-nil}
use Rattle.std.proofs.lemmas.Bool.{lt-leb}
use Rattle.std.proofs.lemmas.List.{take-append-le}
use Rattle.std.proofs.Math.ListN.{length}
use Rattle.std.proofs.Math.Seq.{take-length, take-append_seam, drop-append_seam}
use Rattle.format.specs.Bytes.{stored}
use Rattle.format.specs.Figures.{file_limit}
use Rattle.format.proofs.Laws.Cases.{by_order, from_zero_one}
use Rattle.format.specs.Reading.{Reading, fresh}
use Rattle.format.specs.Listing.{listing}
use Rattle.format.proofs.Laws.Listing.{Passes}
use Rattle.listing.specs.Filling.{fill_of, Fills}
use Rattle.listing.proofs.FillingLaws.{filled_inside, fill_long, fill_listing, fill_moves}
use Rattle.list.specs.Handing.{NextPart, Parts, Shows, room, HandsOver, rest_on, Stands}

-- a test can't have both answers
true_false : {P : Type 0} {b : Bool} → b ≡ true → b ≡ false → P
true_false t f = from_zero_one (cc)

-- ---- the parts, joined, are the bytes of the listing from the first count to the last
parts_between : (file : List ℕ) (n : ℕ) (ps : List (List ℕ)) (m : ℕ) → Parts file n ps m
    → take m (listing file) ≡ take n (listing file) ++ flatten ps
unfolding Parts flatten
parts_between file n [] m e = rw e (sym (append-nil _))
parts_between file n (p ∷ ps) m (h, k) =
    parts_between file (n + length p) ps m k
    ∙ ap (λ (x : List ℕ). x ++ flatten ps) (take-add n (length p) (listing file) ∙ ap (λ (x : List ℕ). take n (listing file) ++ x) h.there)
    ∙ append_assoc (take n (listing file)) p (flatten ps)

-- from nothing to as many bytes as the listing has, they are the listing
pub parts_listing : (file : List ℕ) (ps : List (List ℕ)) (m : ℕ) → Parts file 0 ps m → m ≡ length (listing file) → flatten ps ≡ listing file
parts_listing file ps m h e = sym (parts_between file 0 ps m h) ∙ rw e (take-length (listing file))

-- ---- a buffer of lines, and what is left of the listing behind it
fill_rest : (file : List ℕ) (r : Reading)
    → rest_on file r ≡ (fill_of file room r).text ++ cond (fill_of file room r).over [] (rest_on file (fill_of file room r).reading)
unfolding rest_on
fill_rest file r =
    by_order file_limit (length file)
    (λ h. rw (lt-leb (length file) file_limit h, fill_long file r room h (omega arith)) (sym (append-nil _)))
    (λ h. rw (le-leb (length file) file_limit h) (fill_listing file room r h))

-- one that isn't the last passes over a byte, and not past 65,536
fill_passes : (file : List ℕ) (r : Reading) → (fill_of file room r).over ≡ false → Passes r.position (fill_of file room r).reading file_limit
fill_passes file r o =
    by_order file_limit (length file)
    (λ h. from_zero_one (cc (rw (fill_long file r room h (omega arith)) at o)))
    (λ h. let q = fill_moves file room r h (omega arith) o in (q.0, omega (arith, q.1)))

-- ---- where a listing stands
pub stands_start : (file : List ℕ) → Stands file 0 fresh
unfolding rest_on listing
stands_start file = record { inside = omega arith; rest = refl; counted = omega arith }

module _ {file : List ℕ} {n : ℕ} {r : Reading} (s : Stands file n r) where
  abbrev text : List ℕ
  text = (fill_of file room r).text

  stands_split : drop n (listing file) ≡ text ++ cond (fill_of file room r).over [] (rest_on file (fill_of file room r).reading)
  stands_split = s.rest ∙ fill_rest file r

  -- the buffer d₀, filled from there, is d: its first len bytes are the next part
  module _ (d₀ : List ℕ) {d : List ℕ} {len : ℕ} {q : Reading} {over : Bool} (size : length d₀ ≡ room) (kept : length d ≡ length d₀)
      (f : Fills d₀ (fill_of file (length d₀) r) d len q over) where
    filled : Fills d₀ (fill_of file room r) d len q over
    filled = rw size at f

    text_fits : length text ≤ room
    text_fits = omega (arith, size, filled_inside d₀ text d filled.3 kept)

    filled_text : take len d ≡ text
    unfolding stored
    filled_text = rw (filled.0, filled.3) (take-append_seam text _)

    pub filled_inside_buffer : len ≤ length d
    filled_inside_buffer = omega (arith, size, kept, filled.0, text_fits)

    -- what stands in its front is next, whole or in part
    pub filled_next : (k : ℕ) → k ≤ len → NextPart file n (take k d)
    filled_next k h =
        let l : length (take k d) ≡ k = length-take-le k d (omega (arith, filled_inside_buffer)) in
        let m : k ≤ length text = omega (arith, filled.0) in
        let e : take k text ≡ take k d = rw (← filled_text) (take-take k len d h) in
        record { there = rw (l, stands_split) (take-append-le k text _ m ∙ e); counted = omega (arith, l, s.counted, text_fits) }

    pub filled_handed : {m : ℕ} → m ≡ n + length (take len d) → HandsOver n (fill_of file room r) m q over
    filled_handed e = record { count = rw filled_text at e; fits = text_fits; reading = filled.1; over = filled.2 }

  -- the next part was handed over, and the write failed
  pub handed_failed : {p : List ℕ} {m : ℕ} → m ≡ n + length p → NextPart file n p → Shows file m true
  handed_failed e h =
      record { begun = omega (arith, e, s.inside, simp (length-take, length-drop) at (ap length h.there)); whole = true_false refl }

  -- it was handed over
  module _ {m : ℕ} {q : Reading} {over : Bool} (h : HandsOver n (fill_of file room r) m q over) where
    handed_inside : m ≤ length (listing file)
    handed_inside = omega (arith, h.count, s.inside, length-drop n (listing file), simp length-append at (ap length stands_split))

    pub handed_last : over ≡ true → Shows file m false
    handed_last o =
        let e : drop n (listing file) ≡ text ++ [] = stands_split ∙ rw (sym h.over ∙ o) in
        let l : length (drop n (listing file)) ≡ length text + 0 = ap length e ∙ length-append text [] in
        record { begun = handed_inside; whole = λ _. omega (arith, h.count, s.inside, length-drop n (listing file)) }

    pub handed_on : over ≡ false → m + room < 18446744073709551616 → Stands file m q
    handed_on o c =
        record {
          inside = handed_inside;
          rest = rw (h.count, h.reading, ← (drop-drop (length text) n (listing file)), stands_split)
              (drop-append_seam text _ ∙ rw (sym h.over ∙ o));
          counted = c;
        }

    pub handed_passes : over ≡ false → Passes r.position q file_limit
    handed_passes o = rw h.reading (fill_passes file r (sym h.over ∙ o))
