-- Logbooks that do not read to their end: the list is that of the logbook before the refusal.
use Rattle.std.specs.Prelude.{◌≡◌, refl, true, ℕ, zero, suc, ◌+◌, ◌≤◌, take, drop}
use Rattle.std.proofs.Common.{sym, ◌∙◌, subst, arith, add-zero, zero-add, add_assoc, length-append, length-drop, take-append-drop}
use Rattle.std.proofs.Math.Path.{ap}
use mathlib.Core.List.{List, [], ◌∷◌, ◌++◌, append_assoc}
use Rattle.std.proofs.Math.Option.{some}
use Rattle.std.proofs.Math.ListN.{length}
use Rattle.format.specs.Figures.{used_limit}
use Rattle.format.specs.Uris.{header_name}
use Rattle.format.specs.Register.{Names, implied_names}
use Rattle.format.specs.Records.{Refusal, refusal, Got, bad, got, logbook, item}
use Rattle.format.specs.Reading.{whole, stop, walk, end, refused}
use Rattle.format.specs.Calls.{Book, parts, book_of, sound}
use Rattle.format.specs.Grammar.{Listed, listed_at, RecordOf, Register, Element, padding, deleted, entry, assignment, removal, header}
use Rattle.format.specs.Entries.{ending_of, told, Outcome, to_end, no_header, refused_at}
use Rattle.format.proofs.Laws.Order.Items.{item_more, past_start, not_bad, walk_bad, walk_nil, walk_append, not_stop}
use Rattle.format.proofs.Laws.Order.Standing.{stands_none}
use Rattle.format.proofs.Laws.Order.Frames.{fits_stands}
use Rattle.format.proofs.Laws.Lists.Shapes.{header_long, header_shape}
use Rattle.format.proofs.Laws.Lists.Rolls.{roll, roll_none, roll_bad, Part, part_walk, part_roll, got_part}
use Rattle.format.proofs.Laws.Lists.Registers.{meaning}
use Rattle.format.proofs.Laws.Lists.Parsing.{header_part_lem, walk_logbook}
use Rattle.format.proofs.Laws.Lists.Walking.{writing_long, Parsed, parse_element}
use Rattle.format.proofs.Laws.Lists.Steps.{entries_roll, end_at, ending_walk, used_of, on_sound}

-- ---- a walk comes to the end, or to a place where it is refused
data Stops (g : Names) (p : ℕ) (l : List ℕ) : Type 0 where
  all : (h : Names) → walk logbook 0 g p l ≡ whole h → Stops g p l
  up_to : (lo hi : List ℕ) (x : ℕ) (r : Refusal) (h : Names) → l ≡ lo ++ (x ∷ hi) → walk logbook 0 g p lo ≡ whole h → item logbook h (p + length lo) x hi ≡ bad r
      → roll logbook 0 g p l ≡ roll logbook 0 g p lo → Stops g p l

stops_more : (g g1 : Names) (p : ℕ) (w t : List ℕ) (es : List Listed) → Part logbook g p w es g1 → Stops g1 (p + length w) t → Stops g p (w ++ t)
stops_more g g1 p w t es a (all h e) = all h (part_walk logbook a t ∙ e)
stops_more g g1 p w t es a (up_to lo hi x r h e d b q) =
    up_to (w ++ lo) hi x r h (rw (e, append_assoc w lo (x ∷ hi))) (part_walk logbook a lo ∙ d) (rw (length-append w lo, ← (add_assoc p (length w) (length lo))) b)
    (part_roll logbook a t ∙ rw q (sym (part_roll logbook a lo)))

stops_next : (fuel : ℕ) → ((g : Names) (p : ℕ) (l : List ℕ) → length l ≤ fuel → Stops g p l) → (g : Names) (p : ℕ) (l : List ℕ) → length l ≤ suc fuel → Stops g p l
unfolding walk roll
stops_next fuel ih g p [] h = all g refl
stops_next fuel ih g p (x ∷ xs) h = at_item (item logbook g p x xs) refl
  where
    at_item : (v : Got) → item logbook g p x xs ≡ v → Stops g p (x ∷ xs)
    at_item (bad r) q = up_to [] xs x r g refl refl (rw add-zero q) (roll_bad logbook g p x r xs q)
    at_item (got i n g1) q =
        subst (λ (y : List ℕ). Stops g p (x ∷ y)) (take-append-drop n xs)
        (stops_more g g1 p (x ∷ take n xs) (drop n xs) (told i) (got_part logbook g g1 p x n xs i q) (ih g1 (p + length {A = ℕ} (x ∷ take n xs)) (drop n xs) (rw length-drop (omega arith))))

stops : (fuel : ℕ) (g : Names) (p : ℕ) (l : List ℕ) → length l ≤ fuel → Stops g p l
unfolding walk
stops zero g p [] h = all g refl
stops zero g p (x ∷ l) h = absurd (omega arith)
stops (suc fuel) g p l h = stops_next fuel (stops fuel) g p l h

-- ---- an element of the grammar is never refused
part_got : (g g1 : Names) (p x : ℕ) (r : Refusal) (xs w t : List ℕ) (es : List Listed) → Part logbook g p w es g1 → 1 ≤ length w → x ∷ xs ≡ w ++ t → item logbook g p x xs ≡ bad r → ⊥
part_got g g1 p x r xs [] t es a l c b = absurd (omega arith)
part_got g g1 p x r xs (y ∷ w) t es a l c b =
    let d : xs ≡ w ++ t = cc in
    let e : x ≡ y = cc in
    go (rw (d, e) at b) (item logbook g p y w) refl
  where
    go : item logbook g p y (w ++ t) ≡ bad r → (v : Got) → item logbook g p y w ≡ v → ⊥
    go z (bad m) k = not_stop logbook (sym (walk_bad logbook g p y m w k) ∙ a.walks)
    go z (got i m h) k = not_bad (sym z ∙ item_more logbook g h p y m w t i k)

record_long : {w d : List ℕ} {n : ℕ} → RecordOf w n d → 1 ≤ length w
record_long {d = d} c = rw c.all (writing_long c.size (c.type ++ d) (length (c.type ++ d)) c.sized)

element_long : {r s : Register} {p : ℕ} {w : List ℕ} {es : List Listed} → Element r p w es s → 1 ≤ length w
element_long padding = omega arith
element_long (deleted c) = record_long c
element_long (entry c l x y) = record_long c
element_long (assignment m c u z l x y r) = record_long z
element_long (removal c l x) = record_long c
element_long (header c l x) = record_long c

-- ---- where a reading comes to
module _ (l rest : List ℕ) (b : length l ≤ used_limit) where
  ending_whole : (h : Names) → 1 ≤ length l → walk logbook 0 [] 0 l ≡ whole h → ending_of (book_of (parts l rest)) ≡ some (end (length l))
  unfolding end_at
  ending_whole h o e = ending_walk l rest b ∙ rw (e, past_start logbook (length l) o)

  ending_stop : (lo hi : List ℕ) (x : ℕ) (r : Refusal) (h : Names) → l ≡ lo ++ (x ∷ hi) → walk logbook 0 [] 0 lo ≡ whole h → item logbook h (0 + length lo) x hi ≡ bad r
      → ending_of (book_of (parts l rest)) ≡ some (refused r)
  unfolding end_at
  ending_stop lo hi x r h e d k =
      let w : walk logbook 0 [] 0 l ≡ stop r = ap (walk logbook 0 [] 0) e ∙ walk_append logbook 0 [] h 0 lo (x ∷ hi) d ∙ walk_bad logbook h (0 + length lo) x r hi k in
      ending_walk l rest b ∙ rw w

outcome_of_lem : (l rest : List ℕ) → length l ≤ used_limit → Stops [] 0 l → Outcome (book_of (parts l rest))
unfolding book_of walk end_at
outcome_of_lem [] rest b k =
    no_header (refusal 2 0) (entries_roll [] rest b ∙ roll_none logbook [] 0)
    (λ h x e f. omega (arith, header_long h f, rw length-append at (ap length (sym (used_of [] rest) ∙ e)))) (ending_walk [] rest b)
outcome_of_lem (y ∷ l) rest b (all h e) =
    to_end (meaning h) (rw (used_of (y ∷ l) rest, entries_roll (y ∷ l) rest b) (walk_logbook (y ∷ l) h (omega arith) e))
    (ending_whole (y ∷ l) rest b h (omega arith) e)
outcome_of_lem (y ∷ l) rest b (up_to [] hi x r h e d k q) =
    let g : [] ≡ h = walk_nil logbook [] h 0 d in
    no_header r (entries_roll (y ∷ l) rest b ∙ q ∙ roll_none logbook [] 0)
    (λ v t c f. part_got [] implied_names 0 x r hi v t (listed_at 0 header_name (drop 2 v) ∷ []) (header_part_lem v (header_shape v f)) (omega (arith, header_long v f))
    (sym e ∙ (rw (used_of (y ∷ l) rest) at c)) (rw (← g) at k))
    (ending_stop (y ∷ l) rest b [] hi x r h e d k)
outcome_of_lem (y ∷ l) rest b (up_to (z ∷ lo) hi x r h e d k q) =
    refused_at (z ∷ lo) x hi (meaning h) r (used_of (y ∷ l) rest ∙ e)
    (rw (entries_roll (y ∷ l) rest b, q) (walk_logbook (z ∷ lo) h (omega arith) d))
    (λ w t es s c el.
    let a : Parsed h (suc (length lo)) w es s = parse_element el h refl (fits_stands logbook (stands_none []) (z ∷ lo) h d).rising (omega arith) in
    part_got h a.names (suc (length lo)) x r hi w t es a.part (element_long el) c (rw zero-add at k))
    (ending_stop (y ∷ l) rest b (z ∷ lo) hi x r h e d k)

-- every sound book reads to its end, has no header, or has the list of the logbook before the refusal
pub outcome : (b : Book) → sound b ≡ true → Outcome b
outcome b e = on_sound Outcome (λ l rest s. outcome_of_lem l rest s (stops (length l) [] 0 l (omega arith))) b e
