-- The steps of a fresh reading list what the walk passes over; so they list the entries of the grammar.
use Rattle.std.specs.Prelude.{◌≡◌, refl, Bool, true, false, cond, List, [], ◌∷◌, ◌++◌, ℕ, zero, suc, ◌+◌, ◌≤◌, ◌<◌, length, take, drop, replicate}
use Rattle.std.proofs.Common.{sym, ap, ◌∙◌, subst, append_assoc, arith, zero-add, add-zero, length-append, length-drop, take-append-drop, length-take-le}
use Rattle.std.proofs.Math.Option.{some}
use Rattle.std.proofs.lemmas.List.{replicate-append-replicate}
use Rattle.std.proofs.Math.Seq.{take-append_seam}
use Rattle.format.specs.Figures.{used_limit}
use Rattle.format.proofs.Laws.Cases.{by_test, from_zero_one}
use Rattle.format.specs.Register.{Names}
use Rattle.format.specs.Records.{Refusal, refusal, Item, Got, bad, got, logbook, at_header, item}
use Rattle.format.specs.Reading.{Walked, walk, whole, stop, Reading, fresh, Shown, shown, end, refused, stepped, report_of, moved, at_end, step_at, step}
use Rattle.format.specs.Calls.{used_bytes, Book, parts, parted, book_of, sound}
use Rattle.format.specs.Interleaving.{replies as replies_by, final as final_by}
use Rattle.format.specs.Series.{World, Event, steps, Reply, said, showed, next, replies, final, ToEnd, Reads}
use Rattle.format.specs.Grammar.{Listed, Register, Logbook}
use Rattle.format.specs.Entries.{told, listed, stopped, entries_of, ending_of}
use Rattle.format.proofs.Laws.Order.Items.{walk_bad, item_exact, item_piece, past_start}
use Rattle.format.proofs.Laws.Order.Standing.{stands_none}
use Rattle.format.proofs.Laws.Order.Frames.{Sees, fresh_sees, Fits, Good, step_here, moved_reading, moved_sees}
use Rattle.format.proofs.Laws.Order.Runs.{wld, step_reply, step_next, fits_more, sound_parts, rest_of, reads_good, runs_replies, unsound}
use Rattle.format.proofs.Laws.Lists.Rolls.{roll, roll_bad, Part, part_walk, part_roll, got_part}
use Rattle.format.proofs.Laws.Lists.Registers.{meaning}
use Rattle.format.proofs.Laws.Lists.Parsing.{walk_logbook}
use Rattle.format.proofs.Laws.Lists.Walking.{parse_logbook, logbook_long}

-- ---- the steps list what the walk rolls out
listed_step : (n : ℕ) (l rest : List ℕ) (r r1 : Reading) (x : Shown) → length l ≤ used_limit → step logbook l r ≡ stepped x r1
    → replies logbook (wld l rest r) (replicate (suc n) steps) ≡ showed x r1 ∷ replies logbook (wld l rest r1) (replicate n steps)
unfolding replies_by
listed_step n l rest r r1 x b e = rw (step_reply logbook l rest r r1 x b e, step_next logbook l rest r r1 x b e)

-- where the walk comes to: its refusal, or the end, at p
unfoldable pub end_at : Walked → ℕ → Shown
end_at (stop x) p = refused x
end_at (whole g) p = cond (at_header logbook p) (refused (refusal 2 0)) (end p)

stopped_end : (b : Bool) (x : Refusal) (p : ℕ) (r : Reading) (rs : List Reply) → stopped (showed (cond b (refused x) (end p)) r ∷ rs) ≡ some (cond b (refused x) (end p))
unfolding stopped
stopped_end true x p r rs = refl
stopped_end false x p r rs = refl

listed_end : (b : Bool) (x : Refusal) (p : ℕ) (r : Reading) (rs : List Reply) → listed (showed (cond b (refused x) (end p)) r ∷ rs) ≡ []
unfolding listed
listed_end true x p r rs = refl
listed_end false x p r rs = refl

-- the replies list what the walk rolls out from p on, and stop as it does
abbrev Told : List Reply → Names → ℕ → List ℕ → Type 0
Told rs g p hi = (listed rs ≡ roll logbook 0 g p hi) × (stopped rs ≡ some (end_at (walk logbook 0 g p hi) (p + length hi)))

abbrev Lists : ℕ → Type 0
Lists n =
    (lo hi rest : List ℕ) (g : Names) (r : Reading) → Sees r (length lo) g → length lo + length hi ≤ used_limit → Fits logbook (stands_none []) lo g → length hi < n
    → Told (replies logbook (wld (lo ++ hi) rest r) (replicate n steps)) g (length lo) hi

lists_bad : (n : ℕ) (lo rest xs : List ℕ) (g : Names) (r : Reading) (x : ℕ) (y : Refusal) → Sees r (length lo) g → length lo + suc (length xs) ≤ used_limit → Fits logbook (stands_none []) lo g
    → item logbook g (length lo) x xs ≡ bad y → Told (replies logbook (wld (lo ++ (x ∷ xs)) rest r) (replicate (suc n) steps)) g (length lo) (x ∷ xs)
unfolding step_at moved listed stopped end_at
lists_bad n lo rest xs g r x y s b f q =
    rw (listed_step n (lo ++ (x ∷ xs)) rest r r (refused y) (rw length-append b) (step_here logbook (stands_none []) r (length lo) g lo (x ∷ xs) s f refl ∙ rw (s.place, q)))
    (sym (roll_bad logbook g (length lo) x y xs q), rw (walk_bad logbook g (length lo) x y xs q))

lists_got : (n : ℕ) → Lists n → (lo rest xs : List ℕ) (g g1 : Names) (r : Reading) (x m : ℕ) (i : Item) → Sees r (length lo) g → length lo + suc (length xs) ≤ used_limit → Fits logbook (stands_none []) lo g → length xs < n
    → item logbook g (length lo) x xs ≡ got i m g1 → Told (replies logbook (wld (lo ++ (x ∷ xs)) rest r) (replicate (suc n) steps)) g (length lo) (x ∷ xs)
unfolding step_at moved listed stopped
lists_got n ih lo rest xs g g1 r x m i s b f h q =
    let p : ℕ = length lo in
    let v : List ℕ = x ∷ take m xs in
    let r1 : Reading = moved_reading logbook (stands_none []) r i m in
    let c : length (take m xs) ≡ m = length-take-le m xs (item_exact logbook g g1 p x m xs i q).inside in
    let t : Part logbook g p v (told i) g1 = got_part logbook g g1 p x m xs i q in
    let a : (lo ++ v) ++ drop m xs ≡ lo ++ (x ∷ xs) = append_assoc lo v (drop m xs) ∙ rw take-append-drop in
    let k : length (lo ++ v) ≡ p + suc m = length-append lo v ∙ rw c in
    let y : Told (replies logbook (wld (lo ++ (x ∷ xs)) rest r1) (replicate n steps)) g1 (p + suc m) (drop m xs)
    = rw (a, k) at (ih (lo ++ v) (drop m xs) rest g1 r1 (rw k (moved_sees logbook (stands_none []) r p g g1 x m xs i s q)) (rw (k, length-drop) (omega (arith, (item_exact logbook g g1 p x m xs i q).inside)))
    (fits_more logbook (stands_none []) lo v g g1 p f refl (item_piece logbook g g1 p x m xs i q)) (rw length-drop (omega arith))) in
    let u : walk logbook 0 g p (x ∷ xs) ≡ walk logbook 0 g1 (p + suc m) (drop m xs) = rw (take-append-drop, c) at (part_walk logbook t (drop m xs)) in
    let d : p + suc m + length (drop m xs) ≡ p + suc (length xs) = rw length-drop (omega (arith, (item_exact logbook g g1 p x m xs i q).inside)) in
    let z : roll logbook 0 g p (x ∷ xs) ≡ told i ++ roll logbook 0 g1 (p + suc m) (drop m xs) = rw (take-append-drop, c) at (part_roll logbook t (drop m xs)) in
    rw (listed_step n (lo ++ (x ∷ xs)) rest r r1 (shown i (report_of i r)) (rw length-append b) (step_here logbook (stands_none []) r p g lo (x ∷ xs) s f refl ∙ rw (s.place, q)))
    (rw (z, y.0), y.1 ∙ rw (u, d))

lists_item : (n : ℕ) → Lists n → (lo rest xs : List ℕ) (g : Names) (r : Reading) (x : ℕ) → Sees r (length lo) g → length lo + suc (length xs) ≤ used_limit → Fits logbook (stands_none []) lo g → length xs < n
    → (v : Got) → item logbook g (length lo) x xs ≡ v → Told (replies logbook (wld (lo ++ (x ∷ xs)) rest r) (replicate (suc n) steps)) g (length lo) (x ∷ xs)
lists_item n ih lo rest xs g r x s b f h (bad y) q = lists_bad n lo rest xs g r x y s b f q
lists_item n ih lo rest xs g r x s b f h (got i m g1) q = lists_got n ih lo rest xs g g1 r x m i s b f h q

lists_next : (n : ℕ) → Lists n → Lists (suc n)
unfolding step_at at_end roll walk end_at
lists_next n ih lo [] rest g r s b f h =
    rw (listed_step n (lo ++ []) rest r r (cond (at_header logbook r.position) (refused (refusal 2 0)) (end r.position)) (rw length-append b) (step_here logbook (stands_none []) r (length lo) g lo [] s f refl)) (
      listed_end (at_header logbook r.position) (refusal 2 0) r.position r (replies logbook (wld (lo ++ []) rest r) (replicate n steps)),
      stopped_end (at_header logbook r.position) (refusal 2 0) r.position r (replies logbook (wld (lo ++ []) rest r) (replicate n steps)) ∙ rw (s.place, add-zero),
    )
lists_next n ih lo (x ∷ xs) rest g r s b f h = lists_item n ih lo rest xs g r x s b f (omega arith) (item logbook g (length lo) x xs) refl

lists : (n : ℕ) → Lists n
lists zero = λ lo hi rest g r s b f h. absurd (omega arith)
lists (suc n) = lists_next n (lists n)

-- any number of steps above the used length lists the walk's entries
steps_roll : (n : ℕ) (l rest : List ℕ) → length l ≤ used_limit → length l < n → Told (replies logbook (wld l rest fresh) (replicate n steps)) [] 0 l
unfolding walk
steps_roll n l rest b h = lists n [] l rest [] fresh fresh_sees (omega arith) refl h

pub entries_roll : (l rest : List ℕ) → length l ≤ used_limit → entries_of (book_of (parts l rest)) ≡ roll logbook 0 [] 0 l
unfolding entries_of book_of
entries_roll l rest b = (steps_roll (suc (length l)) l rest b (omega arith)).0

pub ending_walk : (l rest : List ℕ) → length l ≤ used_limit → ending_of (book_of (parts l rest)) ≡ some (end_at (walk logbook 0 [] 0 l) (length l))
unfolding ending_of book_of
ending_walk l rest b = rw zero-add at (steps_roll (suc (length l)) l rest b (omega arith)).1

-- ---- any reading that comes to its end
replies_append : (w : World) (es fs : List Event) → replies logbook w (es ++ fs) ≡ replies logbook w es ++ replies logbook (final logbook w es) fs
unfolding replies_by final_by
replies_append w [] fs = refl
replies_append w (e ∷ es) fs = rw (replies_append (next logbook w e) es fs)

listed_whole : (rs ss : List Reply) → ToEnd rs → listed (rs ++ ss) ≡ listed rs
unfolding ToEnd listed
listed_whole [] ss h = absurd h
listed_whole (said a ∷ rs) ss h = absurd h
listed_whole (showed (end p) r ∷ rs) ss h = refl
listed_whole (showed (refused x) r ∷ rs) ss h = absurd h
listed_whole (showed (shown i n) r ∷ rs) ss h = rw (listed_whole rs ss h)

reads_roll : (l rest : List ℕ) → length l ≤ used_limit → (r : Reads logbook (book_of (parts l rest))) → listed r.list ≡ roll logbook 0 [] 0 l
reads_roll l rest b r =
    let n : ℕ = length r.list in
    let w : World = wld l rest fresh in
    let s : List Reply = replies logbook (final logbook w (replicate n steps)) (replicate (suc (length l)) steps) in
    let a : replies logbook w (replicate (n + suc (length l)) steps) ≡ r.list ++ s
    = rw (← (replicate-append-replicate {A = Event} n (suc (length l)) steps), replies_append w (replicate n steps) (replicate (suc (length l)) steps), r.read) in
    sym (listed_whole r.list s r.is_to_end) ∙ sym (ap listed a) ∙ (steps_roll (n + suc (length l)) l rest b (omega arith)).0

-- what holds of every buffer cut at its used length holds of every sound book
pub on_sound : (P : Book → Type 0) → ((l rest : List ℕ) → length l ≤ used_limit → P (book_of (parts l rest))) → (b : Book) → sound b ≡ true → P b
unfolding parted
on_sound P h b q = let p = sound_parts logbook b q in subst P (sym p.0) (h (take b.used b.buffer) (drop b.used b.buffer) p.1)

pub used_of : (l rest : List ℕ) → used_bytes (book_of (parts l rest)) ≡ l
unfolding book_of
used_of l rest = take-append_seam l rest

reads_sound : (b : Book) → Reads logbook b → sound b ≡ true
reads_sound b r = by_test (sound b) (λ q. q) (λ q. absurd (unsound logbook (stands_none []) fresh_sees b r.list q r.is_to_end r.read))

reads_walk : (l rest : List ℕ) → length l ≤ used_limit → Reads logbook (book_of (parts l rest)) → Good logbook (stands_none []) [] 0 l
unfolding walk
reads_walk l rest b r = reads_good logbook (stands_none []) r.list [] l rest [] fresh fresh_sees (omega arith) refl r.is_to_end r.read

walk_reads : (l rest : List ℕ) → Good logbook (stands_none []) [] 0 l → Reads logbook (book_of (parts l rest))
unfolding walk
walk_reads l rest q =
    let m = rest_of logbook (stands_none []) fresh [] fresh_sees l q in
    record { list = m.list; is_to_end = m.to_end_lem; read = runs_replies logbook (m.runs [] rest (refl, refl)) }

pub past_of : (p : ℕ) → at_header logbook p ≡ false → 1 ≤ p
past_of zero e = from_zero_one (cc)
past_of (suc p) e = omega arith

-- ---- demand 2, the reading
module _ (b : Book) where
  -- a reading that comes to its end has read a logbook of the grammar, and has listed its entries
  pub reading_sound : (r : Reads logbook b) → (e : Register) × Logbook (used_bytes b) (listed r.list) e
  reading_sound r = on_sound (λ (b : Book). (r : Reads logbook b) → (e : Register) × Logbook (used_bytes b) (listed r.list) e) go b (reads_sound b r) r
    where
      go : (l rest : List ℕ) → length l ≤ used_limit → (r : Reads logbook (book_of (parts l rest))) → (e : Register) × Logbook (used_bytes (book_of (parts l rest))) (listed r.list) e
      go l rest k r =
          let q : Good logbook (stands_none []) [] 0 l = reads_walk l rest k r in
          (meaning q.names, rw (used_of l rest, reads_roll l rest k r) (walk_logbook l q.names (omega (arith, past_of (0 + length l) q.ends)) q.walks))

  -- a reading of a logbook of the grammar comes to its end, and lists its entries
  pub reading_complete : sound b ≡ true → (es : List Listed) (e : Register) → Logbook (used_bytes b) es e → (r : Reads logbook b) × (listed r.list ≡ es)
  reading_complete s es e k = on_sound (λ (b : Book). Logbook (used_bytes b) es e → (r : Reads logbook b) × (listed r.list ≡ es)) go b s k
    where
      go : (l rest : List ℕ) → length l ≤ used_limit → Logbook (used_bytes (book_of (parts l rest))) es e → (r : Reads logbook (book_of (parts l rest))) × (listed r.list ≡ es)
      go l rest n k0 =
          let k : Logbook l es e = rw (used_of l rest) at k0 in
          let x = parse_logbook k in
          let r : Reads logbook (book_of (parts l rest)) = walk_reads l rest (record { names = x.names; walks = x.part.walks; ends = past_start logbook (0 + length l) (omega (arith, logbook_long k)); small = omega arith }) in
          (r, reads_roll l rest n r ∙ x.part.rolls)

  pub entries_read : (r : Reads logbook b) → entries_of b ≡ listed r.list
  entries_read r =
      on_sound (λ (b : Book). (r : Reads logbook b) → entries_of b ≡ listed r.list) (λ l rest k r. entries_roll l rest k ∙ sym (reads_roll l rest k r)) b (reads_sound b r) r

  pub entries_logbook : sound b ≡ true → (es : List Listed) (e : Register) → Logbook (used_bytes b) es e → entries_of b ≡ es
  entries_logbook s es e k = let z = reading_complete s es e k in entries_read z.0 ∙ z.1
