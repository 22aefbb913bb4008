-- The numbers that a reading shows: 1, 2, 3 .. at the live entries, in order.
use Rattle.std.specs.Prelude.{◌≡◌, refl, Bool, true, false, cond, List, [], ◌∷◌, ◌++◌, ℕ, zero, suc, length, drop, replicate}
use Rattle.std.proofs.Common.{sym, ap, ◌∙◌}
use Rattle.format.proofs.Laws.Cases.{from_zero_one}
use Rattle.format.specs.Register.{Names}
use Rattle.format.specs.Records.{Refusal, refusal, Item, padding, deleted, live, Got, bad, got, logbook, at_header, item}
use Rattle.format.specs.Reading.{Reading, fresh, fits, Shown, shown, end, refused, Report, report_of, Stepped, stepped, counted, numbered, moved, at_end, step_at, names_in, step}
use Rattle.format.specs.Calls.{Book, parted, sound, step_on}
use Rattle.format.specs.Interleaving.{replies as replies_by, reply as reply_by, next as next_by}
use Rattle.format.specs.Series.{World, world, steps, Reply, showed, replies}
use Rattle.format.specs.Grammar.{Listed}
use Rattle.format.specs.Entries.{told, listed, number_told, numbers_shown, count_up}

-- ---- a step that shows an item numbers it by the count, and counts it
pub shown_item : {i j : Item} {n m : Report} → shown i n ≡ shown j m → i ≡ j
shown_item e = cc

pub shown_report : {i j : Item} {n m : Report} → shown i n ≡ shown j m → n ≡ m
shown_report e = cc

pub refused_shown : {P : Type 0} {x : Refusal} {i : Item} {n : Report} → refused x ≡ shown i n → P
refused_shown e = from_zero_one (cc)

pub end_shown : {P : Type 0} (b : Bool) (x : Refusal) (p : ℕ) {i : Item} {n : Report} → cond b (refused x) (end p) ≡ shown i n → P
end_shown true x p e = from_zero_one (cc)
end_shown false x p e = from_zero_one (cc)

-- r is the reading before the step
abbrev pub Counts : Reading → Stepped → Type 0
Counts r s = (i : Item) (n : Report) → s.answer ≡ shown i n → (n ≡ report_of i r) × (s.reading.count ≡ counted i r.count)

moved_counts : (v : Got) (r : Reading) → Counts r (moved v r)
unfolding moved
moved_counts (bad x) r i n e = refused_shown e
moved_counts (got j m h) r i n e =
    let q : j ≡ i = shown_item e in
    (sym (shown_report e) ∙ ap (λ (k : Item). report_of k r) q, ap (λ (k : Item). counted k r.count) q)

at_counts : (g : Names) (l : List ℕ) (r : Reading) → Counts r (step_at logbook g l r)
unfolding step_at at_end
at_counts g [] r i n e = end_shown (at_header logbook r.position) (refusal 2 0) r.position e
at_counts g (x ∷ xs) r i n e = moved_counts (item logbook g r.position x xs) r i n e

pub step_counts : (b : Book) (r : Reading) → Counts r (step_on logbook b r)
unfolding step_on step
step_counts b r = go (sound b) (fits r (length (parted b).log))
  where
    go : (x y : Bool)
        → Counts r (cond x (cond y (step_at logbook (names_in (parted b).log r) (drop r.position (parted b).log) r) (stepped (refused (refusal 13 0)) r)) (stepped (refused (refusal 1 0)) r))
    go false y i n e = refused_shown e
    go true false i n e = refused_shown e
    go true true i n e = at_counts (names_in (parted b).log r) (drop r.position (parted b).log) r i n e

-- ---- the run of steps
count_item : (c : ℕ) (n : Report) (i : Item) (ms : List ℕ) (es : List Listed) → n.number ≡ numbered i c → ms ≡ count_up (suc (counted i c)) (length es)
    → number_told i n ++ ms ≡ count_up (suc c) (length (told i ++ es))
unfolding number_told told count_up
count_item c n (padding p) ms es e h = h
count_item c n (deleted p k m) ms es e h = h
count_item c n (live d) ms es e h = rw (e, h)

abbrev Run : World → ℕ → List Reply
Run w n = replies logbook w (replicate n steps)

count_shown : (r0 : Reading) (n : ℕ) (b : Book) (x : Shown) (r : Reading) → Counts r0 (stepped x r) → numbers_shown (Run (world b r) n) ≡ count_up (suc r.count) (length (listed (Run (world b r) n)))
    → numbers_shown (showed x r ∷ Run (world b r) n) ≡ count_up (suc r0.count) (length (listed (showed x r ∷ Run (world b r) n)))
unfolding numbers_shown listed count_up
count_shown r0 n b (end p) r k h = refl
count_shown r0 n b (refused y) r k h = refl
count_shown r0 n b (shown i m) r k h =
    let q = k i m refl in
    count_item r0.count m i (numbers_shown (Run (world b r) n)) (listed (Run (world b r) n)) (ap (λ (x : Report). x.number) q.0)
    (h ∙ ap (λ (z : ℕ). count_up (suc z) (length (listed (Run (world b r) n)))) q.1)

count_run : (n : ℕ) (b : Book) (r : Reading) → numbers_shown (Run (world b r) n) ≡ count_up (suc r.count) (length (listed (Run (world b r) n)))
unfolding replies_by reply_by next_by numbers_shown listed count_up
count_run zero b r = refl
count_run (suc n) b r =
    count_shown r n b (step_on logbook b r).answer (step_on logbook b r).reading (step_counts b r) (count_run n b (step_on logbook b r).reading)

-- a fresh reading numbers its entries 1, 2, 3 ..
pub numbers : (n : ℕ) (b : Book) → numbers_shown (replies logbook (world b fresh) (replicate n steps)) ≡ count_up 1 (length (listed (replies logbook (world b fresh) (replicate n steps))))
numbers n b = count_run n b fresh
