-- Demand 3 for a reading by steps, for any origin: what Induction asks of a kind of reading, shown of this one.
use Rattle.std.specs.Prelude.{◌≡◌, Bool, ℕ, suc, ◌+◌, ◌≤◌, take, drop, replicate}
use Rattle.std.proofs.Math.Path.{refl, sym, ap, subst}
use Rattle.std.proofs.Common.{◌∙◌, arith, zero-add}
use Rattle.std.proofs.Math.Bool.{true, false}
use mathlib.Core.List.{List, [], ◌∷◌, ◌++◌, append_assoc, append-nil}
use Rattle.std.proofs.Math.ListN.{length, length-append}
use Rattle.format.specs.Figures.{used_limit}
use Rattle.format.proofs.Laws.Cases.{by_test, from_zero_one}
use Rattle.format.specs.Register.{Names}
use Rattle.format.specs.Records.{refusal, Origin}
use Rattle.format.specs.Reading.{walk, Reading, fresh, Shown, shown, end, refused, stepped, step}
use Rattle.format.specs.Calls.{Book, parts, parted, book_of, sound, step_on}
use Rattle.format.specs.Interleaving.{listing, Same, Spared, spared, reply as reply_by, next as next_by, replies as replies_by, ends as ends_by}
use Rattle.format.specs.Series.{World, world, Event, calls, steps, Reply, said, showed, reply, next, replies, is_end, is_refused, sorted, stepwise, ToEnd, Reads, SameInBoth}
use Rattle.format.proofs.Laws.Order.Items.{Piece, walk_append}
use Rattle.format.proofs.Laws.Order.Standing.{Stands}
use Rattle.format.proofs.Laws.Order.Frames.{Sees, Fits, Good, StepOf, at_end_lem, moves, step_of, step_end, Came, came, stepped_came, ended_good, late_of, never_during}
use Rattle.format.proofs.Laws.Order.Writing.{early_of}
pub use Rattle.format.proofs.Laws.Order.Induction.{wld, sound_book, parted_book, parted_log, sound_parts}
use Rattle.format.proofs.Laws.Order.Induction.{Runs, nil, run_move, Does, MoveIn, stands, goes, RestIn, Laws, rest_in, same_from, runs_replies as replies_of}

-- ---- runs of steps

module _ (o : Origin) where
  pub runs_replies : {w w1 : World} {es : List Event} {rs : List Reply} → Runs o (stepwise o) w es rs w1 → replies o w es ≡ rs
  runs_replies q = replies_of o (stepwise o) q

  step_does : (l rest : List ℕ) (r r1 : Reading) (x : Shown) → length l ≤ used_limit → step o l r ≡ stepped x r1 → Does o (stepwise o) l rest r x r1
  unfolding step_on
  step_does l rest r r1 x b e =
      record { shows = rw (sound_book o l rest b, parted_log o l rest, e); leaves = rw (sound_book o l rest b, parted_log o l rest, e) }

  pub step_reply : (l rest : List ℕ) (r r1 : Reading) (x : Shown) → length l ≤ used_limit → step o l r ≡ stepped x r1
      → reply o (wld l rest r) steps ≡ showed x r1
  unfolding reply_by
  step_reply l rest r r1 x b e = let d = step_does l rest r r1 x b e in rw (d.shows, d.leaves)

  pub step_next : (l rest : List ℕ) (r r1 : Reading) (x : Shown) → length l ≤ used_limit → step o l r ≡ stepped x r1
      → next o (wld l rest r) steps ≡ wld l rest r1
  unfolding next_by
  step_next l rest r r1 x b e = rw (step_does l rest r r1 x b e).leaves

  run_step : (l rest : List ℕ) {r r1 : Reading} {x : Shown} {w2 : World} {es : List Event} {rs : List Reply}
      → length l ≤ used_limit → step o l r ≡ stepped x r1 → Runs o (stepwise o) (wld l rest r1) es rs w2
      → Runs o (stepwise o) (wld l rest r) (steps ∷ es) (showed x r1 ∷ rs) w2
  run_step l rest {r} {r1} {x} b e q = run_move o (stepwise o) l rest (step_does l rest r r1 x b e) q

module _ (o : Origin) (begin : Stands [] o.names) where
  pub fits_more : (l w : List ℕ) (g g1 : Names) (p : ℕ) → Fits o begin l g → length l ≡ p → Piece o g p w g1 → Fits o begin (l ++ w) g1
  unfolding walk
  fits_more l w g g1 p f k q = walk_append o 0 o.names g 0 l w f ∙ rw (zero-add, k) (rw append-nil at (q []))

  pub longer : (l w : List ℕ) (n : ℕ) → length l ≡ n → length (l ++ w) ≡ n + length w
  longer l w n k = length-append l w ∙ ap (λ (x : ℕ). x + length w) k

  pub good_more : (g g1 : Names) (p : ℕ) (w hi : List ℕ) → Piece o g p w g1 → Good o begin g1 (p + length w) hi → Good o begin g p (w ++ hi)
  good_more g g1 p w hi pc q =
      let e : p + length (w ++ hi) ≡ p + length w + length hi = rw length-append (omega arith) in
      record { names = q.names; walks = pc hi ∙ q.walks; ends = rw e q.ends; small = rw e q.small }

  -- ---- the laws: the cut is the reading's position
  record At : Type 0 where
    reading : Reading
    names : Names
    sees : Sees reading reading.position names

  abbrev at : (r : Reading) (g : Names) → Sees r r.position g → At
  at r g s = record { reading = r; names = g; sees = s }

  abbrev at_reading : At → Reading
  at_reading a = a.reading

  abbrev Below : At → List ℕ → Type 0
  Below a l = Fits o begin l a.names × (length l ≡ a.reading.position)

  abbrev Above : At → List ℕ → Type 0
  Above a hi = Good o begin a.names a.reading.position hi

  abbrev ahead : At → List ℕ → ℕ
  ahead a hi = length hi

  sees_at : (r : Reading) (p : ℕ) (g : Names) → r.position ≡ p → Sees r r.position g → Sees r p g
  sees_at r p g e s = subst (λ (q : ℕ). Sees r q g) e s

  sees_now : (r : Reading) (p : ℕ) (g : Names) → Sees r p g → Sees r r.position g
  sees_now r p g s = subst (λ (q : ℕ). Sees r q g) (sym s.place) s

  abbrev every : Reply → List Reply
  every a = a ∷ []

  every_listed : (rs : List Reply) → listing every rs ≡ rs
  unfolding listing
  every_listed [] = refl
  every_listed (a ∷ rs) = ap (λ (t : List Reply). a ∷ t) (every_listed rs)

  step_in : (r : Reading) (g : Names) (s : Sees r r.position g) (hi : List ℕ) → Good o begin g r.position hi
      → StepOf o begin r r.position g hi → MoveIn o (stepwise o) every ToEnd at_reading at_reading Below Above ahead (at r g s) hi
  unfolding ToEnd is_end is_refused listing
  step_in r g s hi q (at_end_lem e h) =
      stands (end r.position) e refl refl refl refl
      (λ lo rest f.
      let k : length lo ≡ r.position = f.1 in
      let d : step o lo r ≡ stepped (end (length lo)) r = step_end o begin r g lo (sees_at r (length lo) g (sym k) s) f.0 (rw k h) in
      step_does o (lo ++ []) rest r r (end r.position) (rw (append-nil, k) (omega (arith, q.small)))
      (rw append-nil (d ∙ ap (λ (n : ℕ). stepped (end n) r) k)))
  step_in r g s hi q (moves w hi1 g1 r1 i n e pos pc gd s1 d) =
      let k : r1.position ≡ r.position + length w = s1.place in
      goes w hi1 (at r1 g1 (sees_now r1 (r.position + length w) g1 s1)) (shown i n) (showed (shown i n) r1 ∷ []) e
      (omega (arith, ap length e ∙ length-append w hi1)) (rw k gd)
      (λ l f. (fits_more l w g g1 r.position f.0 f.1 pc, longer l w r.position f.1 ∙ sym k))
      (λ h z. good_more g g1 r.position w h pc (rw k at z))
      refl refl refl (λ rs t. t)
      (λ lo rest f. step_does o (lo ++ (w ++ hi1)) rest r r1 (shown i n) (rw (length-append lo (w ++ hi1), f.1, ← e) q.small) (d lo hi1 f.0 f.1))
      (λ lo hi2 rest f z. run_step o (lo ++ (w ++ hi2)) rest
      (rw (length-append lo (w ++ hi2), f.1) (good_more g g1 r.position w hi2 pc (rw k at z)).small) (d lo hi2 f.0 f.1) nil)

  step_laws : Laws o (stepwise o) every ToEnd at_reading at_reading Below Above ahead
  step_laws =
      record {
        small = λ a lo hi f q. rw (length-append, f.1) q.small;
        late_law = λ c a lo hi rest f q k y.
            let m = late_of o begin c lo a.names f.0 (rw f.1 k) in
            record { answer = m.answer; low = m.low; stays = (m.fits, m.long ∙ f.1); does = m.does };
        early_law = λ c a lo hi rest f q k.
            let m = early_of o begin c a.reading.position a.names hi rest lo f.0 f.1 q k in
            record { answer = m.answer; high = m.high; left = m.left; stays = m.good; does = λ l z. m.does l z.0 z.1 };
        never_during = λ c a k. never_during o begin c a.reading.position k;
        move_law = λ a hi q. step_in a.reading a.names a.sees hi q (step_of o begin a.reading a.reading.position a.names hi a.sees q);
      }

  -- an undisturbed reading comes to its end
  pub rest_of : (r : Reading) (g : Names) (s : Sees r r.position g) (hi : List ℕ) → Good o begin g r.position hi
      → RestIn o (stepwise o) every ToEnd at_reading at_reading Below Above ahead (at r g s) hi
  rest_of r g s hi q = rest_in o (stepwise o) every ToEnd at_reading at_reading Below Above ahead step_laws (at r g s) hi q

  -- ---- a logbook that reads to its end can be walked
  one_step : (l rest : List ℕ) (r r1 : Reading) (x : Shown) (rs : List Reply) → length l ≤ used_limit
      → replies o (wld l rest r) (replicate (suc (length rs)) steps) ≡ showed x r1 ∷ rs
      → (step o l r ≡ stepped x r1) × (replies o (wld l rest r1) (replicate (length rs) steps) ≡ rs)
  unfolding replies_by
  one_step l rest r r1 x rs b e =
      let y = step o l r in
      let a : reply o (wld l rest r) steps ≡ showed y.answer y.reading = step_reply o l rest r y.reading y.answer b refl in
      let n : next o (wld l rest r) steps ≡ wld l rest y.reading = step_next o l rest r y.reading y.answer b refl in
      let h : showed y.answer y.reading ∷ replies o (wld l rest y.reading) (replicate (length rs) steps) ≡ showed x r1 ∷ rs = rw (a, n) at e in
      let u : y.answer ≡ x = cc in
      let v : y.reading ≡ r1 = cc in
      let d : replies o (wld l rest y.reading) (replicate (length rs) steps) ≡ rs = cc in
      (λ i. stepped (u i) (v i), rw v at d)

  reads_more : (rs : List Reply) (lo hi rest : List ℕ) {g : Names} {r : Reading}
      → ((lo1 hi1 : List ℕ) (g1 : Names) → Sees r (length lo1) g1 → length lo1 + length hi1 ≤ used_limit → Fits o begin lo1 g1
      → replies o (wld (lo1 ++ hi1) rest r) (replicate (length rs) steps) ≡ rs → Good o begin g1 (length lo1) hi1)
      → length lo + length hi ≤ used_limit → Came o begin (length lo) g hi r → Fits o begin lo g
      → replies o (wld (lo ++ hi) rest r) (replicate (length rs) steps) ≡ rs → Good o begin g (length lo) hi
  reads_more rs lo hi rest {g} {r} ih b (came w hi1 g1 a s pc) f e =
      let z : length hi ≡ length w + length hi1 = ap length a ∙ length-append w hi1 in
      rw a
      (good_more g g1 (length lo) w hi1 pc
      (rw length-append at
      (ih (lo ++ w) hi1 g1 (rw length-append s) (rw length-append (omega arith)) (fits_more lo w g g1 (length lo) f refl pc) (rw append_assoc (rw a at e)))))

  pub reads_good : (rs : List Reply) (lo hi rest : List ℕ) (g : Names) (r : Reading) → Sees r (length lo) g → length lo + length hi ≤ used_limit
      → Fits o begin lo g → ToEnd rs → replies o (wld (lo ++ hi) rest r) (replicate (length rs) steps) ≡ rs
      → Good o begin g (length lo) hi
  unfolding ToEnd
  reads_good [] lo hi rest g r s b f h e = absurd h
  reads_good (said a ∷ rs) lo hi rest g r s b f h e = absurd h
  reads_good (showed (refused x) r1 ∷ rs) lo hi rest g r s b f h e = absurd h
  reads_good (showed (end p) r1 ∷ rs) lo hi rest g r s b f h e =
      let k = one_step (lo ++ hi) rest r r1 (end p) rs (rw length-append b) e in
      ended_good o begin r r1 (length lo) g lo hi p s b f refl k.0
  reads_good (showed (shown i n) r1 ∷ rs) lo hi rest g r s b f h e =
      let k = one_step (lo ++ hi) rest r r1 (shown i n) rs (rw length-append b) e in
      reads_more rs lo hi rest (λ lo1 hi1 g1 s1 b1 f1 e1. reads_good rs lo1 hi1 rest g1 r1 s1 b1 f1 h e1) b
      (stepped_came o begin r r1 (length lo) g lo hi i n s f refl k.0) f k.1

  -- ---- demand 3
  module _ (start : Sees fresh 0 o.names) where
    all_spared : (b : Bool) (w : World) (es : List Event) → Spared o (stepwise o) b w es
    unfolding Spared spared
    all_spared b w [] = tt
    all_spared true w (e ∷ es) = (refl, all_spared (ends_by o (stepwise o) true (reply o w e)) (next o w e) es)
    all_spared false w (calls c ∷ es) = (refl, all_spared (ends_by o (stepwise o) false (reply o w (calls c))) (next o w (calls c)) es)
    all_spared false w (steps ∷ es) = (refl, all_spared (ends_by o (stepwise o) false (reply o w steps)) (next o w steps) es)

    pub at_start : (l rest : List ℕ) → length l ≤ used_limit → Reads o (book_of (parts l rest)) → Good o begin o.names 0 l
    unfolding walk
    at_start l rest b r = reads_good r.list [] l rest o.names fresh start (omega arith) refl r.is_to_end r.read

    on_parts : (l rest : List ℕ) → length l ≤ used_limit → Reads o (book_of (parts l rest)) → (es : List Event) → SameInBoth o (book_of (parts l rest)) es
    unfolding walk
    on_parts l rest b r es =
        let m : Same o (stepwise o) every ToEnd (wld l rest fresh) es =
        same_from o (stepwise o) every ToEnd at_reading at_reading Below Above ahead step_laws (at fresh o.names start) l rest es refl (refl, refl)
        (at_start l rest b r) (all_spared false (wld l rest fresh) es) in
        let e : m.whole ≡ (sorted o false (wld l rest fresh) es).step_replies ++ m.more = sym (every_listed m.whole) ∙ m.same_list ∙ rw every_listed in
        record { more = m.more; to_end = rw e at m.to_end; none_more = m.none_more; same_replies = rw e at m.same_replies; same_book = rw e at m.same_book }

    pub unsound : (b : Book) (rs : List Reply) → sound b ≡ false → ToEnd rs → replies o (world b fresh) (replicate (length rs) steps) ≡ rs → ⊥
    unfolding ToEnd replies_by reply_by step_on
    unsound b [] q h e = h
    unsound b (said a ∷ rs) q h e = h
    unsound b (showed (refused x) r ∷ rs) q h e = h
    unsound b (showed (end p) r ∷ rs) q h e = from_zero_one (let d : showed (refused (refusal 1 0)) fresh ∷ _ ≡ showed (end p) r ∷ rs = rw q at e in cc)
    unsound b (showed (shown i n) r ∷ rs) q h e = from_zero_one (let d : showed (refused (refusal 1 0)) fresh ∷ _ ≡ showed (shown i n) r ∷ rs = rw q at e in cc)

    pub same_in_both : (b : Book) → Reads o b → (es : List Event) → SameInBoth o b es
    unfolding parted
    same_in_both b r es =
        by_test (sound b)
        (λ q. let p = sound_parts o b q in
        subst (λ (c : Book). Reads o c → SameInBoth o c es) (sym p.0)
        (λ d. on_parts (take b.used b.buffer) (drop b.used b.buffer) p.1 d es) r)
        (λ q. absurd (unsound b r.list q r.is_to_end r.read))
