-- Demand 3 for any kind of reading, by one induction over the series: a late call reads and writes only what lies below a cut
-- of the log, an early call and a move only what lies above it.
use Rattle.std.specs.Prelude.{◌≡◌, true, false, ℕ, zero, suc, ◌≤◌, ◌<◌, take, replicate, leb}
use Rattle.std.proofs.Math.Path.{refl, sym, ap}
use Rattle.std.proofs.Common.{◌∙◌, arith, take-append-drop}
use mathlib.Core.List.{List, [], ◌∷◌, ◌++◌, append_assoc, append-nil}
use borrow.Author.Tests.{le-leb, leb-true}
use Rattle.std.proofs.Math.ListN.{length, length-append}
use Rattle.std.proofs.lemmas.List.{replicate-append-replicate}
use Rattle.std.proofs.Math.Seq.{take-append_seam, drop-append_seam, length-take-le}
use Rattle.format.specs.Figures.{used_limit}
use Rattle.format.proofs.Laws.Cases.{from_zero_one, and_left, and_right}
use Rattle.format.specs.Records.{Origin}
use Rattle.format.specs.Calls.{Book, Parts, parts, parted, book_of, sound, Call, Answer, call, call_on}
use Rattle.format.specs.Interleaving.{WorldOf, world, Event, calls, steps, ReplyOf, said, showed, Mark, early, during, late, Reader, SortedOf, add, reordered, listing, reply, next, replies, final, mark, ends, sorted, spared, Spared, NoneRefused, Same}

-- ---- runs
abbrev pub book : List ℕ → List ℕ → Book
book l rest = book_of (parts l rest)

abbrev pub wld : {R : Type 0} → List ℕ → List ℕ → R → WorldOf R
wld l rest r = world (book l rest) r

-- ---- buffer and used length
module _ (o : Origin) where
  pub sound_book : (l rest : List ℕ) → length l ≤ used_limit → sound (book_of (parts l rest)) ≡ true
  unfolding sound book_of
  sound_book l rest h = rw (le-leb (length l) (length (l ++ rest)) (rw length-append (omega arith)), le-leb (length l) used_limit h)

  pub parted_book : (l rest : List ℕ) → parted (book_of (parts l rest)) ≡ parts l rest
  unfolding parted book_of
  parted_book l rest = rw (take-append_seam l rest, drop-append_seam l rest)

  pub parted_log : (l rest : List ℕ) → (parted (book_of (parts l rest))).log ≡ l
  parted_log l rest = ap (λ (s : Parts). s.log) (parted_book l rest)

  pub sound_parts : (b : Book) → sound b ≡ true → (b ≡ book_of (parted b)) × (length (take b.used b.buffer) ≤ used_limit)
  unfolding sound book_of parted
  sound_parts b e =
      let a : b.used ≤ length b.buffer = leb-true _ _ (and_left (leb b.used (length b.buffer)) (leb b.used used_limit) e) in
      let c : length (take b.used b.buffer) ≡ b.used = length-take-le b.used b.buffer a in
      (rw (take-append-drop, c), rw c (leb-true _ _ (and_right (leb b.used (length b.buffer)) (leb b.used used_limit) e)))

module _ {S R : Type 0} where
  pub listing_append : {L : Type 0} (f : ReplyOf S R → List L) (ps rs : List (ReplyOf S R)) → listing f (ps ++ rs) ≡ listing f ps ++ listing f rs
  unfolding listing
  listing_append f [] rs = refl
  listing_append f (a ∷ ps) rs = rw (listing_append f ps rs) (simp append_assoc)

module _ {S R : Type 0} (o : Origin) (X : Reader S R) where
  pub data Runs : WorldOf R → List Event → List (ReplyOf S R) → WorldOf R → Type 0 where
    nil : {w : WorldOf R} → Runs w [] [] w
    cons : {w w1 w2 : WorldOf R} {e : Event} {a : ReplyOf S R} {es : List Event} {rs : List (ReplyOf S R)} → reply o X w e ≡ a → next o X w e ≡ w1
        → Runs w1 es rs w2 → Runs w (e ∷ es) (a ∷ rs) w2

  pub joined : {w w1 w2 : WorldOf R} {es fs : List Event} {rs ss : List (ReplyOf S R)} → Runs w es rs w1 → Runs w1 fs ss w2 → Runs w (es ++ fs) (rs ++ ss) w2
  joined nil r = r
  joined (cons a n q) r = cons a n (joined q r)

  pub runs_replies : {w w1 : WorldOf R} {es : List Event} {rs : List (ReplyOf S R)} → Runs w es rs w1 → replies o X w es ≡ rs
  unfolding replies
  runs_replies nil = refl
  runs_replies (cons a n q) = rw (a, n, runs_replies q)

  pub runs_final : {w w1 : WorldOf R} {es : List Event} {rs : List (ReplyOf S R)} → Runs w es rs w1 → final o X w es ≡ w1
  unfolding final
  runs_final nil = refl
  runs_final (cons a n q) = rw n (runs_final q)

  runs_all : (w : WorldOf R) (es : List Event) → Runs w es (replies o X w es) (final o X w es)
  unfolding replies final
  runs_all w [] = nil
  runs_all w (e ∷ es) = cons refl refl (runs_all (next o X w e) es)

  call_reply : (l rest l1 rest1 : List ℕ) (c : Call) (a : Answer) (r : R) → length l ≤ used_limit → call o c (parts l rest) ≡ (a, parts l1 rest1)
      → reply o X (wld l rest r) (calls c) ≡ said a
  unfolding reply call_on
  call_reply l rest l1 rest1 c a r b e = rw (sound_book o l rest b, parted_book o l rest, e)

  call_next : (l rest l1 rest1 : List ℕ) (c : Call) (a : Answer) (r : R) → length l ≤ used_limit → call o c (parts l rest) ≡ (a, parts l1 rest1)
      → next o X (wld l rest r) (calls c) ≡ wld l1 rest1 r
  unfolding next call_on
  call_next l rest l1 rest1 c a r b e = rw (sound_book o l rest b, parted_book o l rest, e)

  run_call : (l rest : List ℕ) {l1 rest1 : List ℕ} {c : Call} {a : Answer} {r : R} {w2 : WorldOf R} {es : List Event} {rs : List (ReplyOf S R)}
      → length l ≤ used_limit → call o c (parts l rest) ≡ (a, parts l1 rest1) → Runs (wld l1 rest1 r) es rs w2
      → Runs (wld l rest r) (calls c ∷ es) (said a ∷ rs) w2
  run_call l rest {l1} {rest1} {c} {a} {r} b e q = cons (call_reply l rest l1 rest1 c a r b e) (call_next l rest l1 rest1 c a r b e) q

  -- a move
  pub record Does (l rest : List ℕ) (r : R) (x : S) (r1 : R) : Type 0 where
    pub shows : X.shows (book l rest) r ≡ x
    pub leaves : X.leaves (book l rest) r ≡ r1

  does_reply : (l rest : List ℕ) (r r1 : R) (x : S) → Does l rest r x r1 → reply o X (wld l rest r) steps ≡ showed x r1
  unfolding reply
  does_reply l rest r r1 x d = rw (d.shows, d.leaves)

  does_next : (l rest : List ℕ) (r r1 : R) (x : S) → Does l rest r x r1 → next o X (wld l rest r) steps ≡ wld l rest r1
  unfolding next
  does_next l rest r r1 x d = rw d.leaves

  pub run_move : (l rest : List ℕ) {r r1 : R} {x : S} {w2 : WorldOf R} {es : List Event} {rs : List (ReplyOf S R)}
      → Does l rest r x r1 → Runs (wld l rest r1) es rs w2 → Runs (wld l rest r) (steps ∷ es) (showed x r1 ∷ rs) w2
  run_move l rest {r} {r1} {x} d q = cons (does_reply l rest r r1 x d) (does_next l rest r r1 x d) q

  -- two runs of moves, one after the other
  pub runs_on : {w w1 w2 : WorldOf R} (ps rs : List (ReplyOf S R)) → Runs w (replicate (length ps) steps) ps w1
      → Runs w1 (replicate (length rs) steps) rs w2 → Runs w (replicate (length (ps ++ rs)) steps) (ps ++ rs) w2
  runs_on ps rs a b = rw (length-append, ← (replicate-append-replicate {A = Event} (length ps) (length rs) steps)) (joined a b)

-- ---- the cut: in a situation a, Low says what may lie below it and High what may lie above it; `now` is the reading in the
-- series, `back` the one that is not disturbed
module _ {S R L : Type 0} (o : Origin) (X : Reader S R) (lists : ReplyOf S R → List L) (ToEnd : List (ReplyOf S R) → Type 0)
    {Sit : Type 0} (now back : Sit → R) (Low High : Sit → List ℕ → Type 0) (weight : Sit → List ℕ → ℕ) where
  pub record LateIn (c : Call) (a : Sit) (lo : List ℕ) : Type 0 where
    pub answer : Answer
    pub low : List ℕ
    pub stays : Low a low
    pub does : (hi rest : List ℕ) → call o c (parts (lo ++ hi) rest) ≡ (answer, parts (low ++ hi) rest)

  pub record EarlyIn (c : Call) (a : Sit) (hi rest : List ℕ) : Type 0 where
    pub answer : Answer
    pub high : List ℕ
    pub left : List ℕ
    pub stays : High a high
    pub does : (lo : List ℕ) → Low a lo → call o c (parts (lo ++ hi) rest) ≡ (answer, parts (lo ++ high) left)

  -- a move: at the end; or it takes w below the cut, to a situation of less weight, and the undisturbed reading passes over w
  -- with the replies ps, which list the same
  pub data MoveIn (a : Sit) (hi : List ℕ) : Type 0 where
    stands : (x : S) → hi ≡ [] → X.is_end x ≡ true → X.is_refused x ≡ false → now a ≡ back a → ToEnd (showed x (now a) ∷ [])
        → ((lo rest : List ℕ) → Low a lo → Does o X (lo ++ []) rest (now a) x (now a)) → MoveIn a hi
    goes : (w hi1 : List ℕ) (b : Sit) (x : S) (ps : List (ReplyOf S R)) → hi ≡ w ++ hi1 → weight b hi1 < weight a hi → High b hi1
        → ((l : List ℕ) → Low a l → Low b (l ++ w)) → ((h : List ℕ) → High b h → High a (w ++ h)) → X.is_end x ≡ false → X.is_refused x ≡ false
        → listing lists ps ≡ lists (showed x (now b)) → ((rs : List (ReplyOf S R)) → ToEnd rs → ToEnd (ps ++ rs))
        → ((lo rest : List ℕ) → Low a lo → Does o X (lo ++ (w ++ hi1)) rest (now a) x (now b))
        → ((lo hi2 rest : List ℕ) → Low a lo → High b hi2 → Runs o X (wld (lo ++ (w ++ hi2)) rest (back a)) (replicate (length ps) steps) ps
        (wld (lo ++ (w ++ hi2)) rest (back b)))
        → MoveIn a hi

  -- the undisturbed reading, to its end
  pub record RestIn (a : Sit) (hi : List ℕ) : Type 0 where
    pub list : List (ReplyOf S R)
    pub last : R
    pub to_end_lem : ToEnd list
    pub runs : (l rest : List ℕ) → Low a l → Runs o X (wld (l ++ hi) rest (back a)) (replicate (length list) steps) list (wld (l ++ hi) rest last)

  -- what a kind of reading has to show
  pub record Laws : Type 0 where
    pub small : (a : Sit) (lo hi : List ℕ) → Low a lo → High a hi → length (lo ++ hi) ≤ used_limit
    pub late_law : (c : Call) (a : Sit) (lo hi rest : List ℕ) → Low a lo → High a hi → X.marks (now a) c ≡ late
        → X.spares (book (lo ++ hi) rest) (now a) c ≡ true → LateIn c a lo
    pub early_law : (c : Call) (a : Sit) (lo hi rest : List ℕ) → Low a lo → High a hi → X.marks (now a) c ≡ early → EarlyIn c a hi rest
    pub never_during : (c : Call) (a : Sit) → X.marks (now a) c ≡ during → ⊥
    pub move_law : (a : Sit) (hi : List ℕ) → High a hi → MoveIn a hi

  module _ (Y : Laws) where
    rest_goes : (a b : Sit) (w hi1 : List ℕ) (ps : List (ReplyOf S R)) → High b hi1 → ((l : List ℕ) → Low a l → Low b (l ++ w))
        → ((rs : List (ReplyOf S R)) → ToEnd rs → ToEnd (ps ++ rs))
        → ((l hi2 rest : List ℕ) → Low a l → High b hi2 → Runs o X (wld (l ++ (w ++ hi2)) rest (back a)) (replicate (length ps) steps) ps
        (wld (l ++ (w ++ hi2)) rest (back b))) → RestIn b hi1 → RestIn a (w ++ hi1)
    rest_goes a b w hi1 ps q fl te d m =
        record {
          list = ps ++ m.list;
          last = m.last;
          to_end_lem = te m.list m.to_end_lem;
          runs = λ l rest f. runs_on o X ps m.list (d l hi1 rest f q) (rw (append_assoc l w hi1) at (m.runs (l ++ w) rest (fl l f)));
        }

    rest_stands : (a : Sit) (x : S) → now a ≡ back a → ToEnd (showed x (now a) ∷ [])
        → ((l rest : List ℕ) → Low a l → Does o X (l ++ []) rest (now a) x (now a)) → RestIn a []
    rest_stands a x e t d =
        record { list = showed x (now a) ∷ []; last = now a; to_end_lem = t; runs = λ l rest f. rw (← e) (run_move o X (l ++ []) rest (d l rest f) nil) }

    rest_move : (n : ℕ) (a : Sit) (hi : List ℕ) → weight a hi ≤ n → ((b : Sit) (h : List ℕ) → weight b h < n → High b h → RestIn b h) → MoveIn a hi
        → RestIn a hi
    rest_move n a hi l ih (stands x e i nr z t d) = rw e (rest_stands a x z t d)
    rest_move n a hi l ih (goes w hi1 b x ps e v q fl fh i nr sl te d ru) = rw e (rest_goes a b w hi1 ps q fl te ru (ih b hi1 (omega arith) q))

    rest_within : (n : ℕ) (a : Sit) (hi : List ℕ) → weight a hi ≤ n → High a hi → RestIn a hi
    rest_within zero a hi l q = rest_move 0 a hi l (λ b h k. absurd (omega arith)) (Y.move_law a hi q)
    rest_within (suc n) a hi l q = rest_move (suc n) a hi l (λ b h k y. rest_within n b h (omega arith) y) (Y.move_law a hi q)

    pub rest_in : (a : Sit) (hi : List ℕ) → High a hi → RestIn a hi
    rest_in a hi q = rest_within (weight a hi) a hi (omega arith) q

    -- ---- the series from a situation in the middle: T is the series sorted from here, z its last book
    pub record Main (T : SortedOf S R) (z : Book) (a : Sit) (lo hi rest : List ℕ) : Type 0 where
      pub high : List ℕ
      pub left : List ℕ
      pub whole : List (ReplyOf S R)
      pub more : List L
      pub last : R
      pub end_world : WorldOf R
      pub good : High a high
      pub early_run : (l : List ℕ) (s : R) → Low a l → Runs o X (wld (l ++ hi) rest s) T.early_events T.early_replies (wld (l ++ high) left s)
      pub read_run : (l : List ℕ) → Low a l → Runs o X (wld (l ++ high) left (back a)) (replicate (length whole) steps) whole (wld (l ++ high) left last)
      pub late_run : Runs o X (wld (lo ++ high) left last) T.late_events T.late_replies end_world
      pub is_end_lem : end_world.book ≡ z
      pub to_end_lem : ToEnd whole
      pub same_list_lem : listing lists whole ≡ listing lists T.step_replies ++ more
      pub none_more_lem : T.ended ≡ true → more ≡ []
      pub none_refused_lem : NoneRefused o X T.step_replies

    main_early : {T : SortedOf S R} {z : Book} {a : Sit} {lo hi rest : List ℕ} {c : Call} → High a hi → (e : EarlyIn c a hi rest)
        → Main T z a lo e.high e.left → Main (add early (calls c) (said e.answer) T) z a lo hi rest
    unfolding add
    main_early {a = a} {hi = hi} {rest = rest} q e m =
        record {
          high = m.high;
          left = m.left;
          whole = m.whole;
          more = m.more;
          last = m.last;
          end_world = m.end_world;
          good = m.good;
          early_run = λ l s f. run_call o X (l ++ hi) rest (Y.small a l hi f q) (e.does l f) (m.early_run l s f);
          read_run = m.read_run;
          late_run = m.late_run;
          is_end_lem = m.is_end_lem;
          to_end_lem = m.to_end_lem;
          same_list_lem = m.same_list_lem;
          none_more_lem = m.none_more_lem;
          none_refused_lem = m.none_refused_lem;
        }

    main_late : {T : SortedOf S R} {z : Book} {a : Sit} {lo hi rest : List ℕ} {c : Call} → Low a lo → (e : LateIn c a lo)
        → Main T z a e.low hi rest → Main (add late (calls c) (said e.answer) T) z a lo hi rest
    unfolding add
    main_late {a = a} {lo = lo} f e m =
        record {
          high = m.high;
          left = m.left;
          whole = m.whole;
          more = m.more;
          last = m.last;
          end_world = m.end_world;
          good = m.good;
          early_run = m.early_run;
          read_run = m.read_run;
          late_run = run_call o X (lo ++ m.high) m.left (Y.small a lo m.high f m.good) (e.does m.high m.left) m.late_run;
          is_end_lem = m.is_end_lem;
          to_end_lem = m.to_end_lem;
          same_list_lem = m.same_list_lem;
          none_more_lem = m.none_more_lem;
          none_refused_lem = m.none_refused_lem;
        }

    main_goes : {T : SortedOf S R} {z : Book} {a b : Sit} {lo hi1 rest : List ℕ} (w : List ℕ) {x : S} {ps : List (ReplyOf S R)}
        → X.is_refused x ≡ false → ((l : List ℕ) → Low a l → Low b (l ++ w)) → ((h : List ℕ) → High b h → High a (w ++ h))
        → listing lists ps ≡ lists (showed x (now b)) → ((rs : List (ReplyOf S R)) → ToEnd rs → ToEnd (ps ++ rs))
        → ((l hi2 rest : List ℕ) → Low a l → High b hi2 → Runs o X (wld (l ++ (w ++ hi2)) rest (back a)) (replicate (length ps) steps) ps
        (wld (l ++ (w ++ hi2)) rest (back b)))
        → Main T z b (lo ++ w) hi1 rest → Main (add during steps (showed x (now b)) T) z a lo (w ++ hi1) rest
    unfolding add listing NoneRefused
    main_goes {T} {a = a} {b = b} {lo = lo} {hi1 = hi1} w {x} {ps} nr fl fh sl te d m =
        let e : listing lists (ps ++ m.whole) ≡ lists (showed x (now b)) ++ (listing lists T.step_replies ++ m.more) =
        listing_append lists ps m.whole ∙ rw (sl, m.same_list_lem) in
        record {
          high = w ++ m.high;
          left = m.left;
          whole = ps ++ m.whole;
          more = m.more;
          last = m.last;
          end_world = m.end_world;
          good = fh m.high m.good;
          early_run = λ l s f. rw (append_assoc l w hi1, append_assoc l w m.high) at (m.early_run (l ++ w) s (fl l f));
          read_run =
              λ l f. runs_on o X ps m.whole (d l m.high m.left f m.good) (rw (append_assoc l w m.high) at (m.read_run (l ++ w) (fl l f)));
          late_run = rw (append_assoc lo w m.high) at m.late_run;
          is_end_lem = m.is_end_lem;
          to_end_lem = te m.whole m.to_end_lem;
          same_list_lem = e ∙ rw append_assoc;
          none_more_lem = m.none_more_lem;
          none_refused_lem = (nr, m.none_refused_lem);
        }

    main_done : (w : WorldOf R) (a : Sit) (lo hi rest : List ℕ) → High a hi → w ≡ wld (lo ++ hi) rest (now a)
        → Main (sorted o X false w []) w.book a lo hi rest
    unfolding sorted listing NoneRefused
    main_done w a lo hi rest q e =
        let m : RestIn a hi = rest_in a hi q in
        record {
          high = hi;
          left = rest;
          whole = m.list;
          more = listing lists m.list;
          last = m.last;
          end_world = wld (lo ++ hi) rest m.last;
          good = q;
          early_run = λ l t f. nil;
          read_run = λ l f. m.runs l rest f;
          late_run = nil;
          is_end_lem = rw e;
          to_end_lem = m.to_end_lem;
          same_list_lem = refl;
          none_more_lem = λ h. from_zero_one (cc);
          none_refused_lem = tt;
        }

    -- after the end all is late
    all_late : (w : WorldOf R) (es : List Event) → sorted o X true w es
        ≡ record { early_events = []; early_replies = []; step_replies = []; late_events = es; late_replies = replies o X w es; ended = true }
    unfolding sorted replies mark ends add
    all_late w [] = refl
    all_late w (e ∷ es) = rw (all_late (next o X w e) es)

    main_stands : (es : List Event) (a : Sit) (lo rest : List ℕ) (x : S) → X.is_refused x ≡ false → High a [] → now a ≡ back a
        → ToEnd (showed x (now a) ∷ []) → ((l rest : List ℕ) → Low a l → Does o X (l ++ []) rest (now a) x (now a))
        → Main (add during steps (showed x (now a)) (sorted o X true (wld (lo ++ []) rest (now a)) es))
        (final o X (wld (lo ++ []) rest (now a)) es).book a lo [] rest
    unfolding add listing NoneRefused
    main_stands es a lo rest x nr q e t d =
        rw all_late
        (record {
          high = [];
          left = rest;
          whole = showed x (now a) ∷ [];
          more = [];
          last = now a;
          end_world = final o X (wld (lo ++ []) rest (now a)) es;
          good = q;
          early_run = λ l s k. nil;
          read_run = λ l k. rw (← e) (run_move o X (l ++ []) rest (d l rest k) nil);
          late_run = runs_all o X (wld (lo ++ []) rest (now a)) es;
          is_end_lem = refl;
          to_end_lem = t;
          same_list_lem = sym (append-nil (lists (showed x (now a)) ++ []));
          none_more_lem = λ k. refl;
          none_refused_lem = (nr, tt);
        })

    -- ---- what the series does with its first event
    sorted_call : (x : Call) (es : List Event) (w w1 : WorldOf R) (a : Answer) (k : Mark) → reply o X w (calls x) ≡ said a → next o X w (calls x) ≡ w1
        → X.marks w.reading x ≡ k
        → sorted o X false w (calls x ∷ es) ≡ add k (calls x) (said a) (sorted o X false w1 es)
    unfolding sorted mark ends
    sorted_call x es w w1 a k e n h = rw (e, n, h)

    sorted_move : (es : List Event) (w w1 : WorldOf R) (x : S) (r : R) → reply o X w steps ≡ showed x r → next o X w steps ≡ w1 → X.is_end x ≡ false
        → sorted o X false w (steps ∷ es) ≡ add during steps (showed x r) (sorted o X false w1 es)
    unfolding sorted mark ends
    sorted_move es w w1 x r e h f = rw (e, h, f)

    sorted_end : (es : List Event) (w w1 : WorldOf R) (x : S) (r : R) → reply o X w steps ≡ showed x r → next o X w steps ≡ w1 → X.is_end x ≡ true
        → sorted o X false w (steps ∷ es) ≡ add during steps (showed x r) (sorted o X true w1 es)
    unfolding sorted mark ends
    sorted_end es w w1 x r e h f = rw (e, h, f)

    final_cons : (e : Event) (es : List Event) (w w1 : WorldOf R) → next o X w e ≡ w1 → final o X w (e ∷ es) ≡ final o X w1 es
    unfolding final
    final_cons e es w w1 h = rw h

    spared_call : (x : Call) (es : List Event) (w w1 : WorldOf R) (a : Answer) → reply o X w (calls x) ≡ said a → next o X w (calls x) ≡ w1
        → Spared o X false w (calls x ∷ es) → (X.spares w.book w.reading x ≡ true) × Spared o X false w1 es
    unfolding Spared spared ends
    spared_call x es w w1 a e n (k, h) = (k, rw (e, n) at h)

    spared_move : (es : List Event) (w w1 : WorldOf R) (x : S) (r : R) → reply o X w steps ≡ showed x r → next o X w steps ≡ w1 → X.is_end x ≡ false
        → Spared o X false w (steps ∷ es) → Spared o X false w1 es
    unfolding Spared spared ends
    spared_move es w w1 x r e n f (k, h) = rw (e, n, f) at h

    abbrev pub From : List Event → Sit → List ℕ → List ℕ → List ℕ → Type 0
    From es a lo hi rest = Main (sorted o X false (wld (lo ++ hi) rest (now a)) es) (final o X (wld (lo ++ hi) rest (now a)) es).book a lo hi rest

    abbrev Holds : List Event → Type 0
    Holds es = (a : Sit) (lo hi rest : List ℕ) → Low a lo → High a hi → Spared o X false (wld (lo ++ hi) rest (now a)) es → From es a lo hi rest

    on_late : (x : Call) (es : List Event) → Holds es → (a : Sit) (lo hi rest : List ℕ) → Low a lo → High a hi → X.marks (now a) x ≡ late
        → LateIn x a lo → Spared o X false (wld (lo ++ hi) rest (now a)) (calls x ∷ es) → From (calls x ∷ es) a lo hi rest
    on_late x es ih a lo hi rest f q k m p =
        let b : length (lo ++ hi) ≤ used_limit = Y.small a lo hi f q in
        let n : next o X (wld (lo ++ hi) rest (now a)) (calls x) ≡ wld (m.low ++ hi) rest (now a) =
        call_next o X (lo ++ hi) rest (m.low ++ hi) rest x m.answer (now a) b (m.does hi rest) in
        let y : reply o X (wld (lo ++ hi) rest (now a)) (calls x) ≡ said m.answer =
        call_reply o X (lo ++ hi) rest (m.low ++ hi) rest x m.answer (now a) b (m.does hi rest) in
        rw (
          sorted_call x es (wld (lo ++ hi) rest (now a)) (wld (m.low ++ hi) rest (now a)) m.answer late y n k,
          final_cons (calls x) es (wld (lo ++ hi) rest (now a)) (wld (m.low ++ hi) rest (now a)) n,
        )
        (main_late f m
        (ih a m.low hi rest m.stays q (spared_call x es (wld (lo ++ hi) rest (now a)) (wld (m.low ++ hi) rest (now a)) m.answer y n p).1))

    on_early : (x : Call) (es : List Event) → Holds es → (a : Sit) (lo hi rest : List ℕ) → Low a lo → High a hi → X.marks (now a) x ≡ early
        → EarlyIn x a hi rest → Spared o X false (wld (lo ++ hi) rest (now a)) (calls x ∷ es) → From (calls x ∷ es) a lo hi rest
    on_early x es ih a lo hi rest f q k m p =
        let b : length (lo ++ hi) ≤ used_limit = Y.small a lo hi f q in
        let d = m.does lo f in
        let n : next o X (wld (lo ++ hi) rest (now a)) (calls x) ≡ wld (lo ++ m.high) m.left (now a) =
        call_next o X (lo ++ hi) rest (lo ++ m.high) m.left x m.answer (now a) b d in
        let y : reply o X (wld (lo ++ hi) rest (now a)) (calls x) ≡ said m.answer =
        call_reply o X (lo ++ hi) rest (lo ++ m.high) m.left x m.answer (now a) b d in
        rw (
          sorted_call x es (wld (lo ++ hi) rest (now a)) (wld (lo ++ m.high) m.left (now a)) m.answer early y n k,
          final_cons (calls x) es (wld (lo ++ hi) rest (now a)) (wld (lo ++ m.high) m.left (now a)) n,
        )
        (main_early q m
        (ih a lo m.high m.left f m.stays
        (spared_call x es (wld (lo ++ hi) rest (now a)) (wld (lo ++ m.high) m.left (now a)) m.answer y n p).1))

    on_stands : (es : List Event) (a : Sit) (lo rest : List ℕ) (x : S) → Low a lo → High a [] → X.is_end x ≡ true → X.is_refused x ≡ false
        → now a ≡ back a → ToEnd (showed x (now a) ∷ []) → ((l rest : List ℕ) → Low a l → Does o X (l ++ []) rest (now a) x (now a))
        → From (steps ∷ es) a lo [] rest
    on_stands es a lo rest x f q i nr e t d =
        let n : next o X (wld (lo ++ []) rest (now a)) steps ≡ wld (lo ++ []) rest (now a) = does_next o X (lo ++ []) rest (now a) (now a) x (d lo rest f) in
        rw (
          sorted_end es (wld (lo ++ []) rest (now a)) (wld (lo ++ []) rest (now a)) x (now a)
              (does_reply o X (lo ++ []) rest (now a) (now a) x (d lo rest f)) n i,
          final_cons steps es (wld (lo ++ []) rest (now a)) (wld (lo ++ []) rest (now a)) n,
        )
        (main_stands es a lo rest x nr q e t d)

    on_goes : (es : List Event) → Holds es → (a b : Sit) (lo w hi1 rest : List ℕ) (x : S) (ps : List (ReplyOf S R)) → Low a lo → High b hi1
        → ((l : List ℕ) → Low a l → Low b (l ++ w)) → ((h : List ℕ) → High b h → High a (w ++ h)) → X.is_end x ≡ false → X.is_refused x ≡ false
        → listing lists ps ≡ lists (showed x (now b)) → ((rs : List (ReplyOf S R)) → ToEnd rs → ToEnd (ps ++ rs))
        → Does o X (lo ++ (w ++ hi1)) rest (now a) x (now b)
        → ((l hi2 rest : List ℕ) → Low a l → High b hi2 → Runs o X (wld (l ++ (w ++ hi2)) rest (back a)) (replicate (length ps) steps) ps
        (wld (l ++ (w ++ hi2)) rest (back b)))
        → Spared o X false (wld (lo ++ (w ++ hi1)) rest (now a)) (steps ∷ es) → From (steps ∷ es) a lo (w ++ hi1) rest
    on_goes es ih a b lo w hi1 rest x ps f q fl fh i nr sl te d ru p =
        let n : next o X (wld (lo ++ (w ++ hi1)) rest (now a)) steps ≡ wld (lo ++ (w ++ hi1)) rest (now b) =
        does_next o X (lo ++ (w ++ hi1)) rest (now a) (now b) x d in
        let y : reply o X (wld (lo ++ (w ++ hi1)) rest (now a)) steps ≡ showed x (now b) = does_reply o X (lo ++ (w ++ hi1)) rest (now a) (now b) x d in
        let s : Spared o X false (wld (lo ++ (w ++ hi1)) rest (now b)) es =
        spared_move es (wld (lo ++ (w ++ hi1)) rest (now a)) (wld (lo ++ (w ++ hi1)) rest (now b)) x (now b) y n i p in
        rw (
          sorted_move es (wld (lo ++ (w ++ hi1)) rest (now a)) (wld (lo ++ (w ++ hi1)) rest (now b)) x (now b) y n i,
          final_cons steps es (wld (lo ++ (w ++ hi1)) rest (now a)) (wld (lo ++ (w ++ hi1)) rest (now b)) n,
        )
        (main_goes w nr fl fh sl te ru (rw (append_assoc lo w hi1) at (ih b (lo ++ w) hi1 rest (fl lo f) q (rw (append_assoc lo w hi1) s))))

    on_move : (es : List Event) → Holds es → (a : Sit) (lo hi rest : List ℕ) → Low a lo → High a hi → MoveIn a hi
        → Spared o X false (wld (lo ++ hi) rest (now a)) (steps ∷ es) → From (steps ∷ es) a lo hi rest
    on_move es ih a lo hi rest f q (stands x e i nr z t d) p = rw e (on_stands es a lo rest x f (rw e at q) i nr z t d)
    on_move es ih a lo hi rest f q (goes w hi1 b x ps e v h fl fh i nr sl te d ru) p =
        rw e (on_goes es ih a b lo w hi1 rest x ps f h fl fh i nr sl te (d lo rest f) ru (rw e at p))

    by_mark : (x : Call) (es : List Event) → Holds es → (a : Sit) (lo hi rest : List ℕ) → Low a lo → High a hi
        → Spared o X false (wld (lo ++ hi) rest (now a)) (calls x ∷ es) → (k : Mark) → X.marks (now a) x ≡ k → From (calls x ∷ es) a lo hi rest
    unfolding Spared spared
    by_mark x es ih a lo hi rest f q p early k = on_early x es ih a lo hi rest f q k (Y.early_law x a lo hi rest f q k) p
    by_mark x es ih a lo hi rest f q p late k = on_late x es ih a lo hi rest f q k (Y.late_law x a lo hi rest f q k p.0) p
    by_mark x es ih a lo hi rest f q p during k = absurd (Y.never_during x a k)

    pub main : (es : List Event) → Holds es
    unfolding final
    main [] a lo hi rest f q p = main_done (wld (lo ++ hi) rest (now a)) a lo hi rest q refl
    main (calls x ∷ es) a lo hi rest f q p = by_mark x es (main es) a lo hi rest f q p (X.marks (now a) x) refl
    main (steps ∷ es) a lo hi rest f q p = on_move es (main es) a lo hi rest f q (Y.move_law a hi q) p

    -- from a start at which nothing is below the cut
    pub same_from : (a : Sit) (l rest : List ℕ) (es : List Event) → now a ≡ back a → Low a [] → High a l → Spared o X false (wld l rest (now a)) es
        → Same o X lists ToEnd (wld l rest (now a)) es
    unfolding reordered
    same_from a l rest es e f q p =
        let m : From es a [] l rest = main es a [] l rest f q p in
        let rr : Runs o X (wld m.high m.left (now a)) (replicate (length m.whole) steps) m.whole (wld m.high m.left m.last) =
        rw e (m.read_run [] f) in
        let runs = joined o X (m.early_run [] (now a) f) (joined o X rr m.late_run) in
        record {
          whole = m.whole;
          more = m.more;
          to_end = m.to_end_lem;
          none_refused = m.none_refused_lem;
          same_list = m.same_list_lem;
          none_more = m.none_more_lem;
          same_replies = runs_replies o X runs;
          same_book = ap (λ (w : WorldOf R). w.book) (runs_final o X runs) ∙ m.is_end_lem;
        }
