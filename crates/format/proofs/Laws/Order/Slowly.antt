-- Demand 3 for the reading in three moves: what Induction asks of a kind of reading, shown of this one.
use Rattle.std.specs.Prelude.{◌≡◌, true, false, take, drop}
use Rattle.std.proofs.Math.Path.{refl, sym, ap, subst}
use Rattle.std.proofs.Common.{◌∙◌, arith, take-append-drop, length-take-le}
use mathlib.Core.List.{List, [], ◌∷◌, ◌++◌, append_assoc, append-nil}
use Prim.Native.Nat.{ℕ, zero, suc, pred, ◌+◌, ◌≤◌}
use Rattle.std.proofs.Math.Nat.{add-zero}
use Rattle.std.proofs.Math.ListN.{length, length-append}
use Rattle.format.specs.Figures.{used_limit, size_bytes}
use Rattle.format.proofs.Laws.Cases.{by_test}
use Rattle.format.specs.Register.{Names}
use Rattle.format.specs.Records.{Item, padding, deleted, got, element, Origin, at_header, item}
use Rattle.format.specs.Reading.{walk, Reading, fresh, no_report, shown, end, declared_by}
use Rattle.format.specs.Calls.{Book, parts, parted, book_of, sound}
use Rattle.format.specs.Moves.{nothing, Slow, slow, Told, tells, holds, moved_to, move}
use Rattle.format.specs.Series.{is_end, is_refused, Reads}
use Rattle.format.specs.Interleaving.{Event, steps, ReplyOf, showed, listing}
use Rattle.format.specs.SlowSeries.{passed_to, is_end_told, is_refused_told, slowly, lines_of, lives, MovesToEnd, SlowPremise, SameInBothSlow}
use Rattle.format.specs.Integers.{value, read_integer}
use Rattle.format.proofs.Laws.Integers.{read_exact, read_positive}
use Rattle.format.proofs.Laws.Order.Items.{Sizes, judged, Piece, First, first, walk_first, Form, form, size_form, item_element, item_header, item_piece, item_exact}
use Rattle.format.proofs.Laws.Order.Standing.{Stands}
use Rattle.format.proofs.Laws.Order.Wiping.{size_of, Quiet, quiet_piece}
use Rattle.format.proofs.Laws.Order.Frames.{Sees, Fits, Good, moved_reading, moved_sees, never_during}
use Rattle.format.proofs.Laws.Order.Middle.{Whole, Front, front, front_of, whole_item, whole_piece, same}
use Rattle.format.proofs.Laws.Order.Halves.{Half, intact}
use Rattle.format.proofs.Laws.Order.Moving.{move_does, end_move, header_move, ahead, padding_move, size_move_lem, deleted_move, Taken, taking, type_move_lem, data_move_lem, showing, Finds, zero_type, live_type, finds}
use Rattle.format.proofs.Laws.Order.Induction.{wld, Runs, nil, run_move, Does, MoveIn, stands, goes, Laws, same_from, sound_parts}
use Rattle.format.proofs.Laws.Order.Runs.{fits_more, longer, good_more, at_start, unsound}
use Rattle.format.proofs.Laws.Order.Quietly.{RunOver, run_quiet, run_to, half_held, ahead_sees, padding_piece}
use Rattle.format.proofs.Laws.Order.Situations.{taken_held, ap_good, Sit, at_idle, at_size, at_type, now_at, back_at, LowType, low_type, HighSize, high_size, LowAt, HighAt, weight_at, size_good, low_fits, small_in, late_in, early_in}

module _ (o : Origin) (begin : Stands [] o.names) where
  -- the moves that take size and type
  abbrev two_replies : (r : Reading) (g g1 : Names) (a b : List ℕ) (i : Item) → Taken o begin g r.position a b i g1 → List (ReplyOf Told Slow)
  two_replies r g g1 a b i t =
      showed (holds (half_held o begin r a b)) (slow r (half_held o begin r a b)) ∷ showed (holds (taking o begin r g g1 a b i t))
      (taken_held o begin r g g1 a b i t) ∷ []

  run_two : (r : Reading) (g g1 : Names) (a b : List ℕ) (i : Item) → Sees r r.position g → Whole o g r.position a b i g1
      → (t : Taken o begin g r.position a b i g1) → (lo hi rest : List ℕ) → Fits o begin lo g → length lo ≡ r.position
      → length (lo ++ ((a ++ b) ++ hi)) ≤ used_limit
      → Runs o (slowly o) (wld (lo ++ ((a ++ b) ++ hi)) rest (slow r nothing)) (steps ∷ steps ∷ []) (two_replies r g g1 a b i t)
      (wld (lo ++ ((a ++ b) ++ hi)) rest (taken_held o begin r g g1 a b i t))
  run_two r g g1 a b i s w t lo hi rest f l n =
      run_move o (slowly o) (lo ++ ((a ++ b) ++ hi)) rest
      (move_does o begin (lo ++ ((a ++ b) ++ hi)) rest (slow r nothing) (slow r (half_held o begin r a b)) (holds (half_held o begin r a b)) n
      (size_move_lem o begin r g g1 a b i s w lo hi f l))
      (run_move o (slowly o) (lo ++ ((a ++ b) ++ hi)) rest
      (move_does o begin (lo ++ ((a ++ b) ++ hi)) rest (slow r (half_held o begin r a b)) (taken_held o begin r g g1 a b i t)
      (holds (taking o begin r g g1 a b i t)) n (type_move_lem o begin r g g1 a b i s w t lo hi f l))
      nil)

  whole_of : (g g1 : Names) (p n : ℕ) (a b : List ℕ) (i : Item) (xs ys : List ℕ) (x : ℕ) → at_header o p ≡ false → suc x ∷ xs ≡ a ++ (b ++ ys)
      → Sizes a b → judged g p a b ≡ got i n g1 → n ≡ pred (length a + length b) → Whole o g p a b i g1
  whole_of g g1 p n a b i xs ys x h e m j z =
      record {
        past = h;
        sized = size_of a (length b) (rw append-nil at (m []));
        some = first_byte a e (rw append-nil at (m []));
        judges = j
            ∙ ap (λ (k : ℕ). got i k g1) z;
      }
    where
      first_byte : (c : List ℕ) → suc x ∷ xs ≡ c ++ (b ++ ys) → read_integer size_bytes c ≡ value (length b) (length c) → 1 ≤ length b
      first_byte [] d q = absurd (omega (arith, (read_exact size_bytes [] (length b) 0 q).some, (read_exact size_bytes [] (length b) 0 q).inside))
      first_byte (y ∷ c) d q =
          let u : suc x ≡ y = cc in
          read_positive size_bytes x c (length b) (suc (length c)) (rw (← u) at q)

  -- ---- moves
  abbrev Move : Sit o begin → List ℕ → Type 0
  Move a hi = MoveIn o (slowly o) lives MovesToEnd (now_at o begin) (back_at o begin) (LowAt o begin) (HighAt o begin) (weight_at o begin) a hi

  move_end : (r : Reading) (g : Names) (s : Sees r r.position g) → Good o begin g r.position [] → Move (at_idle r g s) []
  unfolding now_at back_at LowAt is_end_told is_refused_told is_end is_refused MovesToEnd
  move_end r g s q =
      let b : r.position ≤ used_limit = rw add-zero at q.small in
      stands (tells (end r.position)) refl refl refl refl refl
      (λ lo rest f. move_does o begin (lo ++ []) rest (slow r nothing) (slow r nothing) (tells (end r.position)) (rw (append-nil, f.1) b)
      (end_move o begin r g lo s f.0 f.1 (rw add-zero at q.ends)))

  -- an item that one move passes over
  move_once : (r r1 : Reading) (g g1 : Names) (s : Sees r r.position g) (s1 : Sees r1 r1.position g1) (w hi1 : List ℕ) (i : Item) → 1 ≤ length w
      → r1.position ≡ r.position + length w → Piece o g r.position w g1 → Good o begin g1 (r.position + length w) hi1
      → ((lo hi : List ℕ) → Fits o begin lo g → length lo ≡ r.position
      → move o (lo ++ (w ++ hi)) (slow r nothing) ≡ moved_to (showing o begin r i) (slow r1 nothing)) → Move (at_idle r g s) (w ++ hi1)
  unfolding now_at back_at LowAt HighAt weight_at is_end_told is_refused_told is_end is_refused listing MovesToEnd
  move_once r r1 g g1 s s1 w hi1 i some e pc q d =
      let does : (lo hi rest : List ℕ) → Fits o begin lo g → length lo ≡ r.position → Good o begin g1 (r.position + length w) hi
      → Does o (slowly o) (lo ++ (w ++ hi)) rest (slow r nothing) (showing o begin r i) (slow r1 nothing) =
      λ lo hi rest f l z. move_does o begin (lo ++ (w ++ hi)) rest (slow r nothing) (slow r1 nothing) (showing o begin r i)
      (rw (length-append, l) (good_more o begin g g1 r.position w hi pc z).small) (d lo hi f l) in
      goes w hi1 (at_idle r1 g1 s1) (showing o begin r i) (showed (showing o begin r i) (slow r1 nothing) ∷ []) refl
      (omega (arith, length-append w hi1)) (ap_good o begin g1 hi1 (sym e) q)
      (λ l f. (fits_more o begin l w g g1 r.position f.0 f.1 pc, longer o begin l w r.position f.1 ∙ sym e))
      (λ h z. good_more o begin g g1 r.position w h pc (ap_good o begin g1 h e z))
      refl refl
      (append-nil (lives (showed (showing o begin r i) (slow r1 nothing))))
      (λ rs z. z)
      (λ lo rest f. does lo hi1 rest f.0 f.1 q)
      (λ lo hi2 rest f z. run_move o (slowly o) (lo ++ (w ++ hi2)) rest (does lo hi2 rest f.0 f.1 (ap_good o begin g1 hi2 e z)) nil)

  -- the size of a record
  move_size : (r : Reading) (g g1 : Names) (s : Sees r r.position g) (a b ys : List ℕ) (i : Item) → Whole o g r.position a b i g1 → Front a
      → Good o begin g1 (r.position + (length a + length b)) ys → Move (at_idle r g s) ((a ++ b) ++ ys)
  unfolding now_at back_at LowAt HighAt weight_at is_end_told is_refused_told is_end is_refused listing lives lines_of
  move_size r g g1 s a b ys i w (front x c e k4) q =
      let hs : HighSize o begin r g (length a) (length a + length b) ((a ++ b) ++ ys) =
      high_size (a ++ b) ys g1 refl (intact a b i refl refl (length-append a b) w) q in
      goes [] ((a ++ b) ++ ys) (at_size r g s (length a) (length a + length b) k4) (holds (half_held o begin r a b)) [] refl (omega arith) hs
      (λ l f. rw append-nil f)
      (λ h z. size_good o begin r g (length a) (length a + length b) h z)
      refl refl refl
      (λ rs z. z)
      (λ lo rest f. move_does o begin (lo ++ ((a ++ b) ++ ys)) rest (slow r nothing) (slow r (half_held o begin r a b))
      (holds (half_held o begin r a b)) (rw (length-append, f.1) (size_good o begin r g (length a) (length a + length b) ((a ++ b) ++ ys) hs).small)
      (size_move_lem o begin r g g1 a b i s w lo ys f.0 f.1))
      (λ lo hi2 rest f z. nil)

  good_behind : (g g1 : Names) (p : ℕ) (w hi1 : List ℕ) → Piece o g p w g1 → Good o begin g p (w ++ hi1) → Good o begin g1 (p + length w) hi1
  good_behind g g1 p w hi1 pc q =
      let e : p + length (w ++ hi1) ≡ p + length w + length hi1 = rw length-append (omega arith) in
      record { names = q.names; walks = sym (pc hi1) ∙ q.walks; ends = rw e at q.ends; small = rw e at q.small }

  move_form : (r : Reading) (g g1 : Names) (s : Sees r r.position g) (x n : ℕ) (xs : List ℕ) (i : Item) → at_header o r.position ≡ false
      → Good o begin g r.position (suc x ∷ xs) → Form g r.position (suc x ∷ xs) i n g1 → Move (at_idle r g s) (suc x ∷ xs)
  move_form r g g1 s x n xs i h q (form a b ys e m j z) =
      let w : Whole o g r.position a b i g1 = whole_of g g1 r.position n a b i xs ys x h e m j z in
      let y : suc x ∷ xs ≡ (a ++ b) ++ ys = e ∙ sym (append_assoc a b ys) in
      let gb : Good o begin g1 (r.position + length (a ++ b)) ys =
      good_behind g g1 r.position (a ++ b) ys (whole_piece o g g1 r.position a b i w) (rw y at q) in
      rw y (move_size r g g1 s a b ys i w (front_of a b w.some w.sized) (ap_good o begin g1 ys (ap (λ (k : ℕ). r.position + k) (length-append a b)) gb))

  move_padding : (r : Reading) (g : Names) (s : Sees r r.position g) (xs : List ℕ) → at_header o r.position ≡ false
      → Good o begin g r.position (0 ∷ xs) → Move (at_idle r g s) (0 ∷ xs)
  unfolding declared_by
  move_padding r g s xs h q =
      move_once r (ahead o begin r 1) g g s (ahead_sees o begin r g 1 s) (0 ∷ []) xs (padding r.position) (omega arith) refl
      (padding_piece o begin g r.position h) (good_behind g g r.position (0 ∷ []) xs (padding_piece o begin g r.position h) q)
      (λ lo hi f l. padding_move o begin r g lo hi s f l h)

  move_element : (r : Reading) (g g1 : Names) (s : Sees r r.position g) (x n : ℕ) (xs : List ℕ) (i : Item) → at_header o r.position ≡ false
      → Good o begin g r.position (x ∷ xs) → element g r.position x xs ≡ got i n g1 → Move (at_idle r g s) (x ∷ xs)
  unfolding element
  move_element r g g1 s zero n xs i h q e = move_padding r g s xs h q
  move_element r g g1 s (suc x) n xs i h q e = move_form r g g1 s x n xs i h q (size_form g g1 r.position n (suc x ∷ xs) i e)

  move_header : (r : Reading) (g g1 : Names) (s : Sees r r.position g) (x n : ℕ) (xs : List ℕ) (i : Item) → at_header o r.position ≡ true
      → Good o begin g r.position (x ∷ xs) → item o g r.position x xs ≡ got i n g1 → Move (at_idle r g s) (x ∷ xs)
  move_header r g g1 s x n xs i h q e =
      let k : length (take n xs) ≡ n = length-take-le n xs (item_exact o g g1 r.position x n xs i e).inside in
      let y : x ∷ xs ≡ (x ∷ take n xs) ++ drop n xs = rw take-append-drop in
      let pc = item_piece o g g1 r.position x n xs i e in
      rw y
      (move_once r (moved_reading o begin r i n) g g1 s (moved_sees o begin r r.position g g1 x n xs i s e) (x ∷ take n xs) (drop n xs) i
      (omega arith) (rw k) pc (good_behind g g1 r.position (x ∷ take n xs) (drop n xs) pc (rw y at q))
      (λ lo hi f l. header_move o begin r g g1 x n lo (take n xs ++ hi) i s f l h
      (sym (item_header o g r.position x (take n xs ++ hi) h) ∙ (item_exact o g g1 r.position x n xs i e).exact hi)))

  move_first : (r : Reading) (g : Names) (s : Sees r r.position g) (x : ℕ) (xs : List ℕ) (h : Names) → Good o begin g r.position (x ∷ xs)
      → First o g r.position x xs h → Move (at_idle r g s) (x ∷ xs)
  move_first r g s x xs h q (first i n g1 e f) =
      by_test (at_header o r.position)
      (λ k. move_header r g g1 s x n xs i k q e)
      (λ k. move_element r g g1 s x n xs i k q (sym (item_element o g r.position x xs k) ∙ e))

  move_idle : (r : Reading) (g : Names) (s : Sees r r.position g) (hi : List ℕ) → Good o begin g r.position hi → Move (at_idle r g s) hi
  move_idle r g s [] q = move_end r g s q
  move_idle r g s (x ∷ xs) q = move_first r g s x xs q.names q (walk_first o g q.names r.position x xs q.walks)

  -- the type: of a deleted record, or of what wipes have left
  move_gone : (r : Reading) (g : Names) (s : Sees r r.position g) (a b1 hi1 : List ℕ) (k4 : length a ≤ size_bytes) → 1 ≤ length a
      → Quiet (a ++ (0 ∷ b1)) → at_header o r.position ≡ false → Half o begin g r.position (length a) (length a + suc (length b1)) g (a ++ (0 ∷ b1))
      → Good o begin g (r.position + (length a + suc (length b1))) hi1
      → Move (at_size r g s (length a) (length a + suc (length b1)) k4) ((a ++ (0 ∷ b1)) ++ hi1)
  unfolding now_at back_at LowAt HighAt weight_at is_end_told is_refused_told is_end is_refused lives lines_of
  move_gone r g s a b1 hi1 k4 k1 z h hf q =
      let w : List ℕ = a ++ (0 ∷ b1) in
      let n : ℕ = length a + suc (length b1) in
      let lw : length w ≡ n = length-append a (0 ∷ b1) in
      let pc = quiet_piece o g r.position w h z in
      let e : r.position + length w ≡ r.position + n = ap (λ (m : ℕ). r.position + m) lw in
      let ro : RunOver o begin r g w (ahead o begin r n) =
      run_to o begin r (ahead o begin r n) g w (ap (λ (m : ℕ). ahead o begin r m) lw) (run_quiet o begin w z r g s h) in
      let d : Told = tells (shown (deleted r.position (length a) (suc (length b1))) no_report) in
      goes w hi1 (at_idle (ahead o begin r n) g (ahead_sees o begin r g n s)) d ro.ps refl (omega (arith, length-append w hi1)) q
      (λ l f. (fits_more o begin l w g g r.position f.0 f.1 pc, longer o begin l w r.position f.1 ∙ e))
      (λ t y. high_size w t g refl hf y)
      refl refl
      ro.lists
      ro.onward
      (λ lo rest f. move_does o begin (lo ++ (w ++ hi1)) rest (slow r (half_held o begin r a (0 ∷ b1))) (slow (ahead o begin r n) nothing) d
      (rw (length-append, f.1) (good_more o begin g g r.position w hi1 pc (ap_good o begin g hi1 (sym e) q)).small)
      (deleted_move o begin r g a b1 s h k1 k4 lo hi1 f.0 f.1))
      (λ lo hi2 rest f y. ro.runs lo hi2 rest f.0 f.1
      (rw (length-append, f.1) (good_more o begin g g r.position w hi2 pc (ap_good o begin g hi2 (sym e) y)).small))

  front_some : (a : List ℕ) → Front a → 1 ≤ length a
  front_some a (front x c e n) = rw e (omega arith)

  -- the type of a live entry: from here on it is passed
  move_live : (r : Reading) (g g1 : Names) (s : Sees r r.position g) (a b hi1 : List ℕ) (i : Item) (k4 : length a ≤ size_bytes)
      → Whole o g r.position a b i g1 → Taken o begin g r.position a b i g1
      → Good o begin g1 (r.position + (length a + length b)) hi1 → Move (at_size r g s (length a) (length a + length b) k4) ((a ++ b) ++ hi1)
  unfolding now_at back_at LowAt HighAt weight_at is_end_told is_refused_told is_end is_refused listing lives lines_of MovesToEnd
  move_live r g g1 s a b hi1 i k4 h t q =
      let w : List ℕ = a ++ b in
      let e : r.position + length w ≡ r.position + (length a + length b) = ap (λ (m : ℕ). r.position + m) (length-append a b) in
      let pc = whole_piece o g g1 r.position a b i h in
      goes w hi1 (at_type r g g1 s a b i h t) (holds (taking o begin r g g1 a b i t)) (two_replies r g g1 a b i t) refl
      (omega (arith, length-append w hi1, length-append a b, h.some, front_some a (front_of a b h.some h.sized))) q
      (λ l f. low_type l w refl f.0 f.1 (same refl))
      (λ u y. high_size w u g1 refl (intact a b i refl refl (length-append a b) h) y)
      refl refl refl
      (λ rs y. y)
      (λ lo rest f. move_does o begin (lo ++ (w ++ hi1)) rest (slow r (half_held o begin r a b)) (taken_held o begin r g g1 a b i t)
      (holds (taking o begin r g g1 a b i t))
      (rw (length-append, f.1) (good_more o begin g g1 r.position w hi1 pc (ap_good o begin g1 hi1 (sym e) q)).small)
      (type_move_lem o begin r g g1 a b i s h t lo hi1 f.0 f.1))
      (λ lo hi2 rest f y. run_two r g g1 a b i s h t lo hi2 rest f.0 f.1
      (rw (length-append, f.1) (good_more o begin g g1 r.position w hi2 pc (ap_good o begin g1 hi2 (sym e) y)).small))

  found_gone : (r : Reading) (g g1 : Names) (s : Sees r r.position g) (k n : ℕ) (w hi1 a b1 : List ℕ) → k ≡ length a
      → n ≡ length a + suc (length b1) → w ≡ a ++ (0 ∷ b1) → g1 ≡ g → 1 ≤ k → at_header o r.position ≡ false → Quiet w
      → Half o begin g r.position k n g1 w → Good o begin g1 (r.position + n) hi1 → (k4 : k ≤ size_bytes) → Move (at_size r g s k n k4) (w ++ hi1)
  found_gone r g g1 s k n w hi1 a b1 ek en ew eg k1 h z hf q =
      let z1 : Quiet (a ++ (0 ∷ b1)) = rw ew at z in
      let h1 : Half o begin g r.position (length a) (length a + suc (length b1)) g (a ++ (0 ∷ b1)) = rw (ek, en, ew, eg) at hf in
      let q1 : Good o begin g (r.position + (length a + suc (length b1))) hi1 = rw (en, eg) at q in
      let l1 : 1 ≤ length a = rw ek at k1 in
      rw (ek, en, ew) (λ k4. move_gone r g s a b1 hi1 k4 l1 z1 h h1 q1)

  found_live : (r : Reading) (g g1 : Names) (s : Sees r r.position g) (k n : ℕ) (w hi1 a b : List ℕ) (i : Item) → k ≡ length a
      → n ≡ length a + length b → w ≡ a ++ b → Whole o g r.position a b i g1 → Taken o begin g r.position a b i g1
      → Good o begin g1 (r.position + n) hi1 → (k4 : k ≤ size_bytes) → Move (at_size r g s k n k4) (w ++ hi1)
  found_live r g g1 s k n w hi1 a b i ek en ew h t q =
      let q1 : Good o begin g1 (r.position + (length a + length b)) hi1 = rw en at q in
      rw (ek, en, ew) (λ k4. move_live r g g1 s a b hi1 i k4 h t q1)

  move_found : (r : Reading) (g g1 : Names) (s : Sees r r.position g) (k n : ℕ) (k4 : k ≤ size_bytes) (w hi1 : List ℕ)
      → Half o begin g r.position k n g1 w → Good o begin g1 (r.position + n) hi1 → Finds o begin g r.position k n g1 w
      → Move (at_size r g s k n k4) (w ++ hi1)
  move_found r g g1 s k n k4 w hi1 hf q (zero_type a b1 e la lw z h k1 k5 eg) =
      found_gone r g g1 s k n w hi1 a b1 (sym la) (sym lw ∙ ap length e ∙ length-append a (0 ∷ b1)) e eg k1 h z hf q k4
  move_found r g g1 s k n k4 w hi1 hf q (live_type a b i e la lw h t) =
      found_live r g g1 s k n w hi1 a b i (sym la) (sym lw ∙ ap length e ∙ length-append a b) e h t q k4

  move_sized : (r : Reading) (g : Names) (s : Sees r r.position g) (k n : ℕ) (k4 : k ≤ size_bytes) (hi : List ℕ) → HighSize o begin r g k n hi
      → Move (at_size r g s k n k4) hi
  move_sized r g s k n k4 hi (high_size w hi1 g1 e h q) = rw e (move_found r g g1 s k n k4 w hi1 h q (finds o begin g g1 r.position k n w k4 h))

  -- the data
  whole_sees : (r : Reading) (g g1 : Names) (a b : List ℕ) (i : Item) → Sees r r.position g → Whole o g r.position a b i g1 → Front a
      → Sees (moved_reading o begin r i (pred (length a + length b))) (r.position + suc (pred (length a + length b))) g1
  whole_sees r g g1 a b i s h (front x c e n) =
      let y : pred (length a + length b) ≡ length c + length b = rw e (omega arith) in
      rw y (moved_sees o begin r r.position g g1 (suc x) (length c + length b) (c ++ (b ++ [])) i s (whole_item o g g1 r.position x c b i (rw e at h) []))

  module _ (r : Reading) (g g1 : Names) (s : Sees r r.position g) (a b : List ℕ) (i : Item) (h : Whole o g r.position a b i g1)
      (t : Taken o begin g r.position a b i g1) where
    abbrev onto : Reading
    onto = moved_reading o begin r i (pred (length a + length b))

    onto_sees : Sees onto onto.position g1
    onto_sees = whole_sees r g g1 a b i s h (front_of a b h.some h.sized)

    onto_place : onto.position ≡ r.position + (length a + length b)
    onto_place = let x = h.some in ap (λ (m : ℕ). r.position + m) (omega arith)

    data_does : (lo hi rest : List ℕ) → LowType o begin r g a b i lo → length (lo ++ hi) ≤ used_limit
        → Does o (slowly o) (lo ++ hi) rest (taken_held o begin r g g1 a b i t) (showing o begin r i) (slow onto nothing)
    data_does lo hi rest (low_type l0 w e f k c) n =
        let y : lo ++ hi ≡ l0 ++ (w ++ hi) = rw e (append_assoc l0 w hi) in
        rw y (move_does o begin (l0 ++ (w ++ hi)) rest (taken_held o begin r g g1 a b i t) (slow onto nothing) (showing o begin r i) (rw y at n)
        (data_move_lem o begin r g g1 a b i s h t l0 w hi f k c))

    type_small : (lo hi : List ℕ) → LowType o begin r g a b i lo → Good o begin g1 (r.position + (length a + length b)) hi → length (lo ++ hi) ≤ used_limit
    type_small lo hi f q = rw (length-append, (low_fits o begin r g g1 a b i lo h f).1) q.small

    abbrev data_reply : ReplyOf Told Slow
    data_reply = showed (showing o begin r i) (slow onto nothing)

    onto_low : (l : List ℕ) → LowType o begin r g a b i l → Fits o begin l g1 × (length l ≡ onto.position)
    onto_low l f = let x = low_fits o begin r g g1 a b i l h f in (x.0, x.1 ∙ sym onto_place)

    move_typed : (hi : List ℕ) → Good o begin g1 (r.position + (length a + length b)) hi → Move (at_type r g g1 s a b i h t) hi
    unfolding now_at back_at LowAt HighAt weight_at is_end_told is_refused_told is_end is_refused listing MovesToEnd
    move_typed hi q =
        goes [] hi (at_idle onto g1 onto_sees) (showing o begin r i) (data_reply ∷ []) refl (omega arith) (ap_good o begin g1 hi (sym onto_place) q)
        (λ l f. rw append-nil (onto_low l f))
        (λ u y. ap_good o begin g1 u onto_place y)
        refl refl
        (append-nil (lives data_reply))
        (λ rs y. y)
        (λ lo rest f. data_does lo hi rest f (type_small lo hi f q))
        (λ lo hi2 rest f y. run_move o (slowly o) (lo ++ hi2) rest (data_does lo hi2 rest f (type_small lo hi2 f (ap_good o begin g1 hi2 onto_place y))) nil)

  move_in : (a : Sit o begin) (hi : List ℕ) → HighAt o begin a hi → Move a hi
  unfolding HighAt
  move_in (at_idle r g s) hi q = move_idle r g s hi q
  move_in (at_size r g s k n k4) hi q = move_sized r g s k n k4 hi q
  move_in (at_type r g g1 s a b i w t) hi q = move_typed r g g1 s a b i w t hi q

  slow_laws : Laws o (slowly o) lives MovesToEnd (now_at o begin) (back_at o begin) (LowAt o begin) (HighAt o begin) (weight_at o begin)
  slow_laws =
      record {
        small = small_in o begin;
        late_law = late_in o begin;
        early_law = early_in o begin;
        never_during = λ c a k. never_during o begin c (passed_to (now_at o begin a).held (now_at o begin a).reading.position) k;
        move_law = move_in;
      }

  -- ---- demand 3
  module _ (start : Sees fresh 0 o.names) where
    slow_parts : (l rest : List ℕ) → length l ≤ used_limit → Reads o (book_of (parts l rest)) → (es : List Event)
        → SlowPremise o (book_of (parts l rest)) es → SameInBothSlow o (book_of (parts l rest)) es
    unfolding walk now_at back_at LowAt HighAt
    slow_parts l rest b r es y =
        same_from o (slowly o) lives MovesToEnd (now_at o begin) (back_at o begin) (LowAt o begin) (HighAt o begin) (weight_at o begin) slow_laws
        (at_idle fresh o.names start) l rest es refl (refl, refl) (at_start o begin start l rest b r) y

    pub slow_same_in_both : (b : Book) → Reads o b → (es : List Event) → SlowPremise o b es → SameInBothSlow o b es
    unfolding parted
    slow_same_in_both b r es =
        by_test (sound b)
        (λ q. let p = sound_parts o b q in
        subst (λ (c : Book). Reads o c → SlowPremise o c es → SameInBothSlow o c es) (sym p.0)
        (λ d y. slow_parts (take b.used b.buffer) (drop b.used b.buffer) p.1 d es y) r)
        (λ q. absurd (unsound o begin start b r.list q r.is_to_end r.read))
