-- Each move is refused by the first of its rules that is due, and then changes nothing; what a fitting reading in three moves is.
use Rattle.std.specs.Prelude.{◌≡◌, Bool, ◌&&◌, cond, ◌↔◌, length, drop, leb, ltb}
use Rattle.std.proofs.Math.Path.{refl, sym, ap}
use Rattle.std.proofs.Common.{◌∙◌, arith, add-zero}
use Rattle.std.proofs.Math.Bool.{true, false, not}
use mathlib.Core.List.{List, [], ◌∷◌}
use Rattle.std.proofs.Math.Option.{Option, none, some, map}
use Prim.Native.Nat.{ℕ, zero, suc, pred, ◌+◌, ◌-◌}
use borrow.Author.Tests.{eqb-true, ne_eqb, le-leb, leb-true, lt-ltb, ltb-true, le-ltb, not-true}
use Rattle.std.proofs.Math.Dec.{eqb}
use Rattle.format.specs.Bytes.{part_of}
use Rattle.format.specs.Figures.{size_bytes, number_bytes}
use Rattle.format.proofs.Laws.Cases.{by_test, true_false, and_false, and_left, and_right}
use Rattle.format.specs.Integers.{Integer, value, broken, not_over, read_integer}
use Rattle.format.specs.Register.{Named, Names, find, is_held, held_rows, number_of, named_number, named_uri, name_in, uri_of}
use Rattle.format.proofs.Laws.Register.{seen_find, find_below}
use Rattle.format.specs.Records.{Refusal, Got, bad, got, data_part, header_at, Origin, at_header}
use Rattle.format.specs.Reading.{Reading, fits, names_in, moved, at_end}
use Rattle.format.specs.Calls.{Book, used_bytes, sound, parted}
use Rattle.format.specs.Moves.{size_of, type_held, type_of, Held, nothing, sized, typed, held_of, Slow, slow, fit_sized, fit_typed, fit_held, fits_slow, done_with, size_move, type_move, data_move, element_move, first_move, move_at, move, move_on}
use Rattle.format.specs.Refusals.{first_of, InTable, uri_under, size_at, is_incomplete, is_too_long, is_past_size, not_held, data_rules, header_rules, element_rules, FitSize, FitType, FitNumbers, none_held, size_held, type_held as type_kept, FittingSlow, size_rules, type_rules, held_rules, move_rules, refusal_of_got, refusal_of_told}
use Rattle.format.proofs.Laws.Denials.Integers.{ByTests, leading, long, short, over, read_tests}
use Rattle.format.proofs.Laws.Denials.Items.{first_on, first_here, none_some, over_not, positive, data_refusal, header_refusal, Numbered, first_numbered, numbered, numbered_none, element_numbered}
use Rattle.format.proofs.Laws.Denials.Fits.{both, fits_mean}
use Rattle.format.proofs.Laws.Denials.Answers.{over_sound, used_length, not_over_lem, moved_refusal, moved_keeps}

-- ---- what fits holds its type under the names that its rows stand for, and not under 0
held_some : {R : Type 0} (v : Option R) → is_held v ≡ true → (x : R) × (v ≡ some x)
held_some none e = true_false (sym e)
held_some (some x) e = (x, refl)

pub held_named : (log : List ℕ) (r : Reading) (n : ℕ) → is_held (find number_of n (held_rows r.table)) ≡ true
    → (y : Named) × (find named_number n (names_in log r) ≡ some y)
held_named log r n e =
    let x = held_some (find number_of n (held_rows r.table)) e in
    (name_in log x.0, seen_find log n (held_rows r.table) ∙ ap (map (name_in log)) x.1)

held_under : (r : Reading) (used n : ℕ) (g : Names) (y : Named) → fits r used ≡ true → is_held (find number_of n (held_rows r.table)) ≡ true
    → find named_number n g ≡ some y → uri_under n g ≡ some (named_uri y)
unfolding uri_of
held_under r used zero g y f e q =
    let z : find number_of 0 (held_rows r.table) ≡ none = find_below number_of 0 0 (held_rows r.table) (omega arith) ((fits_mean r used).0 f).rising in
    true_false (sym (rw z at e))
held_under r used (suc n) g y f e q = rw q

-- ---- the three moves
module _ (r : Reading) where
  size_told : (l : List ℕ) (v : Integer) → size_at l ≡ v → ByTests size_bytes l v
      → refusal_of_told (size_move (size_of v r.position (length l)) r).answer ≡ first_of (size_rules r.position l)
  unfolding first_of size_rules size_move size_of is_incomplete is_too_long
  size_told l v e (leading t) = rw (e, le-ltb (length l) 0 (omega arith), t, add-zero)
  size_told l v e (long t u) = rw (e, le-ltb (length l) 0 (omega arith), t, u)
  size_told l v e (short t u w) = rw e
  size_told l v e (over s k t u w) =
      by_test (leb (k + s) (length l))
      (λ h. rw (e, over_not (k + s) (length l), h, t, u))
      (λ h. rw (e, over_not (k + s) (length l), h))

  type_told : (g : Names) (t e : ℕ) (b : List ℕ) (v : Integer) → read_integer number_bytes b ≡ v → ByTests number_bytes b v
      → refusal_of_told (type_move (type_of v r.position t (pred e) g) t e g r).answer ≡ first_of (type_rules g r.position t e b)
  unfolding first_of type_rules type_move type_of type_held is_too_long is_past_size not_held uri_of moved
  type_told g t e b v q (leading a) = rw (a, add-zero)
  type_told g t e b v q (long a c) = rw (a, c)
  type_told g t e b v q (short a c d) = rw (a, c, d)
  type_told g t e b v q (over zero j a c d) = rw (a, c, d, q)
  type_told g t e b v q (over (suc m) j a c d) = go (find named_number (suc m) g) refl
    where
      go : (x : Option Named) → find named_number (suc m) g ≡ x
          → refusal_of_told (type_move (type_held x r.position (suc m) j) t e g r).answer ≡ first_of (type_rules g r.position t e b)
      go none x = rw (a, c, d, q, positive m, x)
      go (some y) x = rw (a, c, d, q, positive m, x)

  done_refusal : (v : Got) (h : Held) → refusal_of_told (done_with v (slow r h)).answer ≡ refusal_of_got v
  unfolding done_with moved
  done_refusal (bad x) h = refl
  done_refusal (got i n g) h = refl

  data_told : (g : Names) (t e n q : ℕ) (w d : List ℕ) (v : Option Named) (y : Named) (u : Option (List ℕ)) → v ≡ some y → u ≡ some (named_uri y)
      → refusal_of_told (data_move v t e n q w d g r).answer ≡ first_of (data_rules g r.position u w d)
  unfolding data_move
  data_told g t e n q w d v y u a c =
      rw (a, c)
      (done_refusal (data_part y r.position t q w d (pred (e - r.position)) g) (typed t e n q)
      ∙ data_refusal g r.position w d y t q (pred (e - r.position)))

  done_keeps : (v : Got) (h : Held) (x : Refusal) → refusal_of_told (done_with v (slow r h)).answer ≡ some x → (done_with v (slow r h)).slow ≡ slow r h
  unfolding done_with moved
  done_keeps (bad y) h x e = refl
  done_keeps (got i n g) h x e = none_some e

  -- ---- a refused move hands everything back
  size_keeps : (l : List ℕ) (v : Integer) (x : Refusal)
      → refusal_of_told (size_move (size_of v r.position (length l)) r).answer ≡ some x → (size_move (size_of v r.position (length l)) r).slow ≡ slow r nothing
  unfolding size_move size_of
  size_keeps l not_over x = λ e. refl
  size_keeps l (broken why at) x = λ e. refl
  size_keeps l (value s k) x = by_test (leb (k + s) (length l)) (λ h. rw h (λ e. none_some e)) (λ h. rw h (λ e. refl))

  type_keeps : (g : Names) (t e z : ℕ) (v : Integer) (x : Refusal) → refusal_of_told (type_move (type_of v r.position t z g) t e g r).answer ≡ some x
      → (type_move (type_of v r.position t z g) t e g r).slow ≡ slow r (sized t e)
  unfolding type_move type_of type_held moved
  type_keeps g t e z not_over x q = refl
  type_keeps g t e z (broken why at) x q = refl
  type_keeps g t e z (value zero j) x q = none_some q
  type_keeps g t e z (value (suc m) j) x q = go (find named_number (suc m) g) q
    where
      go : (y : Option Named) → refusal_of_told (type_move (type_held y r.position (suc m) j) t e g r).answer ≡ some x
          → (type_move (type_held y r.position (suc m) j) t e g r).slow ≡ slow r (sized t e)
      go none q = refl
      go (some y) q = none_some q

  data_keeps : (g : Names) (t e n q : ℕ) (w d : List ℕ) (v : Option Named) (x : Refusal) → refusal_of_told (data_move v t e n q w d g r).answer ≡ some x
      → (data_move v t e n q w d g r).slow ≡ slow r (typed t e n q)
  unfolding data_move
  data_keeps g t e n q w d none x k = refl
  data_keeps g t e n q w d (some y) x k = done_keeps (data_part y r.position t q w d (pred (e - r.position)) g) (typed t e n q) x k

  -- ---- nothing held
  first_refusal : (o : Origin) (g : Names) (l : List ℕ)
      → refusal_of_told (first_move o g l r).answer
      ≡ first_of (cond (at_header o r.position) (header_rules l) (element_rules l (size_rules r.position l)))
  unfolding first_move element_move at_end first_of header_rules element_rules moved size_at
  first_refusal o g [] = by_test (at_header o r.position) (λ h. rw h) (λ h. rw h)
  first_refusal o g (zero ∷ xs) =
      by_test (at_header o r.position) (λ h. rw h (moved_refusal (header_at (0 ∷ xs)) r ∙ header_refusal (0 ∷ xs))) (λ h. rw h)
  first_refusal o g (suc x ∷ xs) =
      by_test (at_header o r.position)
      (λ h. rw h (moved_refusal (header_at (suc x ∷ xs)) r ∙ header_refusal (suc x ∷ xs)))
      (λ h. rw h (size_told (suc x ∷ xs) (size_at (suc x ∷ xs)) refl (read_tests size_bytes (suc x ∷ xs) (omega arith))))

  first_keeps : (o : Origin) (g : Names) (l : List ℕ) (x : Refusal) → refusal_of_told (first_move o g l r).answer ≡ some x
      → (first_move o g l r).slow ≡ slow r nothing
  unfolding first_move element_move at_end moved
  first_keeps o g [] x = λ e. refl
  first_keeps o g (zero ∷ xs) x =
      by_test (at_header o r.position)
      (λ h. rw h (λ e. ap (λ (s : Reading). slow s nothing) (moved_keeps (header_at (0 ∷ xs)) r x e)))
      (λ h. rw h (λ e. none_some e))
  first_keeps o g (suc y ∷ xs) x =
      by_test (at_header o r.position)
      (λ h. rw h (λ e. ap (λ (s : Reading). slow s nothing) (moved_keeps (header_at (suc y ∷ xs)) r x e)))
      (λ h. rw h (λ e. size_keeps (suc y ∷ xs) (read_integer size_bytes (suc y ∷ xs)) x e))

-- ---- a move on buffer and used length
module _ (o : Origin) (log : List ℕ) (r : Reading) where
  abbrev g : Names
  g = names_in log r

  held_refusal : (h : Held) → fits_slow o (slow r h) (length log) ≡ true
      → refusal_of_told (move_at o g log r h).answer ≡ first_of (held_rules o g r.position log h)
  unfolding move_at held_rules fits_slow fit_held
  held_refusal nothing f = first_refusal r o g (drop r.position log)
  held_refusal (sized t e) f =
      type_told r g t e (part_of t e log) (read_integer number_bytes (part_of t e log)) refl (read_tests number_bytes (part_of t e log) (omega arith))
  held_refusal (typed t e n q) f =
      let fr : fits r (length log) ≡ true = and_left (fits r (length log)) _ f in
      let fh = and_right (fits r (length log)) _ f in
      let ft : fit_typed r t e n q ≡ true = and_right (fit_sized r.position t e (length log)) _ (and_right (not (at_header o r.position)) _ fh) in
      let hn : is_held (find number_of n (held_rows r.table)) ≡ true = and_left (is_held (find number_of n (held_rows r.table))) _ ft in
      let y = held_named log r n hn in
      data_told r g t e n q (part_of r.position e log) (part_of q e log) (find named_number n g) y.0 (uri_under n g) y.1
      (held_under r (length log) n g y.0 fr hn y.1)

  held_keeps : (h : Held) (x : Refusal) → refusal_of_told (move_at o g log r h).answer ≡ some x → (move_at o g log r h).slow ≡ slow r h
  unfolding move_at
  held_keeps nothing x e = first_keeps r o g (drop r.position log) x e
  held_keeps (sized t u) x e = type_keeps r g t u (pred u) (read_integer number_bytes (part_of t u log)) x e
  held_keeps (typed t u n q) x e = data_keeps r g t u n q (part_of r.position u log) (part_of q u log) (find named_number n g) x e

module _ (o : Origin) (b : Book) (s : Slow) where
  fit_refusal : sound b ≡ true → refusal_of_told (move o (used_bytes b) s).answer ≡ first_of (move_rules o b s)
  unfolding move move_rules
  fit_refusal h =
      by_test (fits_slow o s b.used)
      (λ f. rw (used_length b h, f)
      (held_refusal o (used_bytes b) s.reading s.held (rw (used_length b h) f) ∙ sym (first_on _ _ (not_over_lem b h) ∙ first_on _ _ refl)))
      (λ f. rw (used_length b h, f) (sym (first_on _ _ (not_over_lem b h) ∙ first_here _ _ refl)))

  pub move_refusal : refusal_of_told (move_on o b s).answer ≡ first_of (move_rules o b s)
  unfolding move_on parted move_rules
  move_refusal = by_test (sound b) (λ h. rw h (fit_refusal h)) (λ h. rw h (sym (first_here _ _ (over_sound b ∙ ap not h))))

  fit_keeps : (x : Refusal) → refusal_of_told (move o (used_bytes b) s).answer ≡ some x → (move o (used_bytes b) s).slow ≡ s
  unfolding move
  fit_keeps x =
      by_test (fits_slow o s (length (used_bytes b)))
      (λ f. rw f (λ e. held_keeps o (used_bytes b) s.reading s.held x e))
      (λ f. rw f (λ e. refl))

  -- "Every refusal .. changes nothing."
  pub move_keeps_lem : (x : Refusal) → refusal_of_told (move_on o b s).answer ≡ some x → (move_on o b s).slow ≡ s
  unfolding move_on parted
  move_keeps_lem x = by_test (sound b) (λ h. rw h (fit_keeps x)) (λ h. rw h (λ e. refl))

  held_numbered : (g : Names) (p : ℕ) (l : List ℕ) (h : Held) → Numbered (held_rules o g p l h)
  unfolding held_rules header_rules size_rules type_rules data_rules
  held_numbered g p l nothing =
      by_test (at_header o p)
      (λ h. rw h (numbered 2 0 _ _ refl (numbered 3 0 _ _ refl numbered_none)))
      (λ h. rw h (element_numbered (drop p l) _ (numbered 2 _ _ _ refl (numbered 14 _ _ _ refl (numbered 15 _ _ _ refl numbered_none)))))
  held_numbered g p l (sized t e) =
      numbered 14 _ _ _ refl (numbered 15 _ _ _ refl (numbered 16 _ _ _ refl (numbered 6 _ _ _ refl numbered_none)))
  held_numbered g p l (typed t e n q) = numbered 3 _ _ _ refl (numbered 5 _ _ _ refl (numbered 7 _ _ _ refl numbered_none))

  pub move_numbered : (x : Refusal) → refusal_of_told (move_on o b s).answer ≡ some x → InTable x
  unfolding move_rules
  move_numbered x e =
      first_numbered (move_rules o b s) x
      (numbered 1 0 _ _ refl
      (numbered 13 0 _ _ refl (held_numbered (names_in (used_bytes b) s.reading) s.reading.position (used_bytes b) s.held)))
      (sym move_refusal ∙ e)

-- ---- what is held of a record, by its four numbers
module _ (o : Origin) (r : Reading) (used t e n q : ℕ) where
  size_fit : (not (at_header o r.position) && fit_sized r.position t e used) ≡ true → FitSize o r.position t e used
  size_fit f =
      let f1 = and_right (not (at_header o r.position)) _ f in
      let f2 = and_right (leb (r.position + 1) t) _ f1 in
      let f3 = and_right (leb t (r.position + size_bytes)) _ f2 in
      record {
        not_first = not-true (at_header o r.position) (and_left (not (at_header o r.position)) _ f);
        past = omega (arith, leb-true (r.position + 1) t (and_left (leb (r.position + 1) t) _ f1));
        near = leb-true t (r.position + size_bytes) (and_left (leb t (r.position + size_bytes)) _ f2);
        below = ltb-true t e (and_left (ltb t e) _ f3);
        within = leb-true e used (and_right (ltb t e) _ f3);
      }

  fit_size_lem : FitSize o r.position t e used → (not (at_header o r.position) && fit_sized r.position t e used) ≡ true
  fit_size_lem f =
      let p = f.past in
      rw (
        f.not_first,
        le-leb (r.position + 1) t (omega arith),
        le-leb t (r.position + size_bytes) f.near,
        lt-ltb t e f.below,
        le-leb e used f.within,
      )

  type_fit : fit_typed r t e n q ≡ true → FitType r t e n q
  type_fit f =
      let x = held_some (find number_of n (held_rows r.table)) (and_left (is_held (find number_of n (held_rows r.table))) _ f) in
      let f1 = and_right (is_held (find number_of n (held_rows r.table))) _ f in
      let f2 = and_right (leb (t + 1) q) _ f1 in
      record {
        row = x.0;
        row_held = x.1;
        past = omega (arith, leb-true (t + 1) q (and_left (leb (t + 1) q) _ f1));
        near = leb-true q (t + number_bytes) (and_left (leb q (t + number_bytes)) _ f2);
        inside = leb-true q e (and_right (leb q (t + number_bytes)) _ f2);
      }

  fit_type_lem : FitType r t e n q → fit_typed r t e n q ≡ true
  fit_type_lem f =
      let p = f.past in
      rw (f.row_held, le-leb (t + 1) q (omega arith), le-leb q (t + number_bytes) f.near, le-leb q e f.inside)

  three : (a b c : Bool) → (a && (b && c)) ≡ ((a && b) && c)
  three true b c = refl
  three false b c = refl

  numbers_fit : fit_held o r (held_of t e n q) used ≡ true → FitNumbers o r used t e n q
  unfolding held_of fit_held
  numbers_fit =
      by_test (eqb n 0 && eqb q 0)
      (λ u. by_test (eqb t 0 && eqb e 0)
      (λ v. rw (u, v)
      (λ f. none_held (eqb-true t 0 (and_left (eqb t 0) _ v)) (eqb-true e 0 (and_right (eqb t 0) _ v)) (eqb-true n 0 (and_left (eqb n 0) _ u))
      (eqb-true q 0 (and_right (eqb n 0) _ u))))
      (λ v. rw (u, v) (λ f. size_held (size_fit f) (eqb-true n 0 (and_left (eqb n 0) _ u)) (eqb-true q 0 (and_right (eqb n 0) _ u)))))
      (λ u. rw (u, three (not (at_header o r.position)) (fit_sized r.position t e used) (fit_typed r t e n q))
      (λ f. type_kept (size_fit (and_left (not (at_header o r.position) && fit_sized r.position t e used) _ f))
      (type_fit (and_right (not (at_header o r.position) && fit_sized r.position t e used) _ f))))

  fit_numbers : FitNumbers o r used t e n q → fit_held o r (held_of t e n q) used ≡ true
  unfolding held_of fit_held
  fit_numbers (none_held a b c d) = rw (a, b, c, d)
  fit_numbers (size_held f c d) =
      let h : (eqb t 0 && eqb e 0) ≡ false = let p = f.past in rw (ne_eqb t 0 (λ z. omega arith)) in
      rw (c, d, h) (fit_size_lem f)
  fit_numbers (type_kept f k) =
      let h : (eqb n 0 && eqb q 0) ≡ false = let p = k.past in rw (ne_eqb q 0 (λ z. omega arith), and_false) in
      rw (h, three (not (at_header o r.position)) (fit_sized r.position t e used) (fit_typed r t e n q)) (both (fit_size_lem f) (fit_type_lem k))

  pub slow_fits_mean : (fits_slow o (slow r (held_of t e n q)) used ≡ true) ↔ FittingSlow o r used t e n q
  unfolding fits_slow
  slow_fits_mean = (
    λ f. record { reading = (fits_mean r used).0 (and_left (fits r used) _ f); numbers = numbers_fit (and_right (fits r used) _ f) },
    λ f. both ((fits_mean r used).1 f.reading) (fit_numbers f.numbers),
  )
