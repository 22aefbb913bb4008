-- The situations of a reading in three moves: where the log is cut, what may lie below the cut and above it, and what a late and
-- an early call do there.
use Rattle.std.specs.Prelude.{◌≡◌}
use Rattle.std.proofs.Math.Path.{refl}
use Rattle.std.proofs.Common.{sym, ap, ◌∙◌, subst, add-zero, eq-eqb, lt-ltb}
use Rattle.std.proofs.Math.Bool.{true}
use mathlib.Core.List.{List, [], ◌∷◌, ◌++◌, append_assoc}
use Prim.Native.Nat.{ℕ, zero, suc, min, ◌+◌, ◌-◌, ◌≤◌, ◌<◌}
use native.Mathlib.Omega.{arith}
use Rattle.std.proofs.Math.ListN.{length, length-append}
use Rattle.format.specs.Figures.{used_limit, size_bytes}
use Rattle.format.proofs.Laws.Cases.{by_order, from_zero_one}
use Rattle.format.specs.Register.{Names}
use Rattle.format.specs.Records.{refusal, Item, deleted, Origin}
use Rattle.format.specs.Reading.{passed, here as there, look, Reading}
use Rattle.format.specs.Calls.{parts, Call, append, assign, erase, wipe, wiped, denied, erase_looked, nonzeros, stores, wipe_looked, call, call_on}
use Rattle.format.specs.Grammar.{Writing}
use Rattle.format.specs.Moves.{nothing, sized, Slow, slow}
use Rattle.format.specs.Series.{early, late, aimed, mark_call}
use Rattle.format.specs.SlowSeries.{passed_to, is_taken, stores_none, wipes_taken, spares_call, slowly, lives, MovesToEnd}
use Rattle.format.proofs.Laws.Order.Items.{Piece}
use Rattle.format.proofs.Laws.Order.Standing.{Stands}
use Rattle.format.proofs.Laws.Order.Wiping.{deleted_piece}
use Rattle.format.proofs.Laws.Order.Frames.{Sees, Fits, Good, late_of, LateOf, EarlyOf, aimed_early, aimed_late, early_erase, early_wipe}
use Rattle.format.proofs.Laws.Order.Writing.{early_of}
use Rattle.format.proofs.Laws.Order.Middle.{Whole, Front, front, front_of, whole_looks, whole_inside, whole_piece, whole_deleted, MidOf, erase_mid, wipe_mid, wipe_live, wipe_does, Blot, same, blotted, erase_whole, erase_deleted}
use Rattle.format.proofs.Laws.Order.Halves.{Half, half_piece, half_length, erase_half, wipe_half, plain_names}
use Rattle.format.proofs.Laws.Order.Moving.{blot_length, Taken, taking}
use Rattle.format.proofs.Laws.Order.Induction.{book, sound_book, parted_book, LateIn, EarlyIn}
use Rattle.format.proofs.Laws.Order.Runs.{fits_more, longer, good_more}

module _ (o : Origin) (begin : Stands [] o.names) where
  abbrev pub taken_held : (r : Reading) (g g1 : Names) (a b : List ℕ) (i : Item) → Taken o begin g r.position a b i g1 → Slow
  taken_held r g g1 a b i t = slow r (taking o begin r g g1 a b i t)

  pub ap_good : (g : Names) (hi : List ℕ) {p q : ℕ} → p ≡ q → Good o begin g p hi → Good o begin g q hi
  ap_good g hi e a = subst (λ (n : ℕ). Good o begin g n hi) e a

  -- ---- the situations: nothing held; a size held, of k bytes, in a record of n; a type held
  pub data Sit : Type 0 where
    at_idle : (r : Reading) (g : Names) → Sees r r.position g → Sit
    at_size : (r : Reading) (g : Names) → Sees r r.position g → (k n : ℕ) → k ≤ size_bytes → Sit
    at_type : (r : Reading) (g g1 : Names) → Sees r r.position g → (a b : List ℕ) (i : Item) → Whole o g r.position a b i g1
        → Taken o begin g r.position a b i g1 → Sit

  unfoldable pub now_at : Sit → Slow
  now_at (at_idle r g s) = slow r nothing
  now_at (at_size r g s k n k4) = slow r (sized (r.position + k) (r.position + n))
  now_at (at_type r g g1 s a b i w t) = taken_held r g g1 a b i t

  -- undisturbed, a size that is held is not yet taken
  unfoldable pub back_at : Sit → Slow
  back_at (at_idle r g s) = slow r nothing
  back_at (at_size r g s k n k4) = slow r nothing
  back_at (at_type r g g1 s a b i w t) = taken_held r g g1 a b i t

  -- a record whose type is taken lies below the cut, erased or not
  pub data LowType (r : Reading) (g : Names) (a b : List ℕ) (i : Item) (l : List ℕ) : Type 0 where
    low_type : (l0 w : List ℕ) → l ≡ l0 ++ w → Fits o begin l0 g → length l0 ≡ r.position → Blot o begin a b i w → LowType r g a b i l

  -- one whose size is taken above it, whole or worn
  pub data HighSize (r : Reading) (g : Names) (k n : ℕ) (hi : List ℕ) : Type 0 where
    high_size : (w hi1 : List ℕ) (g1 : Names) → hi ≡ w ++ hi1 → Half o begin g r.position k n g1 w → Good o begin g1 (r.position + n) hi1
        → HighSize r g k n hi

  unfoldable pub LowAt : Sit → List ℕ → Type 0
  LowAt (at_idle r g s) l = Fits o begin l g × (length l ≡ r.position)
  LowAt (at_size r g s k n k4) l = Fits o begin l g × (length l ≡ r.position)
  LowAt (at_type r g g1 s a b i w t) l = LowType r g a b i l

  unfoldable pub HighAt : Sit → List ℕ → Type 0
  HighAt (at_idle r g s) hi = Good o begin g r.position hi
  HighAt (at_size r g s k n k4) hi = HighSize r g k n hi
  HighAt (at_type r g g1 s a b i w t) hi = Good o begin g1 (r.position + (length a + length b)) hi

  -- this falls with every move
  unfoldable pub weight_at : Sit → List ℕ → ℕ
  weight_at (at_idle r g s) hi = length hi + length hi + 1
  weight_at (at_size r g s k n k4) hi = length hi + length hi
  weight_at (at_type r g g1 s a b i w t) hi = length hi + length hi + 2

  pub size_good : (r : Reading) (g : Names) (k n : ℕ) (hi : List ℕ) → HighSize r g k n hi → Good o begin g r.position hi
  size_good r g k n hi (high_size w hi1 g1 e h q) =
      rw e (good_more o begin g g1 r.position w hi1 (half_piece o begin g g1 r.position k n w h)
      (ap_good g1 hi1 (ap (λ (m : ℕ). r.position + m) (sym (half_length o begin g g1 r.position k n w h))) q))

  blot_piece : (g g1 : Names) (p : ℕ) (a b : List ℕ) (i : Item) (w : List ℕ) → Whole o g p a b i g1 → Blot o begin a b i w → Piece o g p w g1
  blot_piece g g1 p a b i w h (same e) = rw e (whole_piece o g g1 p a b i h)
  blot_piece g g1 p a b i w h (blotted t b1 y z x v e) =
      rw (e, plain_names o begin g g1 p a b i y h x v) (deleted_piece o g p a b1 h.past (rw z at h.sized))

  pub low_fits : (r : Reading) (g g1 : Names) (a b : List ℕ) (i : Item) (l : List ℕ) → Whole o g r.position a b i g1 → LowType r g a b i l
      → Fits o begin l g1 × (length l ≡ r.position + (length a + length b))
  low_fits r g g1 a b i l h (low_type l0 w e f k c) = (
    rw e (fits_more o begin l0 w g g1 r.position f k (blot_piece g g1 r.position a b i w h c)),
    ap length e
        ∙ longer o begin l0 w r.position k ∙ rw (blot_length o begin a b i w c),
  )

  pub small_in : (a : Sit) (lo hi : List ℕ) → LowAt a lo → HighAt a hi → length (lo ++ hi) ≤ used_limit
  unfolding LowAt HighAt
  small_in (at_idle r g s) lo hi f q = rw (length-append, f.1) q.small
  small_in (at_size r g s k n k4) lo hi f q = rw (length-append, f.1) (size_good r g k n hi q).small
  small_in (at_type r g g1 s a b i w t) lo hi f q = rw (length-append, (low_fits r g g1 a b i lo w f).1) q.small

  abbrev Late : Call → Sit → List ℕ → Type 0
  Late c a lo = LateIn o (slowly o) lives MovesToEnd now_at back_at LowAt HighAt weight_at c a lo

  abbrev Early : Call → Sit → List ℕ → List ℕ → Type 0
  Early c a hi rest = EarlyIn o (slowly o) lives MovesToEnd now_at back_at LowAt HighAt weight_at c a hi rest

  -- ---- late calls
  late_plain : (c : Call) (r : Reading) (g : Names) (s : Sees r r.position g) (lo : List ℕ) → Fits o begin lo g → length lo ≡ r.position
      → mark_call c r.position ≡ late → Late c (at_idle r g s) lo
  unfolding LowAt
  late_plain c r g s lo f l k =
      let m = late_of o begin c lo g f (rw l k) in
      record { answer = m.answer; low = m.low; stays = (m.fits, m.long ∙ l); does = m.does }

  late_half : (c : Call) (r : Reading) (g : Names) (s : Sees r r.position g) (k n : ℕ) (k4 : k ≤ size_bytes) (lo : List ℕ) → Fits o begin lo g
      → length lo ≡ r.position → mark_call c r.position ≡ late → Late c (at_size r g s k n k4) lo
  unfolding LowAt
  late_half c r g s k n k4 lo f l e =
      let m = late_of o begin c lo g f (rw l e) in
      record { answer = m.answer; low = m.low; stays = (m.fits, m.long ∙ l); does = m.does }

  module _ (r : Reading) (g g1 : Names) (s : Sees r r.position g) (a b : List ℕ) (i : Item) (h : Whole o g r.position a b i g1)
      (t : Taken o begin g r.position a b i g1) where
    abbrev here : Sit
    here = at_type r g g1 s a b i h t

    -- below the record
    late_below : (c : Call) (l0 w lo : List ℕ) → lo ≡ l0 ++ w → length l0 ≡ r.position → Blot o begin a b i w → LateOf o begin c l0 g → Late c here lo
    unfolding LowAt
    late_below c l0 w lo e l k m =
        record {
          answer = m.answer;
          low = m.low ++ w;
          stays = low_type m.low w refl m.fits (m.long ∙ l) k;
          does = λ hi rest. rw (e, append_assoc l0 w hi, append_assoc m.low w hi) (m.does (w ++ hi) rest);
        }

    late_mid : (c : Call) (l0 w lo : List ℕ) → lo ≡ l0 ++ w → Fits o begin l0 g → length l0 ≡ r.position
        → MidOf o begin c r.position g w (Blot o begin a b i) → Late c here lo
    unfolding LowAt
    late_mid c l0 w lo e f l m =
        record {
          answer = m.answer;
          low = l0 ++ m.new;
          stays = low_type l0 m.new refl f l m.stays;
          does = λ hi rest. rw (e, append_assoc l0 w hi, append_assoc l0 m.new hi) (m.does l0 hi rest f l);
        }

    -- an erase of the record itself: the data that will be taken stays
    erase_blot : (w : List ℕ) → Blot o begin a b i w → MidOf o begin (erase r.position) r.position g w (Blot o begin a b i)
    erase_blot w (same e) = rw e (erase_whole o begin g g1 r.position a b i h)
    erase_blot w (blotted t1 b1 y z x v e) =
        erase_deleted o begin r.position 0 r.position g w (sym (add-zero r.position)) (rw (e, length-append) (omega arith)) r.position
        (length a) (suc (length b1)) (blotted t1 b1 y z x v e)
        (λ u. rw e (whole_looks o g g r.position a (0 ∷ b1) (deleted r.position (length a) (suc (length b1)))
        (whole_deleted o g r.position a b1 h.past (rw z at h.sized)) u))

    aimed_below : (q p : ℕ) → q < p → aimed q p ≡ late
    unfolding aimed
    aimed_below q p l = rw (lt-ltb q p l)

    -- a wipe of the record itself: refused while it is live; where it is erased, the premise leaves only the limit 0
    some_nonzero : (x : ℕ) (c b1 : List ℕ) → 1 ≤ nonzeros ((suc x ∷ c) ++ b1)
    unfolding nonzeros
    some_nonzero x c b1 = omega arith

    stores_some : (n : ℕ) → 1 ≤ n → stores_none (wiped n) ≡ true → ⊥
    unfolding stores_none
    stores_some zero l y = omega arith
    stores_some (suc n) l y = from_zero_one (cc)

    deleted_looks : (b1 : List ℕ) → Writing size_bytes a (suc (length b1)) → (u : List ℕ)
        → look o 0 0 g r.position ((a ++ (0 ∷ b1)) ++ u) ≡ there (deleted r.position (length a) (suc (length b1)))
    deleted_looks b1 s1 u =
        whole_looks o g g r.position a (0 ∷ b1) (deleted r.position (length a) (suc (length b1))) (whole_deleted o g r.position a b1 h.past s1) u

    wipe_blotted : (n : ℕ) (b1 l0 hi rest : List ℕ) → Front a → Writing size_bytes a (suc (length b1)) → Fits o begin l0 g → length l0 ≡ r.position
        → length (l0 ++ ((a ++ (0 ∷ b1)) ++ hi)) ≤ used_limit
        → stores_none (call_on o (wipe r.position n) (book (l0 ++ ((a ++ (0 ∷ b1)) ++ hi)) rest)).answer ≡ true → n ≡ 0
    unfolding call_on
    wipe_blotted zero b1 l0 hi rest fr s1 f l j y = refl
    wipe_blotted (suc n) b1 l0 hi rest (front x c e m) s1 f l j y =
        let lg : List ℕ = l0 ++ ((a ++ (0 ∷ b1)) ++ hi) in
        let q = wipe_does o begin r.position (suc n) g a (0 ∷ b1) (rw length-append (omega arith)) (λ u. deleted_looks b1 s1 u) l0 hi rest f l in
        let v : stores_none (wiped (min (suc n) (nonzeros (a ++ (0 ∷ b1))))) ≡ true = rw (sound_book o lg rest j, parted_book o lg rest, q) at y in
        let z : 1 ≤ nonzeros (a ++ (0 ∷ b1)) = rw e (some_nonzero x c (0 ∷ b1)) in
        absurd (stores_some (min (suc n) (nonzeros (a ++ (0 ∷ b1)))) (omega arith) v)

    wipe_nothing : (b1 w : List ℕ) → w ≡ a ++ (0 ∷ b1) → Writing size_bytes a (suc (length b1)) → Blot o begin a b i w
        → MidOf o begin (wipe r.position 0) r.position g w (Blot o begin a b i)
    unfolding stores
    wipe_nothing b1 w e s1 c =
        record {
          answer = wiped (min 0 (nonzeros (a ++ (0 ∷ b1))));
          new = w;
          stays = c;
          does =
              λ lo hi rest f l. rw e
              (wipe_does o begin r.position 0 g a (0 ∷ b1) (rw length-append (omega arith)) (λ u. deleted_looks b1 s1 u) lo hi rest f l);
        }

    late_wiped : (n : ℕ) (l0 w lo hi rest : List ℕ) → lo ≡ l0 ++ w → Fits o begin l0 g → length l0 ≡ r.position → length (lo ++ hi) ≤ used_limit
        → Blot o begin a b i w → stores_none (call_on o (wipe r.position n) (book (lo ++ hi) rest)).answer ≡ true
        → Late (wipe r.position n) here lo
    late_wiped n l0 w lo hi rest e f l j (same ew) y =
        late_mid (wipe r.position n) l0 w lo e f l
        (wipe_live o begin r.position 0 r.position g w (sym (add-zero r.position)) (rw (ew, length-append) (omega (arith, h.some))) n
        t.entry (same ew)
        (λ u. rw ew (whole_looks o g g1 r.position a b i h u ∙ ap there t.lives)))
    late_wiped n l0 w lo hi rest e f l j (blotted t1 b1 x z ix kx ew) y =
        let s1 : Writing size_bytes a (suc (length b1)) = rw z at h.sized in
        let v : lo ++ hi ≡ l0 ++ ((a ++ (0 ∷ b1)) ++ hi) = rw (e, ew) (append_assoc l0 (a ++ (0 ∷ b1)) hi) in
        let n0 : n ≡ 0 = wipe_blotted n b1 l0 hi rest (front_of a b h.some h.sized) s1 f l (rw v at j) (rw v at y) in
        rw n0 (late_mid (wipe r.position 0) l0 w lo e f l (wipe_nothing b1 w ew s1 (blotted t1 b1 x z ix kx ew)))

    late_typed : (c : Call) (lo hi rest : List ℕ) → LowType r g a b i lo → length (lo ++ hi) ≤ used_limit → mark_call c (suc r.position) ≡ late
        → spares_call o (book (lo ++ hi) rest) (taken_held r g g1 a b i t) c ≡ true → Late c here lo
    unfolding mark_call spares_call wipes_taken is_taken
    late_typed (append u d) lo hi rest f j k y = from_zero_one (cc)
    late_typed (assign n u) lo hi rest f j k y = from_zero_one (cc)
    late_typed (erase q) lo hi rest (low_type l0 w e f l c) j k y =
        by_order q r.position
        (λ m. late_below (erase q) l0 w lo e l c (late_of o begin (erase q) l0 g f (aimed_below q (length l0) (omega arith))))
        (λ m. let z : q ≡ r.position = omega (arith, aimed_late o begin q (suc r.position) k) in
        rw z (late_mid (erase r.position) l0 w lo e f l (erase_blot w c)))
    late_typed (wipe q n) lo hi rest (low_type l0 w e f l c) j k y =
        by_order q r.position
        (λ m. late_below (wipe q n) l0 w lo e l c (late_of o begin (wipe q n) l0 g f (aimed_below q (length l0) (omega arith))))
        (λ m. let z : q ≡ r.position = omega (arith, aimed_late o begin q (suc r.position) k) in
        let y1 : stores_none (call_on o (wipe q n) (book (lo ++ hi) rest)).answer ≡ true = rw (eq-eqb q r.position z) at y in
        rw z (late_wiped n l0 w lo hi rest e f l j c (rw z at y1)))

    -- ---- early calls
    early_behind : (c : Call) (hi rest : List ℕ) → EarlyOf o begin c (r.position + (length a + length b)) g1 hi rest → Early c here hi rest
    unfolding LowAt HighAt
    early_behind c hi rest m =
        record {
          answer = m.answer;
          high = m.high;
          left = m.left;
          stays = m.good;
          does = λ lo f. let x = low_fits r g g1 a b i lo h f in
              m.does lo x.0 x.1;
        }

    -- aimed inside the record: 8, erased or not
    look_blot : (d : ℕ) (w : List ℕ) → suc d < length a + length b → Blot o begin a b i w → (u : List ℕ) → look o (suc d) 0 g r.position (w ++ u) ≡ passed
    look_blot d w l (same e) u = rw e (whole_inside o g g1 r.position d a b i h (rw length-append l) u)
    look_blot d w l (blotted t1 b1 y z x v e) u =
        rw e (whole_inside o g g r.position d a (0 ∷ b1) (deleted r.position (length a) (suc (length b1)))
        (whole_deleted o g r.position a b1 h.past (rw z at h.sized)) (rw length-append (rw z at l)) u)

    some_blot : (w : List ℕ) → Blot o begin a b i w → 1 ≤ length w
    some_blot w c = omega (arith, blot_length o begin a b i w c, h.some)

    erase_inside : (q d : ℕ) (hi rest : List ℕ) → q ≡ r.position + suc d → suc d < length a + length b → (lo : List ℕ) → LowType r g a b i lo
        → call o (erase q) (parts (lo ++ hi) rest) ≡ (denied (refusal 8 q), parts (lo ++ hi) rest)
    unfolding erase_looked
    erase_inside q d hi rest z l lo (low_type l0 w e f k c) =
        rw (e, append_assoc l0 w hi) (erase_mid o begin q (suc d) r.position g w z (some_blot w c) passed (λ u. look_blot d w l c u) l0 hi rest f k)

    wipe_inside : (q m d : ℕ) (hi rest : List ℕ) → q ≡ r.position + suc d → suc d < length a + length b → (lo : List ℕ) → LowType r g a b i lo
        → call o (wipe q m) (parts (lo ++ hi) rest) ≡ (denied (refusal 8 q), parts (lo ++ hi) rest)
    unfolding wipe_looked
    wipe_inside q m d hi rest z l lo (low_type l0 w e f k c) =
        rw (e, append_assoc l0 w hi) (wipe_mid o begin q (suc d) r.position g w z (some_blot w c) m passed (λ u. look_blot d w l c u) l0 hi rest f k)

    early_typed : (c : Call) (lo hi rest : List ℕ) → LowType r g a b i lo → Good o begin g1 (r.position + (length a + length b)) hi
        → mark_call c (suc r.position) ≡ early → Early c here hi rest
    unfolding mark_call LowAt HighAt
    early_typed (append u d) lo hi rest f q k =
        let x =
        low_fits r g g1 a b i lo h f in early_behind (append u d) hi rest
        (early_of o begin (append u d) (r.position + (length a + length b)) g1 hi rest lo x.0 x.1 q refl)
    early_typed (assign n u) lo hi rest f q k =
        let x =
        low_fits r g g1 a b i lo h f in early_behind (assign n u) hi rest
        (early_of o begin (assign n u) (r.position + (length a + length b)) g1 hi rest lo x.0 x.1 q refl)
    early_typed (erase z) lo hi rest f q k =
        let m = aimed_early o begin z (suc r.position) k in
        by_order z (r.position + (length a + length b))
        (λ l. record {
          answer = denied (refusal 8 z);
          high = hi;
          left = rest;
          stays = q;
          does = λ lo1 f1. erase_inside z (z - suc r.position) hi rest (omega arith) (omega arith) lo1 f1;
        })
        (λ l. early_behind (erase z) hi rest
        (early_erase o begin z (z - (r.position + (length a + length b))) (r.position + (length a + length b)) g1 hi rest q (omega arith)))
    early_typed (wipe z n) lo hi rest f q k =
        let m = aimed_early o begin z (suc r.position) k in
        by_order z (r.position + (length a + length b))
        (λ l. record {
          answer = denied (refusal 8 z);
          high = hi;
          left = rest;
          stays = q;
          does = λ lo1 f1. wipe_inside z n (z - suc r.position) hi rest (omega arith) (omega arith) lo1 f1;
        })
        (λ l. early_behind (wipe z n) hi rest
        (early_wipe o begin z n (z - (r.position + (length a + length b))) (r.position + (length a + length b)) g1 hi rest q (omega arith)))

  module _ (r : Reading) (g : Names) (s : Sees r r.position g) (k n : ℕ) (k4 : k ≤ size_bytes) where
    -- behind the record
    size_behind : (c : Call) (w hi1 hi rest : List ℕ) (g1 : Names) → hi ≡ w ++ hi1 → Half o begin g r.position k n g1 w
        → EarlyOf o begin c (r.position + n) g1 hi1 rest → Early c (at_size r g s k n k4) hi rest
    unfolding LowAt HighAt
    size_behind c w hi1 hi rest g1 e h m =
        let lw = half_length o begin g g1 r.position k n w h in
        record {
          answer = m.answer;
          high = w ++ m.high;
          left = m.left;
          stays = high_size w m.high g1 refl h m.good;
          does = λ lo f.
              let x =
              m.does (lo ++ w) (fits_more o begin lo w g g1 r.position f.0 f.1 (half_piece o begin g g1 r.position k n w h))
              (longer o begin lo w r.position f.1 ∙ rw lw) in
              rw (e, ← (append_assoc lo w hi1), ← (append_assoc lo w m.high)) x;
        }

    -- in the record
    size_mid : (c : Call) (w hi1 hi rest : List ℕ) (g1 : Names) → hi ≡ w ++ hi1 → Good o begin g1 (r.position + n) hi1
        → MidOf o begin c r.position g w (Half o begin g r.position k n g1) → Early c (at_size r g s k n k4) hi rest
    unfolding LowAt HighAt
    size_mid c w hi1 hi rest g1 e q m =
        record {
          answer = m.answer;
          high = m.new ++ hi1;
          left = rest;
          stays = high_size m.new hi1 g1 refl m.stays q;
          does = λ lo f. rw e (m.does lo hi1 rest f.0 f.1);
        }

    early_sized : (c : Call) (lo hi rest : List ℕ) → Fits o begin lo g → length lo ≡ r.position → HighSize r g k n hi
        → mark_call c r.position ≡ early → Early c (at_size r g s k n k4) hi rest
    unfolding mark_call
    early_sized (append u d) lo hi rest f l (high_size w hi1 g1 e h q) m =
        size_behind (append u d) w hi1 hi rest g1 e h
        (early_of o begin (append u d) (r.position + n) g1 hi1 rest (lo ++ w)
        (fits_more o begin lo w g g1 r.position f l (half_piece o begin g g1 r.position k n w h))
        (longer o begin lo w r.position l ∙ rw (half_length o begin g g1 r.position k n w h)) q refl)
    early_sized (assign v u) lo hi rest f l (high_size w hi1 g1 e h q) m =
        size_behind (assign v u) w hi1 hi rest g1 e h
        (early_of o begin (assign v u) (r.position + n) g1 hi1 rest (lo ++ w)
        (fits_more o begin lo w g g1 r.position f l (half_piece o begin g g1 r.position k n w h))
        (longer o begin lo w r.position l ∙ rw (half_length o begin g g1 r.position k n w h)) q refl)
    early_sized (erase z) lo hi rest f l (high_size w hi1 g1 e h q) m =
        let y = aimed_early o begin z r.position m in
        by_order z (r.position + n)
        (λ x. size_mid (erase z) w hi1 hi rest g1 e q (erase_half o begin z r.position k n g g1 w (z - r.position) (omega arith) (omega arith) h))
        (λ x. size_behind (erase z) w hi1 hi rest g1 e h (early_erase o begin z (z - (r.position + n)) (r.position + n) g1 hi1 rest q (omega arith)))
    early_sized (wipe z j) lo hi rest f l (high_size w hi1 g1 e h q) m =
        let y = aimed_early o begin z r.position m in
        by_order z (r.position + n)
        (λ x. size_mid (wipe z j) w hi1 hi rest g1 e q (wipe_half o begin z r.position k n g g1 w j (z - r.position) (omega arith) (omega arith) h))
        (λ x. size_behind (wipe z j) w hi1 hi rest g1 e h (early_wipe o begin z j (z - (r.position + n)) (r.position + n) g1 hi1 rest q (omega arith)))

  early_plain : (c : Call) (r : Reading) (g : Names) (s : Sees r r.position g) (lo hi rest : List ℕ) → Fits o begin lo g → length lo ≡ r.position
      → Good o begin g r.position hi → mark_call c r.position ≡ early → Early c (at_idle r g s) hi rest
  unfolding LowAt HighAt
  early_plain c r g s lo hi rest f l q k =
      let m = early_of o begin c r.position g hi rest lo f l q k in
      record { answer = m.answer; high = m.high; left = m.left; stays = m.good; does = λ l1 z. m.does l1 z.0 z.1 }

  pub late_in : (c : Call) (a : Sit) (lo hi rest : List ℕ) → LowAt a lo → HighAt a hi → (slowly o).marks (now_at a) c ≡ late
      → (slowly o).spares (book (lo ++ hi) rest) (now_at a) c ≡ true → Late c a lo
  unfolding LowAt HighAt now_at passed_to
  late_in c (at_idle r g s) lo hi rest f q k y = late_plain c r g s lo f.0 f.1 k
  late_in c (at_size r g s j n k4) lo hi rest f q k y = late_half c r g s j n k4 lo f.0 f.1 k
  late_in c (at_type r g g1 s a b i w t) lo hi rest f q k y =
      late_typed r g g1 s a b i w t c lo hi rest f (rw (length-append, (low_fits r g g1 a b i lo w f).1) q.small) k y

  pub early_in : (c : Call) (a : Sit) (lo hi rest : List ℕ) → LowAt a lo → HighAt a hi → (slowly o).marks (now_at a) c ≡ early → Early c a hi rest
  unfolding LowAt HighAt now_at passed_to
  early_in c (at_idle r g s) lo hi rest f q k = early_plain c r g s lo hi rest f.0 f.1 q k
  early_in c (at_size r g s j n k4) lo hi rest f q k = early_sized r g s j n k4 c lo hi rest f.0 f.1 q k
  early_in c (at_type r g g1 s a b i w t) lo hi rest f q k = early_typed r g g1 s a b i w t c lo hi rest f q k
