-- A record whose size has been taken and whose type has not: what calls may make of it meanwhile.
use Rattle.std.specs.Prelude.{◌≡◌, refl, false, ℕ, zero, suc, pred, ◌+◌, ◌-◌, ◌≤◌, ◌<◌, replicate}
use Rattle.std.proofs.Common.{sym, ap, ◌∙◌, add-zero, length-append}
use mathlib.Core.List.{List, [], ◌∷◌, ◌++◌, append_assoc, append-nil}
use native.Mathlib.Omega.{arith}
use Rattle.std.proofs.Math.ListN.{length}
use Rattle.std.proofs.lemmas.List.{length-replicate}
use Rattle.format.specs.Figures.{size_bytes}
use Rattle.format.proofs.Laws.Cases.{by_order, from_zero_one}
use Rattle.format.specs.Register.{Names}
use Rattle.format.specs.Records.{plain, header, assignment, Entry, Item, padding, deleted, live, Origin, at_header}
use Rattle.format.specs.Reading.{whole, walk, passed, here, look}
use Rattle.format.specs.Calls.{erase, wipe, stores}
use Rattle.format.specs.Grammar.{Writing}
use Rattle.format.proofs.Laws.Order.Items.{Judgement, gone, entry, heading, assigning, judgement, Piece, look_early, past_start}
use Rattle.format.proofs.Laws.Order.Standing.{Stands}
use Rattle.format.proofs.Laws.Order.Wiping.{Spent, Dead, full, worn, dead_piece, stores_dead, stores_spent, stores_length}
use Rattle.format.proofs.Laws.Order.Middle.{Whole, whole_looks, whole_inside, whole_piece, whole_deleted, zeros_look, Left, blank, smaller, left_of, spent_more, MidOf, mid_as, mid_front, erase_passed, wipe_passed, erase_padding, wipe_padding, erase_deleted, Blot, same, blotted, erase_whole, Stored, untouched, cleared, wipe_whole}

-- ---- the register after an item that isn't a header or an assignment
live_kind : {e d : Entry} → live e ≡ live d → e.kind ≡ d.kind
live_kind e = cc

header_plain : {P : Type 0} → header ≡ plain → P
header_plain e = from_zero_one (cc)

assignment_plain : {P : Type 0} {n q : ℕ} {u : List ℕ} → assignment n q u ≡ plain → P
assignment_plain e = from_zero_one (cc)

live_deleted : {P : Type 0} {e : Entry} {p k n : ℕ} → live e ≡ deleted p k n → P
live_deleted e = from_zero_one (cc)

plain_judged : (p k : ℕ) (w b : List ℕ) (n : ℕ) (g h : Names) (i : Item) (m : ℕ) (e : Entry) → i ≡ live e → e.kind ≡ plain
    → Judgement p k w b n g i m h → h ≡ g
plain_judged p k w b n g h i m e x y (gone j r) = refl
plain_judged p k w b n g h i m e x y (entry a j u r f s t) = refl
plain_judged p k w b n g h i m e x y (heading a j u r f s t) = header_plain (live_kind x ∙ y)
plain_judged p k w b n g h i m e x y (assigning a j c z u r f s t q1 q2 q3) = assignment_plain (live_kind x ∙ y)

deleted_judged : (p k : ℕ) (w b : List ℕ) (n : ℕ) (g h : Names) (i : Item) (m r1 r2 r3 : ℕ) → i ≡ deleted r1 r2 r3 → Judgement p k w b n g i m h → h ≡ g
deleted_judged p k w b n g h i m r1 r2 r3 x (gone j r) = refl
deleted_judged p k w b n g h i m r1 r2 r3 x (entry a j u r f s t) = refl
deleted_judged p k w b n g h i m r1 r2 r3 x (heading a j u r f s t) = live_deleted x
deleted_judged p k w b n g h i m r1 r2 r3 x (assigning a j c z u r f s t q1 q2 q3) = live_deleted x

module _ (o : Origin) (begin : Stands [] o.names) where
  pub plain_names : (g g1 : Names) (p : ℕ) (a b : List ℕ) (i : Item) (e : Entry) → Whole o g p a b i g1 → i ≡ live e → e.kind ≡ plain → g1 ≡ g
  plain_names g g1 p a b i e w x y =
      plain_judged p (length a) (a ++ b) b (pred (length a + length b)) g g1 i (pred (length a + length b)) e x y
      (judgement p (length a) (a ++ b) b (pred (length a + length b)) g w.judges)

  deleted_names : (g g1 : Names) (p : ℕ) (a b : List ℕ) (i : Item) (r1 r2 r3 : ℕ) → Whole o g p a b i g1 → i ≡ deleted r1 r2 r3 → g1 ≡ g
  deleted_names g g1 p a b i r1 r2 r3 w x =
      deleted_judged p (length a) (a ++ b) b (pred (length a + length b)) g g1 i (pred (length a + length b)) r1 r2 r3 x
      (judgement p (length a) (a ++ b) b (pred (length a + length b)) g w.judges)

  -- ---- n bytes at p whose size had k bytes when it was taken: still a record of that size, or worn down by wipes
  pub data Half (g : Names) (p k n : ℕ) (g1 : Names) (w : List ℕ) : Type 0 where
    intact : (a b : List ℕ) (i : Item) → w ≡ a ++ b → length a ≡ k → length w ≡ n → Whole o g p a b i g1 → Half g p k n g1 w
    faded : Spent k w → length w ≡ n → at_header o p ≡ false → g1 ≡ g → Half g p k n g1 w

  pub half_piece : (g g1 : Names) (p k n : ℕ) (w : List ℕ) → Half g p k n g1 w → Piece o g p w g1
  half_piece g g1 p k n w (intact a b i e l m h) = rw e (whole_piece o g g1 p a b i h)
  half_piece g g1 p k n w (faded s m f e) = rw e (dead_piece o k w (worn s) g p f)

  pub half_length : (g g1 : Names) (p k n : ℕ) (w : List ℕ) → Half g p k n g1 w → length w ≡ n
  half_length g g1 p k n w (intact a b i e l m h) = m
  half_length g g1 p k n w (faded s m f e) = m

  dead_half : (g : Names) (p k n : ℕ) (w : List ℕ) → at_header o p ≡ false → length w ≡ n → Dead k w → Half g p k n g w
  dead_half g p k n w f m (full a b e l s) = intact a (0 ∷ b) (deleted p (length a) (suc (length b))) e l m (whole_deleted o g p a b f s)
  dead_half g p k n w f m (worn s) = faded s m f refl

  blot_half : (g g1 : Names) (p k n : ℕ) (a b : List ℕ) (i : Item) (w : List ℕ) → length a ≡ k → length (a ++ b) ≡ n → Whole o g p a b i g1
      → Blot o begin a b i w → Half g p k n g1 w
  blot_half g g1 p k n a b i w l m h (same e) = intact a b i e l (ap length e ∙ m) h
  blot_half g g1 p k n a b i w l m h (blotted t b1 y z x v e) =
      let u : length (a ++ (0 ∷ b1)) ≡ length (a ++ b) = rw (z, length-append, length-append) in
      rw (plain_names g g1 p a b i y h x v)
      (intact a (0 ∷ b1) (deleted p (length a) (suc (length b1))) e l (ap length e ∙ u ∙ m) (whole_deleted o g p a b1 h.past (rw z at h.sized)))

  stored_half : (g g1 : Names) (p s k n : ℕ) (a b : List ℕ) (i : Item) (w : List ℕ) → length a ≡ k → length (a ++ b) ≡ n → Whole o g p a b i g1
      → Stored o begin p s a b i w → Half g p k n g1 w
  stored_half g g1 p s k n a b i w l m h (untouched e) = intact a b i e l (ap length e ∙ m) h
  stored_half g g1 p s k n a b i w l m h (cleared b1 z x e) =
      let d : Dead (length a) (a ++ b) = full a b1 (rw z) refl (rw z at h.sized) in
      rw (deleted_names g g1 p a b i p (length a) (length b) h x, e, ← l)
      (dead_half g p (length a) n (stores s (length a) (a ++ b)) h.past (stores_length s (length a) (a ++ b) ∙ m) (stores_dead s (length a) (a ++ b) d))

  -- ---- where no record starts
  pub data Nowhere (g : Names) (p d : ℕ) (w : List ℕ) : Type 0 where
    by : ((t : List ℕ) → look o d 0 g p (w ++ t) ≡ passed) → Nowhere g p d w
    on : (r : ℕ) → ((t : List ℕ) → look o d 0 g p (w ++ t) ≡ here (padding r)) → Nowhere g p d w

  pub erase_nowhere : {P : List ℕ → Type 0} (q d p : ℕ) (g : Names) (w : List ℕ) → q ≡ p + d → 1 ≤ length w → P w → Nowhere g p d w
      → MidOf o begin (erase q) p g w P
  erase_nowhere q d p g w z n s (by k) = erase_passed o begin q d p g w z n s k
  erase_nowhere q d p g w z n s (on r k) = erase_padding o begin q d p g w z n r s k

  pub wipe_nowhere : {P : List ℕ → Type 0} (q m d p : ℕ) (g : Names) (w : List ℕ) → q ≡ p + d → 1 ≤ length w → P w → Nowhere g p d w
      → MidOf o begin (wipe q m) p g w P
  wipe_nowhere q m d p g w z n s (by k) = wipe_passed o begin q d p g w z n m s k
  wipe_nowhere q m d p g w z n s (on r k) = wipe_padding o begin q d p g w z n m r s k

  -- inside what is left of a worn record
  behind_zeros : (g : Names) (p d r : ℕ) (v : List ℕ) → Piece o g p v g → 1 ≤ length v → length v ≤ d → d < length v + r → (t : List ℕ)
      → look o d 0 g p ((v ++ replicate r 0) ++ t) ≡ here (padding (p + length v + (d - length v)))
  unfolding walk
  behind_zeros g p d r v pc n l m t =
      let x : d ≡ length v + (d - length v) = omega arith in
      let w : walk o 0 g p v ≡ whole g = rw append-nil at (pc []) in
      let y : look o (length v + (d - length v)) 0 g p (v ++ (replicate r 0 ++ t)) ≡ look o (d - length v) 0 g (p + length v) (replicate r 0 ++ t) =
      look_early o (d - length v) 0 g g p v (replicate r 0 ++ t) w in
      rw (append_assoc v (replicate r 0) t)
      (ap (λ (n : ℕ). look o n 0 g p (v ++ (replicate r 0 ++ t))) x ∙ y
      ∙ zeros_look o g (p + length v) (d - length v) r (past_start o (p + length v) (omega arith)) (omega arith) t)

  smaller_nowhere : (g : Names) (p d r : ℕ) (a b1 : List ℕ) → at_header o p ≡ false → Writing size_bytes a (suc (length b1))
      → suc d < length (a ++ (0 ∷ b1)) + r → Nowhere g p (suc d) ((a ++ (0 ∷ b1)) ++ replicate r 0)
  smaller_nowhere g p d r a b1 f s l =
      let h = whole_deleted o g p a b1 f s in
      let n : 1 ≤ length (a ++ (0 ∷ b1)) = rw length-append (omega arith) in
      by_order (suc d) (length (a ++ (0 ∷ b1)))
      (λ m. by (λ t. rw (append_assoc (a ++ (0 ∷ b1)) (replicate r 0) t)
      (whole_inside o g g p d a (0 ∷ b1) (deleted p (length a) (suc (length b1))) h m (replicate r 0 ++ t))))
      (λ m. on _ (λ t. behind_zeros g p (suc d) r (a ++ (0 ∷ b1)) (whole_piece o g g p a (0 ∷ b1) (deleted p (length a) (suc (length b1))) h) n m l t))

  -- ---- an erase and a wipe aimed into it
  module _ (q p k n : ℕ) (g g1 : Names) (w : List ℕ) where
    erase_intact : (d : ℕ) → q ≡ p + d → d < n → (a b : List ℕ) (i : Item) → w ≡ a ++ b → length a ≡ k → length w ≡ n → Whole o g p a b i g1
        → MidOf o begin (erase q) p g w (Half g p k n g1)
    erase_intact zero z l a b i e x y h =
        rw (e, z, add-zero) (mid_as o begin (λ v c. blot_half g g1 p k n a b i v x (sym (ap length e) ∙ y) h c) (erase_whole o begin g g1 p a b i h))
    erase_intact (suc d) z l a b i e x y h =
        erase_nowhere q (suc d) p g w z (omega arith) (intact a b i e x y h) (by (λ t. rw e (whole_inside o g g1 p d a b i h (omega (arith, ap length e)) t)))

    wipe_intact : (m d : ℕ) → q ≡ p + d → d < n → (a b : List ℕ) (i : Item) → w ≡ a ++ b → length a ≡ k → length w ≡ n → Whole o g p a b i g1
        → MidOf o begin (wipe q m) p g w (Half g p k n g1)
    wipe_intact m zero z l a b i e x y h =
        rw (e, z, add-zero) (mid_as o begin (λ v c. stored_half g g1 p m k n a b i v x (sym (ap length e) ∙ y) h c) (wipe_whole o begin m g g1 p a b i h))
    wipe_intact m (suc d) z l a b i e x y h =
        wipe_nowhere q m (suc d) p g w z (omega arith) (intact a b i e x y h) (by (λ t. rw e (whole_inside o g g1 p d a b i h (omega (arith, ap length e)) t)))

    erase_left : (d : ℕ) → q ≡ p + d → d < n → Spent k w → length w ≡ n → at_header o p ≡ false → g1 ≡ g → Left k w
        → MidOf o begin (erase q) p g w (Half g p k n g1)
    erase_left d z l s m f x (blank r e) =
        let c : length w ≡ r = ap length e ∙ length-replicate {A = ℕ} r 0 in
        erase_nowhere q d p g w z (omega arith) (faded s m f x) (on (p + d) (λ t. rw e (zeros_look o g p d r f (omega arith) t)))
    erase_left zero z l s m f x (smaller a b1 r e v u j) =
        erase_deleted o begin q 0 p g w z (omega arith) p (length a) (suc (length b1)) (faded s m f x)
        (λ t. rw (e, append_assoc (a ++ (0 ∷ b1)) (replicate r 0) t)
        (whole_looks o g g p a (0 ∷ b1) (deleted p (length a) (suc (length b1))) (whole_deleted o g p a b1 f v) (replicate r 0 ++ t)))
    erase_left (suc d) z l s m f x (smaller a b1 r e v u j) =
        let c : length w ≡ length (a ++ (0 ∷ b1)) + r = ap length e ∙ length-append (a ++ (0 ∷ b1)) (replicate r 0) ∙ rw (length-replicate {A = ℕ} r 0) in
        erase_nowhere q (suc d) p g w z (omega arith) (faded s m f x) (rw e (smaller_nowhere g p d r a b1 f v (omega arith)))

    cleared_half : (m r : ℕ) (a b1 : List ℕ) → w ≡ (a ++ (0 ∷ b1)) ++ replicate r 0 → Spent k w → Spent (length a) (a ++ (0 ∷ b1)) → length a ≤ k
        → k < length w → length w ≡ n → at_header o p ≡ false → g1 ≡ g → (v : List ℕ)
        → (v1 : List ℕ) × (v ≡ v1 ++ replicate r 0) × Stored o begin p m a (0 ∷ b1) (deleted p (length a) (suc (length b1))) v1 → Half g p k n g1 v
    cleared_half m r a b1 e s u j l y f x v (v1, ev, untouched e1) = rw (ev ∙ ap (λ (t : List ℕ). t ++ replicate r 0) e1 ∙ sym e) (faded s y f x)
    cleared_half m r a b1 e s u j l y f x v (v1, ev, cleared b2 z i e1) =
        let c : length w ≡ length (a ++ (0 ∷ b1)) + r = ap length e ∙ length-append (a ++ (0 ∷ b1)) (replicate r 0) ∙ rw (length-replicate {A = ℕ} r 0) in
        let c1 : length v1 ≡ length (a ++ (0 ∷ b1)) = ap length e1 ∙ stores_length m (length a) (a ++ (0 ∷ b1)) in
        let c2 : length v ≡ length v1 + r = ap length ev ∙ length-append v1 (replicate r 0) ∙ rw (length-replicate {A = ℕ} r 0) in
        let s1 : Spent (length a) v1 = rw e1 (stores_spent m (length a) (a ++ (0 ∷ b1)) u) in
        faded (rw ev (spent_more k (length a) r v1 s1 j (omega arith))) (omega arith) f x

    spent_inside : Spent k w → k < length w
    spent_inside (Spent.spent q1 n1 e l m h f i v) = omega (arith, ap length e ∙ length-append q1 (replicate n1 0), length-replicate {A = ℕ} n1 0)

    wipe_left : (m d : ℕ) → q ≡ p + d → d < n → Spent k w → length w ≡ n → at_header o p ≡ false → g1 ≡ g → Left k w
        → MidOf o begin (wipe q m) p g w (Half g p k n g1)
    wipe_left m d z l s y f x (blank r e) =
        let c : length w ≡ r = ap length e ∙ length-replicate {A = ℕ} r 0 in
        wipe_nowhere q m d p g w z (omega arith) (faded s y f x) (on (p + d) (λ t. rw e (zeros_look o g p d r f (omega arith) t)))
    wipe_left m zero z l s y f x (smaller a b1 r e v u j) =
        let h = whole_deleted o g p a b1 f v in
        let c =
        mid_as o begin (λ t b. cleared_half m r a b1 e s u j (spent_inside s) y f x t b)
        (mid_front o begin (a ++ (0 ∷ b1)) (replicate r 0) (wipe_whole o begin m g g p a (0 ∷ b1) (deleted p (length a) (suc (length b1))) h)) in
        rw (z, add-zero, e) c
    wipe_left m (suc d) z l s y f x (smaller a b1 r e v u j) =
        let c : length w ≡ length (a ++ (0 ∷ b1)) + r = ap length e ∙ length-append (a ++ (0 ∷ b1)) (replicate r 0) ∙ rw (length-replicate {A = ℕ} r 0) in
        wipe_nowhere q m (suc d) p g w z (omega arith) (faded s y f x) (rw e (smaller_nowhere g p d r a b1 f v (omega arith)))

    pub erase_half : (d : ℕ) → q ≡ p + d → d < n → Half g p k n g1 w → MidOf o begin (erase q) p g w (Half g p k n g1)
    erase_half d z l (intact a b i e x y h) = erase_intact d z l a b i e x y h
    erase_half d z l (faded s m f e) = erase_left d z l s m f e (left_of k w s)

    pub wipe_half : (m d : ℕ) → q ≡ p + d → d < n → Half g p k n g1 w → MidOf o begin (wipe q m) p g w (Half g p k n g1)
    wipe_half m d z l (intact a b i e x y h) = wipe_intact m d z l a b i e x y h
    wipe_half m d z l (faded s y f e) = wipe_left m d z l s y f e (left_of k w s)
