-- What an erase or a wipe does to one record, whatever stands before it and behind it: a record that is whole, and one that
-- wipes have worn down.
use Rattle.std.specs.Prelude.{◌≡◌, false, set, replicate}
use Rattle.std.proofs.Math.Path.{refl, ap}
use Rattle.std.proofs.Common.{sym, ◌∙◌, zero-add, suc-add, add-suc, length-append}
use mathlib.Core.List.{List, [], ◌∷◌, ◌++◌, append_assoc}
use Prim.Native.Nat.{ℕ, zero, suc, pred, min, ◌+◌, ◌-◌, ◌*◌, ◌≤◌, ◌<◌}
use native.Mathlib.Omega.{arith}
use Rattle.std.proofs.Math.Nat.{add-zero}
use Rattle.std.proofs.Math.ListN.{length}
use Rattle.std.proofs.lemmas.List.{length-replicate, replicate-append-replicate, set_at}
use Rattle.std.proofs.Math.Seq.{take_at, drop_at}
use Rattle.format.specs.Figures.{size_bytes}
use Rattle.format.proofs.Laws.Cases.{from_zero_one}
use Rattle.format.specs.Register.{Names}
use Rattle.format.specs.Records.{refusal, Kind, plain, header, assignment, Entry, Item, padding, deleted, live, got, element, Origin, at_header, item}
use Rattle.format.specs.Reading.{Look, passed, here, look, look_at}
use Rattle.format.specs.Calls.{parts, Call, erase, wipe, Answer, erased, wiped, denied, erase_entry, erase_item, erase_looked, stores, nonzeros, wipe_item, wipe_looked, call}
use Rattle.format.specs.Grammar.{High, leads_value, NoEmptyLead, Writing, writing}
use Rattle.format.proofs.Laws.Order.Items.{Judgement, gone, entry, heading, assigning, judgement, judged, size_judged, item_element, past_start, Piece, record_piece, look_here, look_on, look_early, look_start}
use Rattle.format.proofs.Laws.Order.Standing.{Stands}
use Rattle.format.proofs.Laws.Order.Wiping.{head_of, leads_positive, Spent, spent, deleted_judged, writing_reads}
use Rattle.format.proofs.Laws.Order.Changes.{body_first, body_zero, splice_at}
use Rattle.format.proofs.Laws.Order.Frames.{Fits, set_behind}

-- ---- a whole record at p: its size a, its body b
-- its size begins with a byte that isn't 0
pub data Front (a : List ℕ) : Type 0 where
  front : (x : ℕ) (c : List ℕ) → a ≡ suc x ∷ c → length a ≤ size_bytes → Front a

pub front_of : (a b : List ℕ) → 1 ≤ length b → Writing size_bytes a (length b) → Front a
front_of a b l (writing q z e h f lo m v) =
    let x = head_of q z h (omega arith) in
    front x.0 x.1 (e ∙ x.2) (omega (arith, ap length e ∙ length-append q (z ∷ [])))

module _ (o : Origin) where
  pub record Whole (g : Names) (p : ℕ) (a b : List ℕ) (i : Item) (g1 : Names) : Type 0 where
    pub past : at_header o p ≡ false
    pub sized : Writing size_bytes a (length b)
    pub some : 1 ≤ length b
    pub judges : judged g p a b ≡ got i (pred (length a + length b)) g1

  pub whole_item : (g g1 : Names) (p x : ℕ) (c b : List ℕ) (i : Item) → Whole g p (suc x ∷ c) b i g1 → (t : List ℕ)
      → item o g p (suc x) (c ++ (b ++ t)) ≡ got i (length c + length b) g1
  unfolding element
  whole_item g g1 p x c b i w t =
      let e : pred (length (suc x ∷ c) + length b) ≡ length c + length b = omega arith in
      item_element o g p (suc x) (c ++ (b ++ t)) w.past ∙ size_judged g p (suc x ∷ c) b t (writing_reads (suc x ∷ c) (length b) w.sized)
      ∙ w.judges ∙ ap (λ (n : ℕ). got i n g1) e

  whole_looks_at : (g g1 : Names) (p : ℕ) (a b : List ℕ) (i : Item) → Whole g p a b i g1 → Front a → (t : List ℕ) → look o 0 0 g p ((a ++ b) ++ t) ≡ here i
  whole_looks_at g g1 p a b i w (front x c e n) t =
      rw (e, append_assoc c b t) (look_here o g g1 p (suc x) (length c + length b) (c ++ (b ++ t)) i (whole_item g g1 p x c b i (rw e at w) t))

  pub whole_looks : (g g1 : Names) (p : ℕ) (a b : List ℕ) (i : Item) → Whole g p a b i g1 → (t : List ℕ) → look o 0 0 g p ((a ++ b) ++ t) ≡ here i
  whole_looks g g1 p a b i w t = whole_looks_at g g1 p a b i w (front_of a b w.some w.sized) t

  look_inside : (d k : ℕ) (g : Names) (p : ℕ) (xs : List ℕ) → d < k → look o d k g p xs ≡ passed
  unfolding look
  look_inside zero zero g p xs h = absurd (omega arith)
  look_inside (suc d) zero g p xs h = absurd (omega arith)
  look_inside zero (suc k) g p [] h = refl
  look_inside (suc d) (suc k) g p [] h = refl
  look_inside zero (suc k) g p (x ∷ xs) h = refl
  look_inside (suc d) (suc k) g p (x ∷ xs) h = look_inside d k g (suc p) xs (omega arith)

  whole_inside_at : (g g1 : Names) (p d : ℕ) (a b : List ℕ) (i : Item) → Whole g p a b i g1 → Front a → suc d < length (a ++ b) → (t : List ℕ)
      → look o (suc d) 0 g p ((a ++ b) ++ t) ≡ passed
  whole_inside_at g g1 p d a b i w (front x c e n) l t =
      rw (e, append_assoc c b t)
      (look_on o d g g1 p (suc x) (length c + length b) (c ++ (b ++ t)) i (whole_item g g1 p x c b i (rw e at w) t)
      ∙ look_inside d (length c + length b) g1 (suc p) (c ++ (b ++ t)) (omega (arith, length-append a b, ap length e)))

  -- no record starts inside a record
  pub whole_inside : (g g1 : Names) (p d : ℕ) (a b : List ℕ) (i : Item) → Whole g p a b i g1 → suc d < length (a ++ b) → (t : List ℕ)
      → look o (suc d) 0 g p ((a ++ b) ++ t) ≡ passed
  whole_inside g g1 p d a b i w l t = whole_inside_at g g1 p d a b i w (front_of a b w.some w.sized) l t

  whole_piece_at : (g g1 : Names) (p : ℕ) (a b : List ℕ) (i : Item) → Whole g p a b i g1 → Front a → Piece o g p (a ++ b) g1
  whole_piece_at g g1 p a b i w (front x c e n) =
      record_piece o g g1 p (pred (length a + length b)) a b x c i w.past (writing_reads a (length b) w.sized) w.judges e

  pub whole_piece : (g g1 : Names) (p : ℕ) (a b : List ℕ) (i : Item) → Whole g p a b i g1 → Piece o g p (a ++ b) g1
  whole_piece g g1 p a b i w = whole_piece_at g g1 p a b i w (front_of a b w.some w.sized)

  pub whole_deleted : (g : Names) (p : ℕ) (a b1 : List ℕ) → at_header o p ≡ false → Writing size_bytes a (suc (length b1))
      → Whole g p a (0 ∷ b1) (deleted p (length a) (suc (length b1))) g
  whole_deleted g p a b1 f s = record { past = f; sized = s; some = omega arith; judges = deleted_judged g p a b1 }

  -- ---- what is left of a worn record: zeros, or a smaller deleted record and zeros
  pub zeros_look : (g : Names) (p d n : ℕ) → at_header o p ≡ false → d < n → (t : List ℕ) → look o d 0 g p (replicate n 0 ++ t) ≡ here (padding (p + d))
  unfolding element
  zeros_look g p d zero f l t = absurd (omega arith)
  zeros_look g p zero (suc n) f l t = look_here o g g p 0 0 (replicate n 0 ++ t) (padding p) (item_element o g p 0 (replicate n 0 ++ t) f) ∙ rw add-zero
  zeros_look g p (suc d) (suc n) f l t =
      look_on o d g g p 0 0 (replicate n 0 ++ t) (padding p) (item_element o g p 0 (replicate n 0 ++ t) f)
      ∙ zeros_look g (suc p) d n (past_start o (suc p) (omega arith)) (omega arith) t ∙ rw (suc-add, add-suc)

pub data Left (k : ℕ) (w : List ℕ) : Type 0 where
  blank : (n : ℕ) → w ≡ replicate n 0 → Left k w
  smaller : (a b1 : List ℕ) (r : ℕ) → w ≡ (a ++ (0 ∷ b1)) ++ replicate r 0 → Writing size_bytes a (suc (length b1)) → Spent (length a) (a ++ (0 ∷ b1))
      → length a ≤ k → Left k w

left_at : (k n : ℕ) (q : List ℕ) → length q < k → High q → NoEmptyLead q → length q < size_bytes → leads_value 0 q * 128 < n → Left k (q ++ replicate n 0)
unfolding High NoEmptyLead
left_at k n [] l h f m v = blank n refl
left_at k n (b ∷ q) l h f m v =
    let u : 1 ≤ leads_value 0 (b ∷ q) = leads_positive b q f in
    cut (leads_value 0 (b ∷ q) * 128) (n - suc (leads_value 0 (b ∷ q) * 128)) refl (omega arith) (omega arith)
  where
    cut : (s r : ℕ) → s ≡ leads_value 0 (b ∷ q) * 128 → 1 ≤ s → n ≡ suc s + r → Left k ((b ∷ q) ++ replicate n 0)
    cut zero r e i z = absurd (omega arith)
    cut (suc s) r e i z =
        let y : replicate {A = ℕ} n 0 ≡ 0 ∷ (0 ∷ (replicate s 0 ++ replicate r 0)) = rw (z, ← (replicate-append-replicate {A = ℕ} (suc (suc s)) r 0)) in
        let x : (b ∷ q) ++ replicate n 0 ≡ (((b ∷ q) ++ (0 ∷ [])) ++ (0 ∷ replicate s 0)) ++ replicate r 0 = rw y (simp append_assoc) in
        let c : length ((b ∷ q) ++ (0 ∷ [])) ≡ suc (length (b ∷ q)) = length-append (b ∷ q) (0 ∷ []) ∙ omega arith in
        smaller ((b ∷ q) ++ (0 ∷ [])) (replicate s 0) r x
        (writing (b ∷ q) 0 refl h f (omega arith) m (rw length-replicate (omega arith)))
        (rw c (spent (b ∷ q) (suc (suc s)) (append_assoc (b ∷ q) (0 ∷ []) (0 ∷ replicate s 0)) (omega arith) (omega arith) h f m (omega arith)))
        (omega arith)

pub left_of : (k : ℕ) (w : List ℕ) → Spent k w → Left k w
left_of k w (spent q n e l m h f i v) = rw e (left_at k n q l h f i v)

-- zeros behind it change nothing of that
pub spent_more : (k k1 r : ℕ) (v : List ℕ) → Spent k1 v → k1 ≤ k → k < length v + r → Spent k (v ++ replicate r 0)
spent_more k k1 r v (spent q n e l m h f i u) j z =
    spent q (n + r) (rw (e, append_assoc q (replicate n 0) (replicate r 0), replicate-append-replicate {A = ℕ} n r 0)) (omega arith)
    (omega (arith, ap length e ∙ length-append q (replicate n 0), length-replicate {A = ℕ} n 0)) h f i (omega arith)

-- ---- a call aimed into w, whatever stands before it and behind it
module _ (o : Origin) (begin : Stands [] o.names) where
  pub record MidOf (c : Call) (p : ℕ) (g : Names) (w : List ℕ) (P : List ℕ → Type 0) : Type 0 where
    pub answer : Answer
    pub new : List ℕ
    pub stays : P new
    pub does : (lo hi rest : List ℕ) → Fits o begin lo g → length lo ≡ p → call o c (parts (lo ++ (w ++ hi)) rest) ≡ (answer, parts (lo ++ (new ++ hi)) rest)

  pub mid_as : {c : Call} {p : ℕ} {g : Names} {w : List ℕ} {P Q : List ℕ → Type 0} → ((v : List ℕ) → P v → Q v) → MidOf c p g w P → MidOf c p g w Q
  mid_as f m = record { answer = m.answer; new = m.new; stays = f m.new m.stays; does = m.does }

  -- more behind it
  pub mid_front : {c : Call} {p : ℕ} {g : Names} {P : List ℕ → Type 0} (v z : List ℕ) → MidOf c p g v P
      → MidOf c p g (v ++ z) (λ (u : List ℕ). (v1 : List ℕ) × (u ≡ v1 ++ z) × P v1)
  mid_front v z m =
      record {
        answer = m.answer;
        new = m.new ++ z;
        stays = (m.new, refl, m.stays);
        does = λ lo hi rest f l. rw (append_assoc v z hi, append_assoc m.new z hi) (m.does lo (z ++ hi) rest f l);
      }

  module _ (q d p : ℕ) (g : Names) (w : List ℕ) (z : q ≡ p + d) (n : 1 ≤ length w) where
    looks_mid : (v : Look) → ((t : List ℕ) → look o d 0 g p (w ++ t) ≡ v) → (lo hi : List ℕ) → Fits o begin lo g → length lo ≡ p
        → look_at o q (lo ++ (w ++ hi)) ≡ v
    looks_mid v k lo hi f l =
        let x : look o q 0 o.names 0 (lo ++ (w ++ hi)) ≡ look o d 0 g p (w ++ hi) =
        rw (z, ← l) (rw zero-add at (look_early o d 0 o.names g 0 lo (w ++ hi) f)) in
        look_start o q (lo ++ (w ++ hi)) (past_start o (length (lo ++ (w ++ hi))) (rw (length-append, length-append) (omega arith))) ∙ x ∙ k hi

    pub erase_mid : (v : Look) → ((t : List ℕ) → look o d 0 g p (w ++ t) ≡ v) → (lo hi rest : List ℕ) → Fits o begin lo g → length lo ≡ p
        → call o (erase q) (parts (lo ++ (w ++ hi)) rest) ≡ erase_looked q v (parts (lo ++ (w ++ hi)) rest)
    unfolding call
    erase_mid v k lo hi rest f l = rw (looks_mid v k lo hi f l)

    pub wipe_mid : (m : ℕ) (v : Look) → ((t : List ℕ) → look o d 0 g p (w ++ t) ≡ v) → (lo hi rest : List ℕ) → Fits o begin lo g → length lo ≡ p
        → call o (wipe q m) (parts (lo ++ (w ++ hi)) rest) ≡ wipe_looked q m v (parts (lo ++ (w ++ hi)) rest)
    unfolding call
    wipe_mid m v k lo hi rest f l = rw (looks_mid v k lo hi f l)

    mid_refused : {c : Call} {P : List ℕ → Type 0} → P w → (a : Answer)
        → ((lo hi rest : List ℕ) → Fits o begin lo g → length lo ≡ p → call o c (parts (lo ++ (w ++ hi)) rest) ≡ (a, parts (lo ++ (w ++ hi)) rest))
        → MidOf c p g w P
    mid_refused s a e = record { answer = a; new = w; stays = s; does = e }

    -- nothing there: 8
    pub erase_passed : {P : List ℕ → Type 0} → P w → ((t : List ℕ) → look o d 0 g p (w ++ t) ≡ passed) → MidOf (erase q) p g w P
    unfolding erase_looked
    erase_passed s k = mid_refused s (denied (refusal 8 q)) (λ lo hi rest f l. erase_mid passed k lo hi rest f l)

    pub wipe_passed : {P : List ℕ → Type 0} (m : ℕ) → P w → ((t : List ℕ) → look o d 0 g p (w ++ t) ≡ passed) → MidOf (wipe q m) p g w P
    unfolding wipe_looked
    wipe_passed m s k = mid_refused s (denied (refusal 8 q)) (λ lo hi rest f l. wipe_mid m passed k lo hi rest f l)

    pub erase_padding : {P : List ℕ → Type 0} (r : ℕ) → P w → ((t : List ℕ) → look o d 0 g p (w ++ t) ≡ here (padding r)) → MidOf (erase q) p g w P
    unfolding erase_looked erase_item
    erase_padding r s k = mid_refused s (denied (refusal 8 q)) (λ lo hi rest f l. erase_mid (here (padding r)) k lo hi rest f l)

    pub wipe_padding : {P : List ℕ → Type 0} (m r : ℕ) → P w → ((t : List ℕ) → look o d 0 g p (w ++ t) ≡ here (padding r)) → MidOf (wipe q m) p g w P
    unfolding wipe_looked wipe_item
    wipe_padding m r s k = mid_refused s (denied (refusal 8 q)) (λ lo hi rest f l. wipe_mid m (here (padding r)) k lo hi rest f l)

    pub erase_deleted : {P : List ℕ → Type 0} (r j m : ℕ) → P w → ((t : List ℕ) → look o d 0 g p (w ++ t) ≡ here (deleted r j m)) → MidOf (erase q) p g w P
    unfolding erase_looked erase_item
    erase_deleted r j m s k = mid_refused s (denied (refusal 8 q)) (λ lo hi rest f l. erase_mid (here (deleted r j m)) k lo hi rest f l)

    pub wipe_live : {P : List ℕ → Type 0} (m : ℕ) (e : Entry) → P w → ((t : List ℕ) → look o d 0 g p (w ++ t) ≡ here (live e)) → MidOf (wipe q m) p g w P
    unfolding wipe_looked wipe_item
    wipe_live m e s k = mid_refused s (denied (refusal 8 q)) (λ lo hi rest f l. wipe_mid m (here (live e)) k lo hi rest f l)

    pub erase_nine : {P : List ℕ → Type 0} (e : Entry) → P w → ((t : List ℕ) → look o d 0 g p (w ++ t) ≡ here (live e)) → (e.kind ≡ plain → ⊥)
        → MidOf (erase q) p g w P
    unfolding erase_looked erase_item erase_entry
    erase_nine {P} e s k x = go e.kind refl
      where
        go : (c : Kind) → e.kind ≡ c → MidOf (erase q) p g w P
        go plain y = absurd (x y)
        go header y = mid_refused s (denied (refusal 9 q)) (λ lo hi rest f l. erase_mid (here (live e)) k lo hi rest f l ∙ rw y)
        go (assignment n1 a1 u1) y = mid_refused s (denied (refusal 9 q)) (λ lo hi rest f l. erase_mid (here (live e)) k lo hi rest f l ∙ rw y)

  -- ---- an erase of a whole record: as it was, or its first type byte blotted
  pub data Blot (a b : List ℕ) (i : Item) (w : List ℕ) : Type 0 where
    same : w ≡ a ++ b → Blot a b i w
    blotted : (t : ℕ) (b1 : List ℕ) (e : Entry) → b ≡ t ∷ b1 → i ≡ live e → e.kind ≡ plain → w ≡ a ++ (0 ∷ b1) → Blot a b i w

  set_first : (lo a b1 hi : List ℕ) (p t : ℕ) → length lo ≡ p → set (lo ++ ((a ++ (t ∷ b1)) ++ hi)) (p + length a) 0 ≡ lo ++ ((a ++ (0 ∷ b1)) ++ hi)
  set_first lo a b1 hi p t l =
      let x : (a ++ (t ∷ b1)) ++ hi ≡ a ++ (t ∷ (b1 ++ hi)) = append_assoc a (t ∷ b1) hi in
      let y : (a ++ (0 ∷ b1)) ++ hi ≡ a ++ (0 ∷ (b1 ++ hi)) = append_assoc a (0 ∷ b1) hi in
      rw (x, y) (set_behind o begin lo (a ++ (t ∷ (b1 ++ hi))) p (p + length a) (length a) l refl
      ∙ ap (λ (v : List ℕ). lo ++ v) (set_at a t (b1 ++ hi) 0 (length a) refl))

  erase_plainly : (p : ℕ) (g : Names) (a b : List ℕ) (e : Entry) → 1 ≤ length (a ++ b)
      → ((t : List ℕ) → look o 0 0 g p ((a ++ b) ++ t) ≡ here (live e)) → e.kind ≡ plain → e.type_place ≡ p + length a → (t : ℕ) × (b1 : List ℕ) × (b ≡ t ∷ b1)
      → MidOf (erase p) p g (a ++ b) (Blot a b (live e))
  unfolding erase_looked erase_item erase_entry
  erase_plainly p g a b e n k x y (t, b1, z) =
      record {
        answer = erased (p + length a);
        new = a ++ (0 ∷ b1);
        stays = blotted t b1 e z refl x refl;
        does = λ lo hi rest f l. erase_mid p 0 p g (a ++ b) (sym (add-zero p)) n (here (live e)) k lo hi rest f l ∙ rw (x, y, z, set_first lo a b1 hi p t l);
      }

  erase_judged : (p : ℕ) (a b : List ℕ) (n : ℕ) (g g1 : Names) (i : Item) (m : ℕ) → 1 ≤ length (a ++ b)
      → ((t : List ℕ) → look o 0 0 g p ((a ++ b) ++ t) ≡ here i) → Judgement p (length a) (a ++ b) b n g i m g1 → MidOf (erase p) p g (a ++ b) (Blot a b i)
  erase_judged p a b n g g1 i m l k (gone j r) = erase_deleted p 0 p g (a ++ b) (sym (add-zero p)) l p (length a) (length b) (same refl) k
  erase_judged p a b n g g1 i m l k (entry c j u r f x y) = erase_plainly p g a b _ l k refl refl (body_first o b (suc c) j r)
  erase_judged p a b n g g1 i m l k (heading c j u r f x y) = erase_nine p 0 p g (a ++ b) (sym (add-zero p)) l _ (same refl) k (λ e. from_zero_one (cc))
  erase_judged p a b n g g1 i m l k (assigning c j s v u r f x y q1 q2 q3) =
      erase_nine p 0 p g (a ++ b) (sym (add-zero p)) l _ (same refl) k (λ e. from_zero_one (cc))

  some_whole : (a b : List ℕ) → 1 ≤ length b → 1 ≤ length (a ++ b)
  some_whole a b h = rw length-append (omega arith)

  pub erase_whole : (g g1 : Names) (p : ℕ) (a b : List ℕ) (i : Item) → Whole o g p a b i g1 → MidOf (erase p) p g (a ++ b) (Blot a b i)
  erase_whole g g1 p a b i w =
      erase_judged p a b (pred (length a + length b)) g g1 i (pred (length a + length b)) (some_whole a b w.some) (λ t. whole_looks o g g1 p a b i w t)
      (judgement p (length a) (a ++ b) b (pred (length a + length b)) g w.judges)

  -- ---- a wipe of a whole record: as it was, or some stores in it, where it is deleted
  pub data Stored (p m : ℕ) (a b : List ℕ) (i : Item) (w : List ℕ) : Type 0 where
    untouched : w ≡ a ++ b → Stored p m a b i w
    cleared : (b1 : List ℕ) → b ≡ 0 ∷ b1 → i ≡ deleted p (length a) (length b) → w ≡ stores m (length a) (a ++ b) → Stored p m a b i w

  pub wipe_does : (p m : ℕ) (g : Names) (a b : List ℕ) → 1 ≤ length (a ++ b)
      → ((t : List ℕ) → look o 0 0 g p ((a ++ b) ++ t) ≡ here (deleted p (length a) (length b))) → (lo hi rest : List ℕ) → Fits o begin lo g → length lo ≡ p
      → call o (wipe p m) (parts (lo ++ ((a ++ b) ++ hi)) rest) ≡ (wiped (min m (nonzeros (a ++ b))), parts (lo ++ (stores m (length a) (a ++ b) ++ hi)) rest)
  unfolding wipe_looked wipe_item
  wipe_does p m g a b n k lo hi rest f l =
      wipe_mid p 0 p g (a ++ b) (sym (add-zero p)) n m (here (deleted p (length a) (length b))) k lo hi rest f l
      ∙ rw (
        splice_at o p (length a + length b) (stores m (length a)) lo (a ++ b) hi l (length-append a b),
        drop_at lo ((a ++ b) ++ hi) p l,
        take_at (a ++ b) hi (length a + length b) (length-append a b),
      )

  wipe_plainly : (p m : ℕ) (g : Names) (a b : List ℕ) → 1 ≤ length (a ++ b)
      → ((t : List ℕ) → look o 0 0 g p ((a ++ b) ++ t) ≡ here (deleted p (length a) (length b))) → (b1 : List ℕ) × (b ≡ 0 ∷ b1)
      → MidOf (wipe p m) p g (a ++ b) (Stored p m a b (deleted p (length a) (length b)))
  wipe_plainly p m g a b n k (b1, z) =
      record {
        answer = wiped (min m (nonzeros (a ++ b)));
        new = stores m (length a) (a ++ b);
        stays = cleared b1 z refl refl;
        does = λ lo hi rest f l. wipe_does p m g a b n k lo hi rest f l;
      }

  wipe_judged : (p s : ℕ) (a b : List ℕ) (n : ℕ) (g g1 : Names) (i : Item) (m : ℕ) → 1 ≤ length (a ++ b)
      → ((t : List ℕ) → look o 0 0 g p ((a ++ b) ++ t) ≡ here i) → Judgement p (length a) (a ++ b) b n g i m g1
      → MidOf (wipe p s) p g (a ++ b) (Stored p s a b i)
  wipe_judged p s a b n g g1 i m l k (gone j r) = wipe_plainly p s g a b l k (body_zero o b j r)
  wipe_judged p s a b n g g1 i m l k (entry c j u r f x y) = wipe_live p 0 p g (a ++ b) (sym (add-zero p)) l s _ (untouched refl) k
  wipe_judged p s a b n g g1 i m l k (heading c j u r f x y) = wipe_live p 0 p g (a ++ b) (sym (add-zero p)) l s _ (untouched refl) k
  wipe_judged p s a b n g g1 i m l k (assigning c j d v u r f x y q1 q2 q3) = wipe_live p 0 p g (a ++ b) (sym (add-zero p)) l s _ (untouched refl) k

  pub wipe_whole : (s : ℕ) (g g1 : Names) (p : ℕ) (a b : List ℕ) (i : Item) → Whole o g p a b i g1 → MidOf (wipe p s) p g (a ++ b) (Stored p s a b i)
  wipe_whole s g g1 p a b i w =
      wipe_judged p s a b (pred (length a + length b)) g g1 i (pred (length a + length b)) (some_whole a b w.some) (λ t. whole_looks o g g1 p a b i w t)
      (judgement p (length a) (a ++ b) b (pred (length a + length b)) g w.judges)
