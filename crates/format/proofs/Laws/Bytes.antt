-- Laws of equality by bytes, and of bytes stored in a list.
use Rattle.std.specs.Prelude.{◌≡◌, refl, Bool, true, false, set, get_or, eqb}
use Rattle.std.proofs.Common.{sym, ◌∙◌, zero-add, add_assoc, eqb-true, eq-eqb, length-drop, take-append-drop, drop_of_length-le}
use Rattle.std.proofs.Math.Path.{ap}
use mathlib.Core.List.{List, [], ◌∷◌, ◌++◌, append_assoc, append-nil}
use Prim.Native.Nat.{ℕ, zero, suc, ◌+◌, ◌-◌, ◌<◌, ◌≤◌}
use native.Mathlib.Omega.{arith}
use Rattle.std.proofs.Math.Nat.{add-zero}
use Rattle.std.proofs.Math.ListN.{length, take, drop, length-append}
use Rattle.std.proofs.Math.Seq.{drop-cons, drop-drop, drop_at, take_at, length-take-le}
use Rattle.std.proofs.lemmas.List.{set_at}
use Rattle.format.proofs.Laws.Cases.{and_left, and_right}
use Rattle.format.specs.Bytes.{same, part_of, stored}

pub same_equal : (u v : List ℕ) → same u v ≡ true → u ≡ v
unfolding same
same_equal [] [] e = refl
same_equal [] (y ∷ v) e = cc
same_equal (x ∷ u) [] e = cc
same_equal (x ∷ u) (y ∷ v) e =
    rw (eqb-true x y (and_left (eqb x y) (same u v) e), same_equal u v (and_right (eqb x y) (same u v) e))

pub same_self : (u : List ℕ) → same u u ≡ true
unfolding same
same_self [] = refl
same_self (x ∷ u) = rw (eq-eqb x x refl) (same_self u)

pub equal_same : (u v : List ℕ) → u ≡ v → same u v ≡ true
equal_same u v e = rw e (same_self v)

pub other_same : (u v : List ℕ) → (u ≡ v → ⊥) → same u v ≡ false
other_same u v n = go (same u v) refl
  where
    go : (t : Bool) → same u v ≡ t → t ≡ false
    go true e = absurd (n (same_equal u v e))
    go false e = refl

-- ---- parts
take_none : (k : ℕ) → take {A = ℕ} k [] ≡ []
take_none zero = refl
take_none (suc k) = refl

pub drop_take : (n m : ℕ) (l : List ℕ) → drop n (take m l) ≡ take (m - n) (drop n l)
drop_take zero m l = let e : m - 0 ≡ m = omega arith in rw e
drop_take (suc n) zero l = let e : 0 - suc n ≡ 0 = omega arith in rw e
drop_take (suc n) (suc m) [] = sym (take_none (suc m - suc n))
drop_take (suc n) (suc m) (x ∷ l) = let e : suc m - suc n ≡ m - n = omega arith in rw e (drop_take n m l)

pub part_more : (a m b : ℕ) (l : List ℕ) → part_of (a + m) b l ≡ drop m (part_of a b l)
unfolding part_of
part_more a m b l = let e : b - (a + m) ≡ b - a - m = omega arith in rw (drop_take m (b - a) (drop a l), drop-drop, e)

-- ---- bytes stored at a place
module _ (d : List ℕ) (place : ℕ) where
  pub stored_none : stored d place [] ≡ d
  unfolding stored
  stored_none = rw add-zero (take-append-drop place d)

  module _ (x : List ℕ) (fits : place + length x ≤ length d) where
    front : length (take place d ++ x) ≡ place + length x
    front = length-append (take place d) x ∙ ap (λ (n : ℕ). n + length x) (length-take-le place d (omega arith))

    pub stored_length : length (stored d place x) ≡ length d
    unfolding stored
    stored_length =
        let a : length (take place d) ≡ place = length-take-le place d (omega arith) in
        rw (length-append, length-append, a, length-drop) (omega arith)

    byte_more : (b : ℕ) → place + length x < length d → set (stored d place x) (place + length x) b ≡ stored d place (x ++ (b ∷ []))
    unfolding stored
    byte_more b h =
        let e : suc (place + length x) ≡ place + (length x + 1) = omega arith in
        rw (length-append, drop-cons d (place + length x) 0 h, ← append_assoc (take place d) x, append_assoc x)
        (set_at (take place d ++ x) (get_or d (place + length x) 0) (drop (suc (place + length x)) d) b (place + length x) front
        ∙ append_assoc (take place d) x (b ∷ drop (suc (place + length x)) d)
        ∙ ap (λ (n : ℕ). take place d ++ (x ++ (b ∷ drop n d))) e)

    bytes_more : (y : List ℕ) → stored (stored d place x) (place + length x) y ≡ stored d place (x ++ y)
    unfolding stored
    bytes_more y =
        rw (
          ← append_assoc (take place d) x (drop (place + length x) d),
          take_at (take place d ++ x) (drop (place + length x) d) (place + length x) front,
          ← drop-drop (length y) (place + length x) (take place d ++ x ++ drop (place + length x) d),
          drop_at (take place d ++ x) (drop (place + length x) d) (place + length x) front,
          drop-drop,
          length-append,
        )
        (simp (append_assoc, add_assoc))

    -- one byte, and more bytes, stored right behind the first
    pub stored_byte : (n b : ℕ) → n ≡ place + length x → n < length d → set (stored d place x) n b ≡ stored d place (x ++ (b ∷ []))
    stored_byte n b e h = rw e (byte_more b (omega arith))

    pub stored_behind : (n : ℕ) (y : List ℕ) → n ≡ place + length x → stored (stored d place x) n y ≡ stored d place (x ++ y)
    stored_behind n y e = rw e (bytes_more y)

-- bytes stored over all of the list
pub stored_all : (d x : List ℕ) → length x ≡ length d → stored d 0 x ≡ x
unfolding stored
stored_all d x e = rw (zero-add, drop_of_length-le d {i = length x} (omega arith)) (append-nil x)

pub stored_first : (d : List ℕ) (place b : ℕ) → place < length d → set d place b ≡ stored d place (b ∷ [])
stored_first d place b h =
    ap (λ (l : List ℕ). set l place b) (sym (stored_none d place))
    ∙ stored_byte d place [] (omega arith) place b (omega arith) h
