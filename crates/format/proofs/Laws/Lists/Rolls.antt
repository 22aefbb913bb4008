-- The entries that a walk passes over, and the parts of a log that give none or some.
use Rattle.std.specs.Prelude.{◌≡◌, take}
use Rattle.std.proofs.Math.Path.{refl}
use Rattle.std.proofs.Common.{ap, ◌∙◌, arith, suc-add, add-suc, length-take-le}
use mathlib.Core.List.{List, [], ◌∷◌, ◌++◌, append_assoc, append-nil}
use Prim.Native.Nat.{ℕ, zero, suc, ◌+◌}
use Rattle.std.proofs.Math.Nat.{add-zero}
use Rattle.std.proofs.Math.ListN.{length}
use Rattle.format.specs.Grammar.{Listed}
use Rattle.format.specs.Entries.{told}
use Rattle.format.specs.Register.{Names}
use Rattle.format.specs.Records.{Refusal, Item, bad, got, Origin, item}
use Rattle.format.specs.Reading.{whole, walk}
use Rattle.format.proofs.Laws.Order.Items.{item_exact, item_more, First, first, walk_first, walk_got, walk_nil, walk_skip, walk_append, not_stop}

module _ (o : Origin) where
  unfoldable pub roll : ℕ → Names → ℕ → List ℕ → List Listed
  roll zero g p [] = []
  roll (suc k) g p [] = []
  roll (suc k) g p (x ∷ xs) = roll k g (suc p) xs
  roll zero g p (x ∷ xs) = elim (item o g p x xs) [ bad r ↦ [] | got i n h ↦ told i ++ roll n h (suc p) xs ]

  pub roll_got : (g h : Names) (p x n : ℕ) (xs : List ℕ) (i : Item) → item o g p x xs ≡ got i n h → roll 0 g p (x ∷ xs) ≡ told i ++ roll n h (suc p) xs
  unfolding roll
  roll_got g h p x n xs i e = rw (e, roll)

  pub roll_bad : (g : Names) (p x : ℕ) (r : Refusal) (xs : List ℕ) → item o g p x xs ≡ bad r → roll 0 g p (x ∷ xs) ≡ []
  unfolding roll
  roll_bad g p x r xs e = rw (e, roll)

  roll_skip : (n : ℕ) (g : Names) (p : ℕ) (w t : List ℕ) → length w ≡ n → roll n g p (w ++ t) ≡ roll 0 g (p + n) t
  unfolding roll
  roll_skip zero g p [] t e = rw add-zero
  roll_skip zero g p (x ∷ w) t e = absurd (omega arith)
  roll_skip (suc n) g p [] t e = absurd (omega arith)
  roll_skip (suc n) g p (x ∷ w) t e = rw (add-suc, ← suc-add) (roll_skip n g (suc p) w t (omega arith))

  pub roll_none : (g : Names) (p : ℕ) → roll 0 g p [] ≡ []
  unfolding roll
  roll_none g p = refl

  roll_first : (g h : Names) (p x : ℕ) (xs hi : List ℕ)
      → ((n : ℕ) (g1 : Names) → walk o n g1 (suc p) xs ≡ whole h → roll n g1 (suc p) (xs ++ hi) ≡ roll n g1 (suc p) xs ++ roll 0 h (suc p + length xs) hi)
      → First o g p x xs h → roll 0 g p (x ∷ (xs ++ hi)) ≡ roll 0 g p (x ∷ xs) ++ roll 0 h (p + suc (length xs)) hi
  roll_first g h p x xs hi ih (first i n g1 q f) =
      roll_got g g1 p x n (xs ++ hi) i (item_more o g g1 p x n xs hi i q)
      ∙ rw (roll_got g g1 p x n xs i q, add-suc, ← (suc-add p (length xs)), append_assoc (told i)) (ap (λ (l : List Listed). told i ++ l) (ih n g1 f))

  pub roll_append : (k : ℕ) (g h : Names) (p : ℕ) (lo hi : List ℕ) → walk o k g p lo ≡ whole h → roll k g p (lo ++ hi) ≡ roll k g p lo ++ roll 0 h (p + length lo) hi
  unfolding walk roll
  roll_append zero g h p [] hi e = rw (walk_nil o g h p e, add-zero)
  roll_append (suc k) g h p [] hi e = not_stop o e
  roll_append (suc k) g h p (x ∷ xs) hi e = rw (add-suc, ← suc-add) (roll_append k g h (suc p) xs hi e)
  roll_append zero g h p (x ∷ xs) hi e = roll_first g h p x xs hi (λ n g1 q. roll_append n g1 h (suc p) xs hi q) (walk_first o g h p x xs e)

  -- ---- a part of a log: it is walked over and gives the entries es, whatever follows
  pub record Part (g : Names) (p : ℕ) (w : List ℕ) (es : List Listed) (h : Names) : Type 0 where
    pub walks : walk o 0 g p w ≡ whole h
    pub rolls : roll 0 g p w ≡ es

  pub part_walk : {g h : Names} {p : ℕ} {w : List ℕ} {es : List Listed} → Part g p w es h → (t : List ℕ) → walk o 0 g p (w ++ t) ≡ walk o 0 h (p + length w) t
  part_walk {g} {h} {p} {w} a t = walk_append o 0 g h p w t a.walks

  pub part_roll : {g h : Names} {p : ℕ} {w : List ℕ} {es : List Listed} → Part g p w es h → (t : List ℕ) → roll 0 g p (w ++ t) ≡ es ++ roll 0 h (p + length w) t
  part_roll {g} {h} {p} {w} a t = roll_append 0 g h p w t a.walks ∙ rw a.rolls

  pub part_none : (g : Names) (p : ℕ) → Part g p [] [] g
  unfolding walk roll
  part_none g p = record { walks = refl; rolls = refl }

  pub part_join : {g g1 g2 : Names} {p : ℕ} {w v : List ℕ} {es fs : List Listed} → Part g p w es g1 → Part g1 (p + length w) v fs g2 → Part g p (w ++ v) (es ++ fs) g2
  part_join {v = v} a b = record { walks = part_walk a v ∙ b.walks; rolls = part_roll a v ∙ rw b.rolls }

  pub item_part : (g h : Names) (p x : ℕ) (w : List ℕ) (i : Item) → item o g p x w ≡ got i (length w) h → Part g p (x ∷ w) (told i) h
  unfolding walk
  item_part g h p x w i e =
      record {
        walks = walk_got o g h p x (length w) w i e ∙ (rw append-nil at (walk_skip o (length w) h (suc p) w [] refl));
        rolls = roll_got g h p x (length w) w i e
            ∙ rw (rw append-nil at (roll_skip (length w) h (suc p) w [] refl), roll_none h (suc p + length w), append-nil);
      }

  pub got_part : (g h : Names) (p x n : ℕ) (xs : List ℕ) (i : Item) → item o g p x xs ≡ got i n h → Part g p (x ∷ take n xs) (told i) h
  got_part g h p x n xs i e =
      let q = item_exact o g h p x n xs i e in
      let k : length (take n xs) ≡ n = length-take-le n xs q.inside in
      item_part g h p x (take n xs) i (rw k (rw append-nil at (q.exact [])))
