-- An epoch in a text: its point and digits, and its front by bytes.
use Rattle.std.specs.Prelude.{◌≡◌, refl, true, false, List, [], ◌∷◌, ℕ, ◌-◌, ◌*◌, ◌^◌, ◌<◌, length, get_or, bytes_eq}
use Rattle.std.proofs.Common.{sym, ap, ◌∙◌, arith}
use Rattle.std.proofs.Math.Option.{none, some, map}
use borrow.Author.Tests.{eq-eqb, ne_eqb}
use Rattle.std.proofs.Math.ListN.{take, drop, length-drop}
use Rattle.std.proofs.Math.Seq.{take_all}
use Rattle.format.specs.Text.{ascii}
use Rattle.format.specs.Bytes.{same}
use Rattle.format.proofs.Laws.Cases.{by_test, from_zero_one}
use Rattle.format.proofs.Laws.Bytes.{same_equal}
use Rattle.format.specs.Epochs.{number_from, epoch_in, epoch_of}
use Rattle.format.proofs.Laws.Epochs.{number_behind, number_behind_lem, number_below}

module _ (t : List ℕ) where
  pub text_parts : length t ≡ 7 → get_or t 4 0 ≡ 0x2E → epoch_in t ≡ number_behind (number_from 0 (take 4 t)) (take (length t - 5) (drop 5 t))
  unfolding epoch_in
  text_parts l p =
      let rest : take (length t - 5) (drop 5 t) ≡ drop 5 t = take_all (length t - 5) (drop 5 t) (omega (arith, length-drop 5 t)) in
      rw (rest, l, p, number_behind_lem 0 (take 4 t) (drop 5 t))

  -- four digits write less than 10,000
  pub years_below : (y : ℕ) → length t ≡ 4 → number_from 0 t ≡ some y → y < 10000
  years_below y l h = let k : y < 1 * 10 ^ 4 = (rw l at (number_below 0 t y h)) in omega (arith, k)

-- what the text's two lengths need
pub ruleset texts = (text_parts, years_below)

-- std's equality of two lists of bytes is the definition's
pub equal_same : (a b : List ℕ) → bytes_eq a b ≡ same a b
unfolding same
equal_same [] [] = refl
equal_same [] (y ∷ b) = refl
equal_same (x ∷ a) [] = refl
equal_same (x ∷ a) (y ∷ b) = rw (equal_same a b)

-- ---- laws of the ways by a text's length, point and front, kept since docs/PORT.md names them as theorems
module _ (t : List ℕ) where
  pub text_years : length t ≡ 4 → epoch_in t ≡ map (λ y. y * 100) (number_from 0 t)
  unfolding epoch_in
  text_years l = rw (eq-eqb (length t) 4 l)

  pub text_no_point : length t ≡ 7 → (get_or t 4 0 ≡ 0x2E → ⊥) → epoch_in t ≡ none
  unfolding epoch_in
  text_no_point l p = rw (l, ne_eqb (get_or t 4 0) 0x2E p)

  pub text_hundredths : length t ≡ 7 → get_or t 4 0 ≡ 0x2E → epoch_in t ≡ number_behind (number_from 0 (take 4 t)) (take 2 (drop 5 t))
  unfolding epoch_in
  text_hundredths l p =
      let two : take 2 (drop 5 t) ≡ drop 5 t = take_all 2 (drop 5 t) (omega (arith, length-drop 5 t, l)) in
      rw (l, p, number_behind_lem 0 (take 4 t) (drop 5 t), two)

  pub text_other : (length t ≡ 4 → ⊥) → (length t ≡ 7 → ⊥) → epoch_in t ≡ none
  unfolding epoch_in
  text_other f s = rw (ne_eqb (length t) 4 f, ne_eqb (length t) 7 s)

module _ (u : List ℕ) where
  pub uri_other : same (take 7 u) (ascii "urn:ep:") ≡ false → epoch_of u ≡ none
  unfolding epoch_of
  uri_other h = rw h

  pub uri_behind : same (take 7 u) (ascii "urn:ep:") ≡ true → epoch_of u ≡ epoch_in (take (length u - 7) (drop 7 u))
  unfolding epoch_of
  uri_behind h =
      let all : take (length u - 7) (drop 7 u) ≡ drop 7 u = take_all (length u - 7) (drop 7 u) (omega (arith, length-drop 7 u)) in
      rw (h, all)

  pub uri_short_lem : length u < 7 → epoch_of u ≡ none
  uri_short_lem l =
      by_test (same (take 7 u) (ascii "urn:ep:"))
      (λ h. let e : take 7 u ≡ ascii "urn:ep:" = same_equal (take 7 u) (ascii "urn:ep:") h in
      let k : length u ≡ 7 = ap length (sym (take_all 7 u (omega (arith, l))) ∙ e) in
      from_zero_one (let q : ◌≡◌ {A = ℕ} 0 1 = omega (arith, l, k) in q))
      (λ h. uri_other h)
