-- An epoch shift is refused by the first of its rules that is due.
use Rattle.std.specs.Prelude.{◌≡◌, Bool, ◌&&◌, ◌||◌, List, ℕ, length, leb, eqb, nat_abs}
use Rattle.std.proofs.Math.Path.{refl}
use Rattle.std.proofs.Common.{sym, ap, ◌∙◌}
use Rattle.std.proofs.Math.Bool.{not}
use Rattle.std.proofs.Math.Option.{Option, none, some}
use Rattle.std.proofs.Math.IntN.{ℤ}
use Rattle.format.specs.Figures.{shot_length, coordinate_limit, difference_limit, motion_limit}
use Rattle.format.specs.Records.{Refusal}
use Rattle.format.specs.Epochs.{epoch_of, Triple, position_of, is_within, in_bounds, difference_of, shift_from, shift_named, shift}
use Rattle.format.specs.Refusals.{first_of, InTable, is_any_over, over_bound, shift_rules, refusal_of_shifted}
use Rattle.format.proofs.Laws.Cases.{by_test}
use Rattle.format.proofs.Laws.Denials.Items.{over_not, not_and, numbered, numbered_none, first_numbered}

any_over : (n : ℕ) (t : Triple) → is_any_over n t ≡ not (is_within n t)
any_over n t =
    rw (over_not (nat_abs t.x) n, over_not (nat_abs t.y) n, over_not (nat_abs t.z) n)
    (ap (λ (b : Bool). not (leb (nat_abs t.x) n) || b) (not_and (leb (nat_abs t.y) n) (leb (nat_abs t.z) n))
    ∙ not_and (leb (nat_abs t.x) n) (leb (nat_abs t.y) n && leb (nat_abs t.z) n))

module _ (u d : List ℕ) (asked : ℤ) (m : Triple) where
  over_bounds : (epoch : ℕ) → epoch_of u ≡ some epoch → over_bound u d asked m ≡ not (in_bounds (position_of d) (difference_of asked epoch) m)
  unfolding over_bound in_bounds
  over_bounds epoch h =
      let difference : ℤ = difference_of asked epoch in
      rw (h, any_over coordinate_limit (position_of d), any_over motion_limit m, over_not (nat_abs difference) difference_limit)
      (ap (λ (b : Bool). not (is_within coordinate_limit (position_of d)) || b) (not_and (leb (nat_abs difference) difference_limit) (is_within motion_limit m))
      ∙ not_and (is_within coordinate_limit (position_of d)) (leb (nat_abs difference) difference_limit && is_within motion_limit m))

  refused_by_lem : (o : Option ℕ) → epoch_of u ≡ o → refusal_of_shifted (shift_named o d asked m) ≡ first_of (shift_rules u d asked m)
  unfolding shift_named shift_from shift_rules first_of
  refused_by_lem none h = rw h
  refused_by_lem (some epoch) h =
      rw (over_bounds epoch h, h)
      (by_test (eqb (length d) shot_length)
      (λ f. by_test (in_bounds (position_of d) (difference_of asked epoch) m) (λ k. rw (f, k)) (λ k. rw (f, k)))
      (λ f. rw f))

  pub shift_refusal : refusal_of_shifted (shift u d asked m) ≡ first_of (shift_rules u d asked m)
  unfolding shift
  shift_refusal = refused_by_lem (epoch_of u) refl

  pub shift_numbered : (x : Refusal) → refusal_of_shifted (shift u d asked m) ≡ some x → InTable x
  unfolding shift_rules
  shift_numbered x e =
      first_numbered (shift_rules u d asked m) x (numbered 24 0 _ _ refl (numbered 25 0 _ _ refl (numbered 26 0 _ _ refl numbered_none))) (sym shift_refusal ∙ e)
