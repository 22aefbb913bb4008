-- A shift's refusals are the table's; the answers of a shift, by its ways.
use Rattle.std.specs.Prelude.{◌≡◌, refl, true, false, List, ℕ, ◌<◌, length, eqb, ℤ, nat_abs, Result, Ok, Err}
use Rattle.std.proofs.Math.Path.{sym}
use Rattle.std.proofs.Common.{ap, ◌∙◌}
use Rattle.std.proofs.Math.Option.{Option, none, some}
use Rattle.format.specs.Figures.{shot_length}
use Rattle.format.specs.Epochs.{epoch_of, position_of, in_bounds, difference_of, point_of, motion_of, shifted, not_shifted, shift_from, shift_named, shift}
use Rattle.format.specs.Epochs as Epochs
use Rattle.format.proofs.Laws.Cases.{by_test}
use Rattle.format.proofs.Laws.Shifts.{from_other_length, from_over, from_done, shift_unnamed}
use Rattle.record.specs.Items.{refusal_of, refusal_back}
use Rattle.record.specs.declared.Refusal.{Refusal}
use Rattle.record.specs.declared.Refusal.TheVariants.{NotEpoch, NotShot, OverBound}
use Rattle.epoch.specs.Answers.{triple_of, triple_as, point_as, motion_as, shifted_as}
use Rattle.epoch.proofs.Bounds.{far_over}
use Rattle.epoch.specs.declared.Triple.{Triple}
use Rattle.epoch.specs.declared.Point.{Point}
use Rattle.epoch.specs.declared.Motion.{Motion}
use Rattle.epoch.specs.declared.Shifted.{Shifted}

abbrev pub Known : Epochs.Shifted → Type 0
Known (shifted s) = Unit {0}
Known (not_shifted x) = refusal_of (refusal_back x) ≡ x

known_from : (epoch : ℕ) (d : List ℕ) (asked : ℤ) (m : Epochs.Triple) → Known (shift_from epoch d asked m)
unfolding shift_from refusal_back
known_from epoch d asked m =
    by_test (eqb (length d) shot_length)
    (λ f. by_test (in_bounds (position_of d) (difference_of asked epoch) m) (λ k. rw (f, k) tt) (λ k. rw (f, k) refl))
    (λ f. rw f refl)

known_named : (o : Option ℕ) (d : List ℕ) (asked : ℤ) (m : Epochs.Triple) → Known (shift_named o d asked m)
unfolding shift_named refusal_back
known_named none d asked m = refl
known_named (some epoch) d asked m = known_from epoch d asked m

pub shift_known : (u d : List ℕ) (asked : ℤ) (m : Epochs.Triple) → Known (shift u d asked m)
unfolding shift
shift_known u d asked m = known_named (epoch_of u) d asked m

-- ---- laws of the answer's cases, one for each way through a shift, kept since docs/PORT.md names them as theorems
abbrev answer : ℕ → Triple → Point → Motion → Result Shifted Refusal
answer epoch p point motion = Ok (record { epoch = epoch; position = p; point = point; motion = motion })

pub answer_unnamed : (u d : List ℕ) (asked : ℤ) (m : Triple) → epoch_of u ≡ none → Err NotEpoch ≡ shifted_as (shift u d asked (triple_of m))
unfolding refusal_back
answer_unnamed u d asked m h = sym (ap shifted_as (shift_unnamed u d asked (triple_of m) h))

module _ (epoch : ℕ) (d : List ℕ) (asked : ℤ) (m : Triple) where
  pub answer_length : (length d ≡ shot_length → ⊥) → Err NotShot ≡ shifted_as (shift_from epoch d asked (triple_of m))
  unfolding refusal_back
  answer_length l = sym (ap shifted_as (from_other_length epoch d asked (triple_of m) l))

  module _ (l : length d ≡ shot_length) where
    over : in_bounds (position_of d) (difference_of asked epoch) (triple_of m) ≡ false → Err OverBound ≡ shifted_as (shift_from epoch d asked (triple_of m))
    unfolding refusal_back
    over k = sym (ap shifted_as (from_over epoch d asked (triple_of m) l k))

    pub answer_far : epoch < 1000000 → 2000000 < nat_abs asked → Err OverBound ≡ shifted_as (shift_from epoch d asked (triple_of m))
    answer_far k h = over (far_over asked epoch k (position_of d) (triple_of m) h)

    -- the position and the difference, as the code has them
    module _ (p : Triple) (z : ℤ) (at : triple_of p ≡ position_of d) (apart : z ≡ difference_of asked epoch) where
      judged : in_bounds (triple_of p) z (triple_of m) ≡ in_bounds (position_of d) (difference_of asked epoch) (triple_of m)
      judged = ap (λ (t : Epochs.Triple). in_bounds t z (triple_of m)) at ∙ ap (λ (y : ℤ). in_bounds (position_of d) y (triple_of m)) apart

      pub answer_over : in_bounds (triple_of p) z (triple_of m) ≡ false → Err OverBound ≡ shifted_as (shift_from epoch d asked (triple_of m))
      answer_over k = over (sym judged ∙ k)

      pub answer_moved : (point : Point) (motion : Motion) → in_bounds (triple_of p) z (triple_of m) ≡ true
          → point ≡ point_as (point_of (triple_of p) (triple_of m) z) → motion ≡ motion_as (motion_of (triple_of m))
          → Ok (record { epoch = epoch; position = p; point = point; motion = motion }) ≡ shifted_as (shift_from epoch d asked (triple_of m))
      answer_moved point motion k e f =
          ap (λ (x : Point). answer epoch p x motion) e ∙ ap (λ (x : Motion). answer epoch p (point_as (point_of (triple_of p) (triple_of m) z)) x) f
          ∙ ap (λ (t : Epochs.Triple). answer epoch (triple_as t) (point_as (point_of t (triple_of m) z)) (motion_as (motion_of (triple_of m)))) at
          ∙ ap (λ (y : ℤ). answer epoch (triple_as (position_of d)) (point_as (point_of (position_of d) (triple_of m) y)) (motion_as (motion_of (triple_of m)))) apart
          ∙ sym (ap shifted_as (from_done epoch d asked (triple_of m) l (sym judged ∙ k)))
