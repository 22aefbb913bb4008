-- The URI of a row that is handed in for it: where the row fits it is the row's own, and it lies in the used bytes.
use Rattle.std.specs.Prelude.{◌≡◌, Bool, true, false, cond, ℕ, ◌+◌, ◌≤◌, length, eqb}
use Rattle.std.proofs.Math.Option.{some}
use Rattle.std.proofs.Common.{arith}
use Rattle.format.proofs.Laws.Cases.{by_test, from_zero_one}
use Rattle.format.specs.Uris.{type_name, header_name}
use Rattle.format.specs.Register.{Row, uri_in, implied_name}
use Rattle.format.specs.Records.{Refusal}
use Rattle.format.specs.Calls.{Book, used_bytes, is_within, sound, in_names, in_log, resolve_row, fit_alone, resolve, no_uri, uri_there}
use Rattle.format.proofs.Laws.Denials.Fits.{fit_inside, alone_fits}

-- a row that fits is told from the log, and asked for, its URI is given
module _ (b : Book) (s : sound b ≡ true) (x : Row) where
  implied_there : (n : ℕ) → uri_there (used_bytes b) (cond (eqb n 1) (in_names 0 16) (in_names 16 18)) ≡ some (implied_name n)
  unfolding type_name header_name
  implied_there n = by_test (eqb n 1) (λ e. rw e) (λ e. rw e)

  row_there : uri_there (used_bytes b) (resolve_row x) ≡ some (uri_in (used_bytes b) x)
  unfolding uri_in
  row_there = by_test x.implied (λ e. rw e (implied_there x.number)) (λ e. rw e)

  pub resolved : fit_alone b.used x ≡ true → uri_there (used_bytes b) (resolve (length b.buffer) b.used x) ≡ some (uri_in (used_bytes b) x)
  unfolding resolve sound
  resolved f = rw (s, f) row_there

-- what is given lies in the used bytes
not_inside : {P : Type 0} {x : Refusal} {p n : ℕ} → no_uri x ≡ in_log p n → P
not_inside e = from_zero_one (cc)

names_inside : {P : Type 0} (b : Bool) {p n : ℕ} → cond b (in_names 0 16) (in_names 16 18) ≡ in_log p n → P
names_inside true e = from_zero_one (cc)
names_inside false e = from_zero_one (cc)

log_place : {p n q m : ℕ} → in_log p n ≡ in_log q m → (p ≡ q) × (n ≡ m)
log_place e = (cc, cc)

pub resolved_inside : (len used : ℕ) (r : Row) (p n : ℕ) → resolve len used r ≡ in_log p n → p + n ≤ used
unfolding resolve
resolved_inside len used r p n e =
    by_test (is_within len used)
    (λ s. by_test (fit_alone used r)
    (λ f. by_test r.implied
    (λ i. names_inside (eqb r.number 1) (rw (s, f, i) at e))
    (λ i. let q = log_place (rw (s, f, i) at e) in omega (arith, q.0, q.1, (fit_inside used used r (omega arith) (alone_fits used r f)).within)))
    (λ f. not_inside (rw (s, f) at e)))
    (λ s. not_inside (rw s at e))
