-- Demand 2 for starting a logbook: its one entry is its header.
use Rattle.std.specs.Prelude.{◌≡◌, refl, true, ◌&&◌, List, [], ◌∷◌, ◌++◌, ℕ, ◌≤◌, length, take, drop, leb, eqb}
use Rattle.std.proofs.Common.{◌∙◌, subst, append-nil, arith, zero-add, leb-true, le-leb, eqb-true, length-append, length-drop, take_at, drop_at}
use Rattle.format.proofs.Laws.Cases.{by_test, from_zero_one, and_left, and_right}
use Rattle.format.specs.Bytes.{AreBytes, stored}
use Rattle.format.specs.Figures.{header_length}
use Rattle.format.specs.Uris.{header_name}
use Rattle.format.specs.Header.{header_form, header_of}
use Rattle.format.proofs.Laws.Header.{header_length_lem, header_has_form, header_gives_uuid, header_gives_free}
use Rattle.format.specs.Records.{Refusal}
use Rattle.format.specs.Calls.{sound, begun, not_begun, start}
use Rattle.format.specs.Grammar.{listed_at, implied_only, Logbook, logbook, done}
use Rattle.format.specs.Entries.{Starts}
use Rattle.format.proofs.Laws.Lists.Shapes.{shape_header}
use Rattle.format.proofs.Laws.Lists.Steps.{entries_logbook}

header_logbook : (h : List ℕ) → header_form h ≡ true → Logbook h (listed_at 0 header_name (drop 2 h) ∷ []) implied_only
header_logbook h e = subst (λ (v : List ℕ). Logbook v (listed_at 0 header_name (drop 2 h) ∷ []) implied_only) (append-nil h) (logbook h (shape_header h e) done)

module _ (uuid free buffer : List ℕ) (bytes : AreBytes uuid) (u16 : length uuid ≡ 16) (f60 : length free ≡ 60) (fits : header_length ≤ length buffer) where
  long : length (header_of uuid free) ≡ header_length
  long = header_length_lem uuid free u16 ∙ rw f60

  after : stored buffer 0 (header_of uuid free) ≡ header_of uuid free ++ drop header_length buffer
  unfolding stored
  after = rw (zero-add, long)

  first_is : take header_length (stored buffer 0 (header_of uuid free)) ≡ header_of uuid free
  first_is = rw after (take_at (header_of uuid free) (drop header_length buffer) header_length long)

  same_long_lem : length (stored buffer 0 (header_of uuid free)) ≡ length buffer
  same_long_lem = rw (after, length-append, long, length-drop) (omega arith)

  is_logbook_lem : Logbook (take header_length (stored buffer 0 (header_of uuid free))) (listed_at 0 header_name (drop 2 (header_of uuid free)) ∷ []) implied_only
  is_logbook_lem = rw first_is (header_logbook (header_of uuid free) (header_has_form uuid free u16 bytes f60))

  started_sound : sound (record { buffer = stored buffer 0 (header_of uuid free); used = header_length }) ≡ true
  unfolding sound
  started_sound = rw (le-leb header_length (length (stored buffer 0 (header_of uuid free))) (rw same_long_lem fits))

  starts_of : Starts uuid free buffer (stored buffer 0 (header_of uuid free)) header_length
  starts_of =
      record {
        used = refl;
        first = first_is;
        same_behind = rw after (drop_at (header_of uuid free) (drop header_length buffer) header_length long);
        same_long = same_long_lem;
        is_logbook = is_logbook_lem;
        lists = entries_logbook (record { buffer = stored buffer 0 (header_of uuid free); used = header_length }) started_sound (listed_at 0 header_name (drop 2 (header_of uuid free)) ∷ []) implied_only is_logbook_lem;
        gives_uuid = rw first_is (header_gives_uuid uuid free u16 bytes);
        gives_free = rw first_is (header_gives_free uuid free u16);
      }

not_begun_lem : {P : Type 0} {x : Refusal} {n : ℕ} → not_begun x ≡ begun n → P
not_begun_lem e = from_zero_one (cc)

begun_used : {m n : ℕ} → begun m ≡ begun n → m ≡ n
begun_used e = cc

pub start_exact : (uuid free buffer : List ℕ) (n : ℕ) → AreBytes uuid → (start uuid free buffer).answer ≡ begun n → Starts uuid free buffer (start uuid free buffer).buffer n
unfolding start
start_exact uuid free buffer n b e =
    by_test (eqb (length uuid) 16 && eqb (length free) 60)
    (λ h. by_test (leb header_length (length buffer))
    (λ k. let z : header_length ≡ n = begun_used (rw (h, k) at e) in
    rw (h, k, ← z) (starts_of uuid free buffer b (eqb-true _ _ (and_left (eqb (length uuid) 16) _ h)) (eqb-true _ _ (and_right (eqb (length uuid) 16) _ h)) (leb-true _ _ k)))
    (λ k. not_begun_lem (rw (h, k) at e)))
    (λ h. not_begun_lem (rw h at e))
