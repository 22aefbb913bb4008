-- An undisturbed reading in three moves lists what a reading by steps lists: the entries of demand 2.
use Rattle.std.specs.Prelude.{◌≡◌, true, false, ℕ, zero, suc, ◌≤◌, replicate}
use Rattle.std.proofs.Math.Path.{refl, sym, ap}
use Rattle.std.proofs.Common.{◌∙◌, arith}
use mathlib.Core.List.{List, [], ◌∷◌, map}
use Rattle.std.proofs.Math.ListN.{length}
use Rattle.format.proofs.Laws.Cases.{by_test, from_zero_one}
use Rattle.format.specs.Records.{refusal, padding, deleted, live, Origin, logbook}
use Rattle.format.specs.Reading.{Reading, fresh, Shown, shown, end, refused, stepped, step}
use Rattle.format.specs.Calls.{Book, sound, parted, step_on}
use Rattle.format.specs.Grammar.{Listed}
use Rattle.format.specs.Interleaving.{world, steps, ReplyOf, said, showed, listing, reply as reply_by, next as next_by, replies as replies_by}
use Rattle.format.specs.Series.{Reply, replies, ToEnd, Reads}
use Rattle.format.specs.Entries.{told, listed, entries_of}
use Rattle.format.specs.Moves.{Held, nothing, Slow, slow, fresh_slow, Told, tells, holds, Moved, moved_to, move, move_on, and_on, three_moves, AsStep, as_done, as_refused}
use Rattle.format.specs.SlowSeries.{slowly, line_listed, lines_of, lives, step_lines, MovesToEnd, Undisturbed}
use Rattle.format.proofs.Laws.Moves.{three_moves_lem}
use Rattle.format.proofs.Laws.Lists.Steps.{entries_read}

-- ---- moves that come to the end, and the steps that list the same
pub record Alike (o : Origin) (b : Book) (r : Reading) (ps : List (ReplyOf Told Slow)) : Type 0 where
  pub list : List Reply
  pub is_to_end : ToEnd list
  pub read : replies o (world b r) (replicate (length list) steps) ≡ list
  pub alike : listing lives ps ≡ listing step_lines list

module _ (o : Origin) (b : Book) (good : sound b ≡ true) where
  abbrev log : List ℕ
  log = (parted b).log

  abbrev saying : Moved → ReplyOf Told Slow
  saying m = showed m.answer m.slow

  abbrev MovesFrom : Slow → List (ReplyOf Told Slow) → Type 0
  MovesFrom s ps = replies_by o (slowly o) (world b s) (replicate (length ps) steps) ≡ ps

  first_move_lem : (s : Slow) (n : ℕ) → replies_by o (slowly o) (world b s) (replicate (suc n) steps)
      ≡ saying (move o log s) ∷ replies_by o (slowly o) (world b (move o log s).slow) (replicate n steps)
  unfolding replies_by reply_by next_by move_on
  first_move_lem s n = rw good

  first_step : (r : Reading) (n : ℕ) → replies o (world b r) (replicate (suc n) steps)
      ≡ showed (step o log r).answer (step o log r).reading ∷ replies o (world b (step o log r).reading) (replicate n steps)
  unfolding replies_by reply_by next_by step_on
  first_step r n = rw good

  -- the first reply and the others
  pub data Apart (s : Slow) (ps : List (ReplyOf Told Slow)) : Type 0 where
    apart : (ps1 : List (ReplyOf Told Slow)) → ps ≡ saying (move o log s) ∷ ps1 → MovesFrom (move o log s).slow ps1 → Apart s ps

  take_apart : (s : Slow) (ps : List (ReplyOf Told Slow)) → MovesToEnd ps → MovesFrom s ps → Apart s ps
  unfolding MovesToEnd
  take_apart s [] t e = absurd t
  take_apart s (a ∷ ps) t e =
      let d : saying (move o log s) ∷ replies_by o (slowly o) (world b (move o log s).slow) (replicate (length ps) steps) ≡ a ∷ ps =
      sym (first_move_lem s (length ps)) ∙ e in
      let x : saying (move o log s) ≡ a = cc in
      let y : replies_by o (slowly o) (world b (move o log s).slow) (replicate (length ps) steps) ≡ ps = cc in
      apart ps (ap (λ (v : ReplyOf Told Slow). v ∷ ps) (sym x)) y

  abbrev Holds : ℕ → Type 0
  Holds n = (r : Reading) (ps : List (ReplyOf Told Slow)) → length ps ≤ n → MovesToEnd ps → MovesFrom (slow r nothing) ps → Alike o b r ps

  read_first : (r r1 : Reading) (x : Shown) (rs : List Reply) → step o log r ≡ stepped x r1
      → replies o (world b r1) (replicate (length rs) steps) ≡ rs → replies o (world b r) (replicate (suc (length rs)) steps) ≡ showed x r1 ∷ rs
  read_first r r1 x rs d e = first_step r (length rs) ∙ rw (d, e)

  done_as : (n : ℕ) → Holds n → (r r1 : Reading) (x : Shown) → step o log r ≡ stepped x r1 → (ps : List (ReplyOf Told Slow)) → length ps ≤ n
      → MovesToEnd (showed (tells x) (slow r1 nothing) ∷ ps) → MovesFrom (slow r1 nothing) ps
      → Alike o b r (showed (tells x) (slow r1 nothing) ∷ ps)
  unfolding MovesToEnd ToEnd listing lives lines_of step_lines replies_by
  done_as n ih r r1 (refused y) d ps l t e = absurd t
  done_as n ih r r1 (end p) d ps l t e = record { list = showed (end p) r1 ∷ []; is_to_end = refl; read = read_first r r1 (end p) [] d refl; alike = rw t }
  done_as n ih r r1 (shown i k) d ps l t e =
      let m = ih r1 ps l t e in
      record {
        list = showed (shown i k) r1 ∷ m.list;
        is_to_end = m.is_to_end;
        read = read_first r r1 (shown i k) m.list d m.read;
        alike = rw m.alike;
      }

  -- the move that finishes
  finish : (n : ℕ) → Holds n → (r : Reading) (m : Moved) (ps : List (ReplyOf Told Slow)) → length ps ≤ n → AsStep r (step o log r) m
      → MovesToEnd (saying m ∷ ps) → MovesFrom m.slow ps → Alike o b r (saying m ∷ ps)
  unfolding MovesToEnd
  finish n ih r m ps l (as_refused y h ex em) t e = absurd (rw em at t)
  finish n ih r m ps l (as_done em) t e =
      rw em (done_as n ih r (step o log r).reading (step o log r).answer refl ps l (rw em at t) (rw em at e))

  -- a move that only takes a size or a type lists nothing
  silent : (r : Reading) (h : Held) (s : Slow) (ps : List (ReplyOf Told Slow)) → Alike o b r ps → Alike o b r (showed (holds h) s ∷ ps)
  unfolding listing lives lines_of
  silent r h s ps m = record { list = m.list; is_to_end = m.is_to_end; read = m.read; alike = m.alike }

  third : (n : ℕ) → Holds n → (r : Reading) (s : Slow) (ps : List (ReplyOf Told Slow)) → length ps ≤ suc n → MovesToEnd ps
      → AsStep r (step o log r) (move o log s) → Apart s ps → Alike o b r ps
  third n ih r s ps l t a (apart ps1 e f) = rw e (finish n ih r (move o log s) ps1 (omega (arith, ap length e)) a (rw e at t) f)

  second_as : (n : ℕ) → Holds n → (r : Reading) (s s1 : Slow) (x : Told) → move o log s ≡ moved_to x s1 → (ps1 : List (ReplyOf Told Slow))
      → length ps1 ≤ n → MovesToEnd (showed x s1 ∷ ps1) → MovesFrom s1 ps1 → AsStep r (step o log r) (and_on o log x s1) → Alike o b r (showed x s1 ∷ ps1)
  unfolding MovesToEnd and_on
  second_as n ih r s s1 (tells x) d ps1 l t f a = finish n ih r (moved_to (tells x) s1) ps1 l a t f
  second_as n ih r s s1 (holds h) d ps1 l t f a = silent r h s1 ps1 (third n ih r s1 ps1 (omega arith) t a (take_apart s1 ps1 t f))

  second : (n : ℕ) → Holds n → (r : Reading) (s : Slow) (ps : List (ReplyOf Told Slow)) → length ps ≤ suc n → MovesToEnd ps
      → AsStep r (step o log r) (and_on o log (move o log s).answer (move o log s).slow) → Apart s ps → Alike o b r ps
  second n ih r s ps l t a (apart ps1 e f) =
      rw e (second_as n ih r s (move o log s).slow (move o log s).answer refl ps1 (omega (arith, ap length e)) (rw e at t) f a)

  first_as : (n : ℕ) → Holds n → (r : Reading) (s1 : Slow) (x : Told) (ps1 : List (ReplyOf Told Slow)) → length ps1 ≤ n
      → MovesToEnd (showed x s1 ∷ ps1) → MovesFrom s1 ps1
      → AsStep r (step o log r) (and_on o log (and_on o log x s1).answer (and_on o log x s1).slow) → Alike o b r (showed x s1 ∷ ps1)
  unfolding MovesToEnd and_on
  first_as n ih r s1 (tells x) ps1 l t f a = finish n ih r (moved_to (tells x) s1) ps1 l a t f
  first_as n ih r s1 (holds h) ps1 l t f a = silent r h s1 ps1 (second n ih r s1 ps1 (omega arith) t a (take_apart s1 ps1 t f))

  first : (n : ℕ) → Holds n → (r : Reading) (ps : List (ReplyOf Told Slow)) → length ps ≤ suc n → MovesToEnd ps
      → AsStep r (step o log r) (three_moves o log r) → Apart (slow r nothing) ps → Alike o b r ps
  unfolding three_moves
  first n ih r ps l t a (apart ps1 e f) =
      rw e (first_as n ih r (move o log (slow r nothing)).slow (move o log (slow r nothing)).answer ps1 (omega (arith, ap length e)) (rw e at t) f a)

  none_left : (r : Reading) (ps : List (ReplyOf Told Slow)) → length ps ≤ 0 → MovesToEnd ps → Alike o b r ps
  unfolding MovesToEnd
  none_left r [] l t = absurd t
  none_left r (a ∷ ps) l t = absurd (omega arith)

  pub moves_alike : (n : ℕ) → Holds n
  moves_alike zero r ps l t e = none_left r ps l t
  moves_alike (suc n) r ps l t e = first n (moves_alike n) r ps l t (three_moves_lem o log r) (take_apart (slow r nothing) ps t e)

-- ---- the entries of demand 2
lines_listed : (rs : List Reply) → ToEnd rs → map line_listed (listing step_lines rs) ≡ listed rs
unfolding ToEnd listing step_lines lines_of listed told
lines_listed [] t = absurd t
lines_listed (said a ∷ rs) t = absurd t
lines_listed (showed (end p) r ∷ rs) t = rw t
lines_listed (showed (refused x) r ∷ rs) t = absurd t
lines_listed (showed (shown (padding p) n) r ∷ rs) t = lines_listed rs t
lines_listed (showed (shown (deleted p k m) n) r ∷ rs) t = lines_listed rs t
lines_listed (showed (shown (live e) n) r ∷ rs) t = ap (λ (l : List Listed). line_listed (e, n) ∷ l) (lines_listed rs t)

unsound_moves : (b : Book) (ps : List (ReplyOf Told Slow)) → sound b ≡ false → MovesToEnd ps
    → replies_by logbook (slowly logbook) (world b fresh_slow) (replicate (length ps) steps) ≡ ps → ⊥
unfolding MovesToEnd replies_by reply_by move_on
unsound_moves b [] q t e = t
unsound_moves b (said a ∷ ps) q t e = t
unsound_moves b (showed (tells (refused x)) s ∷ ps) q t e = t
unsound_moves b (showed (tells (end p)) s ∷ ps) q t e =
    from_zero_one (let d : showed (tells (refused (refusal 1 0))) fresh_slow ∷ _ ≡ showed (tells (end p)) s ∷ ps = rw q at e in cc)
unsound_moves b (showed (tells (shown i n)) s ∷ ps) q t e =
    from_zero_one (let d : showed (tells (refused (refusal 1 0))) fresh_slow ∷ _ ≡ showed (tells (shown i n)) s ∷ ps = rw q at e in cc)
unsound_moves b (showed (holds h) s ∷ ps) q t e =
    from_zero_one (let d : showed (tells (refused (refusal 1 0))) fresh_slow ∷ _ ≡ showed (holds h) s ∷ ps = rw q at e in cc)

-- an undisturbed reading in moves lists what the steps of one list, and so demand 2's entries
module _ (b : Book) (ps : List (ReplyOf Told Slow)) (u : Undisturbed b ps) where
  pub moves_steps : (r : Reads logbook b) × (listing lives ps ≡ listing step_lines r.list)
  moves_steps =
      by_test (sound b)
      (λ q. let m = moves_alike logbook b q (length ps) fresh ps (omega arith) u.is_to_end u.read in
      (record { list = m.list; is_to_end = m.is_to_end; read = m.read }, m.alike))
      (λ q. absurd (unsound_moves b ps q u.is_to_end u.read))

  pub moves_entries : map line_listed (listing lives ps) ≡ entries_of b
  moves_entries =
      let m = moves_steps in
      rw m.1 (lines_listed m.0.list m.0.is_to_end ∙ sym (entries_read b m.0))
