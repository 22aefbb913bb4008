-- What an undisturbed reading does over deleted records and padding: its moves list nothing, and its rows and count stay.
use Rattle.std.specs.Prelude.{◌≡◌, refl, false, List, [], ◌∷◌, ◌++◌, length, replicate}
use Rattle.std.proofs.Common.{sym, ap, ◌∙◌, append_assoc, arith, add-zero, add_assoc, length-append}
use Prim.Native.Nat.{ℕ, zero, suc, ◌+◌, ◌≤◌}
use Rattle.std.proofs.lemmas.List.{length-replicate}
use Rattle.format.specs.Figures.{used_limit, size_bytes}
use Rattle.format.specs.Register.{Names}
use Rattle.format.specs.Records.{padding, deleted, Origin, at_header}
use Rattle.format.specs.Reading.{Reading, no_report, shown}
use Rattle.format.specs.Grammar.{Writing}
use Rattle.format.specs.Moves.{Held, nothing, sized, Slow, slow, Told, tells, holds}
use Rattle.format.specs.Interleaving.{steps, ReplyOf, showed, listing}
use Rattle.format.specs.SlowSeries.{slowly, lines_of, lives, MovesToEnd}
use Rattle.format.proofs.Laws.Order.Items.{Piece, past_start}
use Rattle.format.proofs.Laws.Denials.Fits.{declared_later}
use Rattle.format.proofs.Laws.Order.Standing.{Stands, kept_more}
use Rattle.format.proofs.Laws.Order.Wiping.{Quiet, none, zeros, gone, quiet_piece, deleted_piece}
use Rattle.format.proofs.Laws.Order.Frames.{Sees, Fits}
use Rattle.format.proofs.Laws.Order.Middle.{Front, front, front_of, whole_deleted}
use Rattle.format.proofs.Laws.Order.Moving.{move_does, ahead, padding_move, size_move_lem, deleted_move}
use Rattle.format.proofs.Laws.Order.Induction.{wld, Runs, nil, run_move, runs_on, listing_append}
use Rattle.format.proofs.Laws.Order.Runs.{fits_more, longer}

module _ (o : Origin) (begin : Stands [] o.names) where
  -- a run over w, from r to r1
  pub record RunOver (r : Reading) (g : Names) (w : List ℕ) (r1 : Reading) : Type 0 where
    pub ps : List (ReplyOf Told Slow)
    pub lists : listing lives ps ≡ []
    pub onward : (rs : List (ReplyOf Told Slow)) → MovesToEnd rs → MovesToEnd (ps ++ rs)
    pub runs : (lo hi rest : List ℕ) → Fits o begin lo g → length lo ≡ r.position → length (lo ++ (w ++ hi)) ≤ used_limit
        → Runs o (slowly o) (wld (lo ++ (w ++ hi)) rest (slow r nothing)) (replicate (length ps) steps) ps (wld (lo ++ (w ++ hi)) rest (slow r1 nothing))

  run_none : (r : Reading) (g : Names) → RunOver r g [] r
  unfolding listing
  run_none r g = record { ps = []; lists = refl; onward = λ rs t. t; runs = λ lo hi rest f l b. nil }

  run_join : (r r1 r2 : Reading) (g g1 : Names) (w v : List ℕ) → Piece o g r.position w g1 → r1.position ≡ r.position + length w
      → RunOver r g w r1 → RunOver r1 g1 v r2 → RunOver r g (w ++ v) r2
  run_join r r1 r2 g g1 w v pc e a b =
      record {
        ps = a.ps ++ b.ps;
        lists = listing_append lives a.ps b.ps ∙ rw (a.lists, b.lists);
        onward = λ rs t. rw (append_assoc a.ps b.ps rs) (a.onward (b.ps ++ rs) (b.onward rs t));
        runs = λ lo hi rest f l n.
            let x : lo ++ ((w ++ v) ++ hi) ≡ lo ++ (w ++ (v ++ hi)) = rw (append_assoc w v hi) in
            let y : (lo ++ w) ++ (v ++ hi) ≡ lo ++ (w ++ (v ++ hi)) = append_assoc lo w (v ++ hi) in
            let n1 : length (lo ++ (w ++ (v ++ hi))) ≤ used_limit = rw x at n in
            let q = b.runs (lo ++ w) hi rest (fits_more o begin lo w g g1 r.position f l pc) (longer o begin lo w r.position l ∙ sym e) (rw y n1) in
            rw x (runs_on o (slowly o) a.ps b.ps (a.runs lo (v ++ hi) rest f l n1) (rw y at q));
      }

  run_as : (r r1 r2 : Reading) (g : Names) (w : List ℕ) → r1 ≡ r2 → RunOver r g w r1 → RunOver r g w r2
  run_as r r1 r2 g w e a = rw e at a

  abbrev pub half_held : Reading → List ℕ → List ℕ → Held
  half_held r a b = sized (r.position + length a) (r.position + (length a + length b))

  run_gone : (r : Reading) (g : Names) (a b1 : List ℕ) → Sees r r.position g → at_header o r.position ≡ false
      → Writing size_bytes a (suc (length b1)) → Front a → RunOver r g (a ++ (0 ∷ b1)) (ahead o begin r (length a + suc (length b1)))
  unfolding listing lives lines_of MovesToEnd
  run_gone r g a b1 s h w (front x c e n) =
      let r1 : Reading = ahead o begin r (length a + suc (length b1)) in
      let d : Told = tells (shown (deleted r.position (length a) (suc (length b1))) no_report) in
      record {
        ps = showed (holds (half_held r a (0 ∷ b1))) (slow r (half_held r a (0 ∷ b1))) ∷ showed d (slow r1 nothing) ∷ [];
        lists = refl;
        onward = λ rs t. t;
        runs = λ lo hi rest f l b.
            run_move o (slowly o) (lo ++ ((a ++ (0 ∷ b1)) ++ hi)) rest
            (move_does o begin (lo ++ ((a ++ (0 ∷ b1)) ++ hi)) rest (slow r nothing) (slow r (half_held r a (0 ∷ b1))) (holds (half_held r a (0 ∷ b1))) b
            (size_move_lem o begin r g g a (0 ∷ b1) (deleted r.position (length a) (suc (length b1))) s (whole_deleted o g r.position a b1 h w) lo hi f l))
            (run_move o (slowly o) (lo ++ ((a ++ (0 ∷ b1)) ++ hi)) rest
            (move_does o begin (lo ++ ((a ++ (0 ∷ b1)) ++ hi)) rest (slow r (half_held r a (0 ∷ b1))) (slow r1 nothing) d b
            (deleted_move o begin r g a b1 s h (rw e (omega arith)) n lo hi f l))
            nil);
      }

  ahead_none : (r : Reading) → r ≡ ahead o begin r 0
  ahead_none r = ap (λ (n : ℕ). record { position = n; count = r.count; table = r.table }) (sym (add-zero r.position))

  ahead_ahead : (r : Reading) (m n : ℕ) → ahead o begin (ahead o begin r m) n ≡ ahead o begin r (m + n)
  ahead_ahead r m n = ap (λ (k : ℕ). record { position = k; count = r.count; table = r.table }) (add_assoc r.position m n)

  pub ahead_sees : (r : Reading) (g : Names) (n : ℕ) → Sees r r.position g → Sees (ahead o begin r n) (r.position + n) g
  ahead_sees r g n s = record { place = refl; few = omega (arith, s.few); rows = kept_more (declared_later r.position (r.position + n) (omega arith)) s.rows }

  run_padding : (r : Reading) (g : Names) → Sees r r.position g → at_header o r.position ≡ false → RunOver r g (0 ∷ []) (ahead o begin r 1)
  unfolding listing lives lines_of MovesToEnd
  run_padding r g s h =
      let d : Told = tells (shown (padding r.position) no_report) in
      record {
        ps = showed d (slow (ahead o begin r 1) nothing) ∷ [];
        lists = refl;
        onward = λ rs t. t;
        runs =
            λ lo hi rest f l b. run_move o (slowly o) (lo ++ (0 ∷ hi)) rest
            (move_does o begin (lo ++ (0 ∷ hi)) rest (slow r nothing) (slow (ahead o begin r 1) nothing) d b (padding_move o begin r g lo hi s f l h)) nil;
      }

  pub padding_piece : (g : Names) (p : ℕ) → at_header o p ≡ false → Piece o g p (0 ∷ []) g
  padding_piece g p h = quiet_piece o g p (0 ∷ []) h (zeros 1)

  run_zeros : (n : ℕ) (r : Reading) (g : Names) → Sees r r.position g → at_header o r.position ≡ false → RunOver r g (replicate n 0) (ahead o begin r n)
  run_zeros zero r g s h = run_as r r (ahead o begin r 0) g [] (ahead_none r) (run_none r g)
  run_zeros (suc n) r g s h =
      let e : 1 + n ≡ suc n = omega arith in
      let q : RunOver r g (0 ∷ replicate n 0) (ahead o begin (ahead o begin r 1) n) =
      run_join r (ahead o begin r 1) (ahead o begin (ahead o begin r 1) n) g g (0 ∷ []) (replicate n 0) (padding_piece g r.position h) refl
      (run_padding r g s h)
      (run_zeros n (ahead o begin r 1) g (ahead_sees r g 1 s) (past_start o (r.position + 1) (omega arith))) in
      run_as r (ahead o begin (ahead o begin r 1) n) (ahead o begin r (suc n)) g (0 ∷ replicate n 0) (ahead_ahead r 1 n ∙ ap (λ (k : ℕ). ahead o begin r k) e) q

  -- 81 80 00 and zeros, worn down to 81 00 00, to 00 00 00: whatever is left of it
  pub run_quiet : (w : List ℕ) → Quiet w → (r : Reading) (g : Names) → Sees r r.position g → at_header o r.position ≡ false
      → RunOver r g w (ahead o begin r (length w))
  run_quiet w none r g s h = run_as r r (ahead o begin r 0) g [] (ahead_none r) (run_none r g)
  run_quiet w (zeros n) r g s h =
      run_as r (ahead o begin r n) (ahead o begin r (length (replicate n 0))) g (replicate n 0)
      (ap (λ (k : ℕ). ahead o begin r k) (sym (length-replicate {A = ℕ} n 0))) (run_zeros n r g s h)
  run_quiet w (gone a b1 v u q) r g s h =
      let m : ℕ = length a + suc (length b1) in
      let lm : length (a ++ (0 ∷ b1)) ≡ m = length-append a (0 ∷ b1) in
      let lw : length ((a ++ (0 ∷ b1)) ++ v) ≡ m + length v = length-append (a ++ (0 ∷ b1)) v ∙ rw lm in
      let t : RunOver r g ((a ++ (0 ∷ b1)) ++ v) (ahead o begin (ahead o begin r m) (length v)) =
      run_join r (ahead o begin r m) (ahead o begin (ahead o begin r m) (length v)) g g (a ++ (0 ∷ b1)) v (deleted_piece o g r.position a b1 h u) (rw lm)
      (run_gone r g a b1 s h u (front_of a (0 ∷ b1) (omega arith) u))
      (run_quiet v q (ahead o begin r m) g (ahead_sees r g m s) (past_start o (r.position + m) (omega arith))) in
      run_as r (ahead o begin (ahead o begin r m) (length v)) (ahead o begin r (length ((a ++ (0 ∷ b1)) ++ v))) g ((a ++ (0 ∷ b1)) ++ v)
      (ahead_ahead r m (length v) ∙ ap (λ (k : ℕ). ahead o begin r k) (sym lw)) t

  -- to any reading that is as far
  pub run_to : (r r1 : Reading) (g : Names) (w : List ℕ) → ahead o begin r (length w) ≡ r1 → RunOver r g w (ahead o begin r (length w)) → RunOver r g w r1
  run_to r r1 g w e a = run_as r (ahead o begin r (length w)) r1 g w e a
