-- Each call, step and start is refused by the first of its rules that is due, and then changes nothing.
use Rattle.std.specs.Prelude.{◌≡◌, Bool, true, false, ◌&&◌, ◌||◌, cond, ℕ, zero, suc, ◌+◌, ◌-◌, ◌≤◌, drop}
use Rattle.std.proofs.Math.Path.{refl, sym, ap}
use Rattle.std.proofs.Common.{◌∙◌, arith, take-append-drop, length-take-le}
use Rattle.std.proofs.lemmas.Bool.{false≢true}
use Rattle.std.proofs.Math.Bool.{not}
use mathlib.Core.List.{List, [], ◌∷◌, ◌++◌}
use Rattle.std.proofs.Math.Option.{Option, none, some, get_or}
use borrow.Author.Tests.{le-ltb, le-leb, lt-leb, leb-true, ne_eqb}
use Rattle.std.proofs.Math.ListN.{length, length-drop}
use Rattle.std.proofs.Math.Dec.{leb, eqb}
use Rattle.format.proofs.Laws.Cases.{by_test, by_order, and_left, and_right}
use Rattle.format.specs.Figures.{used_limit, number_bytes, number_limit, data_limit, header_length}
use Rattle.format.specs.Integers.{write_integer}
use Rattle.format.specs.Uris.{type_name, is_uri, is_reserved, appendable}
use Rattle.format.specs.Register.{is_held, Names, named_number, number_for, free_from}
use Rattle.format.specs.Records.{Refusal, refusal, Kind, plain, header, assignment, padding, deleted, live, Got, bad, got, room_for, assignable, Origin, at_header, item}
use Rattle.format.specs.Reading.{Walked, whole, stop, walk_all, Look, passed, halt, here, look_at, Reading, fits, moved, at_end, step_at, names_in, step}
use Rattle.format.specs.Calls.{Book, used_bytes, Parts, parted, book_of, sound, Call, append, assign, erase, wipe, Answer, appended, Left, deny, record_of, write, append_new, append_held, append_walked, assign_under, assign_walked, may_append, may_assign, erase_entry, erase_item, erase_looked, wipe_item, wipe_looked, call, call_on, step_on, start}
use Rattle.format.specs.Refusals.{Rule, rule, first_of, InTable, header_rules, element_rules, item_rules, refusal_of_got, walk_refusal, walks_to, is_over, bad_request, nothing_there, erases_fixed, is_fixed_kind, asked_place, needs_assignment, no_type_number, register_full, assignment_of, records_of, does_not_fit, register_at, call_rules, refusal_of_answer, OwnAnswer, appends, assigns, erases, wipes, step_rules, refusal_of_shown, start_rules, refusal_of_started}
use Rattle.format.proofs.Laws.Denials.Items.{first_on, first_here, none_some, over_not, not_and, too_many, item_refusal, Numbered, numbered_rule, numbered, numbered_none, first_numbered, item_numbered}
use Rattle.format.proofs.Laws.Denials.Walks.{walks_mean, refused_numbered}

-- ---- each condition is the denial of what the call tests
pub over_sound : (b : Book) → is_over b ≡ not (sound b)
unfolding is_over sound
over_sound b =
    rw (over_not b.used (length b.buffer), over_not b.used used_limit)
    (not_and (leb b.used (length b.buffer)) (leb b.used used_limit))

bad_append : (u d : List ℕ) → bad_request (append u d) ≡ not (may_append u d)
unfolding bad_request may_append appendable
bad_append u d = rw (over_not (length d) data_limit) (go (leb (length d) data_limit) (is_uri u) (is_reserved u))
  where
    go : (a b c : Bool) → (not a || (not b || c)) ≡ not (a && (b && not c))
    go false b c = refl
    go true false c = refl
    go true true false = refl
    go true true true = refl

bad_assign : (n : ℕ) (u : List ℕ) → bad_request (assign n u) ≡ not (may_assign n u)
unfolding bad_request may_assign
bad_assign n u = rw (zero_not n, over_not n number_limit) (go (leb 1 n) (leb n number_limit) (assignable n u))
  where
    zero_not : (m : ℕ) → eqb m 0 ≡ not (leb 1 m)
    zero_not zero = refl
    zero_not (suc m) = rw (ne_eqb (suc m) 0 (λ e. omega arith), le-leb 1 (suc m) (omega arith))

    go : (a b c : Bool) → (not a || (not b || not c)) ≡ not (a && (b && c))
    go a b c = rw (not_and b c) (not_and a (b && c))

-- ---- what a call does that has these rules: the first is its refusal, and then the parts stay; else it gives its own answer
data Verdict (c : Call) (s : Parts) : Option Refusal → Left → Type 0 where
  denies : (x : Refusal) → Verdict c s (some x) (deny x s)
  does : (a : Answer) (t : Parts) → OwnAnswer c a → Verdict c s none (a, t)

module _ (b : Book) (h : sound b ≡ true) where
  used_inside : b.used ≤ length b.buffer
  unfolding sound
  used_inside = leb-true b.used (length b.buffer) (and_left (leb b.used (length b.buffer)) (leb b.used used_limit) h)

  used_few : b.used ≤ used_limit
  unfolding sound
  used_few = leb-true b.used used_limit (and_right (leb b.used (length b.buffer)) (leb b.used used_limit) h)

  pub used_length : length (used_bytes b) ≡ b.used
  used_length = length-take-le b.used b.buffer used_inside

  pub not_over_lem : is_over b ≡ false
  not_over_lem = over_sound b ∙ ap not h

  nothing_fits : does_not_fit [] b ≡ false
  unfolding does_not_fit
  nothing_fits =
      let a = used_inside in
      let c = used_few in
      rw (le-ltb (length b.buffer) (b.used + 0) (omega arith), le-ltb used_limit (b.used + 0) (omega arith))

  fit_not : (w : List ℕ) → does_not_fit w b ≡ not (leb (length w) (length (drop b.used b.buffer)) && leb (length (used_bytes b) + length w) used_limit)
  unfolding does_not_fit
  fit_not w =
      rw (used_length, over_not (b.used + length w) used_limit, over_not (b.used + length w) (length b.buffer), inside)
      (not_and (leb (length w) (length (drop b.used b.buffer))) (leb (b.used + length w) used_limit))
    where
      inside : leb (b.used + length w) (length b.buffer) ≡ leb (length w) (length (drop b.used b.buffer))
      inside =
          let a = used_inside in
          let e : length (drop b.used b.buffer) ≡ length b.buffer - b.used = length-drop b.used b.buffer in
          by_order (length b.buffer) (b.used + length w)
          (λ l. rw (lt-leb (b.used + length w) (length b.buffer) l, lt-leb (length w) (length (drop b.used b.buffer)) (omega arith)))
          (λ l. rw (le-leb (b.used + length w) (length b.buffer) l, le-leb (length w) (length (drop b.used b.buffer)) (omega arith)))

  write_verdict : (c : Call) (off : ℕ) (w : List ℕ) → ((p n : ℕ) → OwnAnswer c (appended p n))
      → Verdict c (parted b) (cond (does_not_fit w b) (some (refusal 12 b.used)) none) (write off w (parted b))
  unfolding write parted
  write_verdict c off w own =
      by_test (leb (length w) (length (drop b.used b.buffer)) && leb (length (used_bytes b) + length w) used_limit)
      (λ f. rw (fit_not w, f) (does _ _ (own _ _)))
      (λ f. rw (fit_not w, f, used_length) (denies _))

  full_verdict : (c : Call) → Verdict c (parted b) (some (refusal 7 b.used)) (deny (refusal 7 (length (parted b).log)) (parted b))
  unfolding parted
  full_verdict c = rw used_length (denies _)

  -- the rules behind the walk of an append or an assignment that found the register g
  abbrev writing_rules : Call → Names → List Rule
  writing_rules c g =
      rule 11 0 (no_type_number c g) ∷ rule 7 b.used (register_full c g) ∷ rule 12 b.used (does_not_fit (records_of c g) b) ∷ []

  assign_stage : (g : Names) (n : ℕ) (u : List ℕ) (x : Option ℕ) → number_for type_name g ≡ x
      → Verdict (assign n u) (parted b) (first_of (writing_rules (assign n u) g)) (assign_under x g n u (parted b))
  unfolding first_of needs_assignment no_type_number register_full records_of assignment_of assign_under
  assign_stage g n u none e = rw e (denies _)
  assign_stage g n u (some t) e =
      by_test (room_for n u g)
      (λ f. rw (e, too_many n u g, f) (write_verdict (assign n u) 0 (record_of t (write_integer number_bytes n ++ u)) (assigns n u)))
      (λ f. rw (e, too_many n u g, f) (full_verdict (assign n u)))

  new_stage : (g : Names) (u d : List ℕ) → number_for u g ≡ none → (x : Option ℕ) → number_for type_name g ≡ x
      → Verdict (append u d) (parted b) (first_of (writing_rules (append u d) g)) (append_new x g u d (parted b))
  unfolding first_of needs_assignment no_type_number register_full records_of assignment_of append_new
  new_stage g u d e none q = rw (e, q) (denies _)
  new_stage g u d e (some t) q =
      by_test (room_for (free_from named_number 1 g) u g)
      (λ f. rw (e, q, too_many (free_from named_number 1 g) u g, f) (write_verdict (append u d) _ _ (appends u d)))
      (λ f. rw (e, q, too_many (free_from named_number 1 g) u g, f) (full_verdict (append u d)))

  append_stage : (g : Names) (u d : List ℕ) (x : Option ℕ) → number_for u g ≡ x
      → Verdict (append u d) (parted b) (first_of (writing_rules (append u d) g)) (append_held x g u d (parted b))
  unfolding first_of needs_assignment no_type_number register_full records_of append_held
  append_stage g u d none e = new_stage g u d e (number_for type_name g) refl
  append_stage g u d (some n) e = rw e (write_verdict (append u d) 0 (record_of n d) (appends u d))

  module _ (o : Origin) where
    append_walked_lem : (u d : List ℕ) → may_append u d ≡ true → (v : Walked) → walk_all o (used_bytes b) ≡ v
        → Verdict (append u d) (parted b) (first_of (call_rules o (append u d) b)) (append_walked v u d (parted b))
    unfolding first_of call_rules walk_refusal nothing_there erases_fixed register_at append_walked
    append_walked_lem u d m (stop r) e = rw (not_over_lem, bad_append u d, m, e) (denies r)
    append_walked_lem u d m (whole g) e = rw (not_over_lem, bad_append u d, m, e) (append_stage g u d (number_for u g) refl)

    assign_walked_lem : (n : ℕ) (u : List ℕ) → may_assign n u ≡ true → (v : Walked) → walk_all o (used_bytes b) ≡ v
        → Verdict (assign n u) (parted b) (first_of (call_rules o (assign n u) b)) (assign_walked v n u (parted b))
    unfolding first_of call_rules walk_refusal nothing_there erases_fixed register_at assign_walked
    assign_walked_lem n u m (stop r) e = rw (not_over_lem, bad_assign n u, m, e) (denies r)
    assign_walked_lem n u m (whole g) e = rw (not_over_lem, bad_assign n u, m, e) (assign_stage g n u (number_for type_name g) refl)

    erase_entry_lem : (q t : ℕ) (k : Kind) → Verdict (erase q) (parted b) (cond (is_fixed_kind k) (some (refusal 9 q)) none) (erase_entry k q t (parted b))
    unfolding erase_entry
    erase_entry_lem q t plain = does _ _ (erases q t)
    erase_entry_lem q t header = denies _
    erase_entry_lem q t (assignment n a u) = denies _

    erase_looked_lem : (q : ℕ) (v : Look) → look_at o q (used_bytes b) ≡ v
        → Verdict (erase q) (parted b) (first_of (call_rules o (erase q) b)) (erase_looked q v (parted b))
    unfolding first_of call_rules bad_request walk_refusal nothing_there erases_fixed asked_place needs_assignment no_type_number register_full records_of erase_looked erase_item
    erase_looked_lem q passed e = rw (not_over_lem, e) (denies _)
    erase_looked_lem q (halt r) e = rw (not_over_lem, e) (denies r)
    erase_looked_lem q (here (padding p)) e = rw (not_over_lem, e) (denies _)
    erase_looked_lem q (here (deleted p k n)) e = rw (not_over_lem, e) (denies _)
    erase_looked_lem q (here (live x)) e = rw (not_over_lem, e, nothing_fits) (erase_entry_lem q x.type_place x.kind)

    wipe_looked_lem : (q m : ℕ) (v : Look) → look_at o q (used_bytes b) ≡ v
        → Verdict (wipe q m) (parted b) (first_of (call_rules o (wipe q m) b)) (wipe_looked q m v (parted b))
    unfolding first_of call_rules bad_request walk_refusal nothing_there erases_fixed asked_place needs_assignment no_type_number register_full records_of wipe_looked wipe_item
    wipe_looked_lem q m passed e = rw (not_over_lem, e) (denies _)
    wipe_looked_lem q m (halt r) e = rw (not_over_lem, e) (denies r)
    wipe_looked_lem q m (here (padding p)) e = rw (not_over_lem, e) (denies _)
    wipe_looked_lem q m (here (live x)) e = rw (not_over_lem, e) (denies _)
    wipe_looked_lem q m (here (deleted p k n)) e = rw (not_over_lem, e, nothing_fits) (does _ _ (wipes q m _))

    bad_verdict : (c : Call) → bad_request c ≡ true → Verdict c (parted b) (first_of (call_rules o c b)) (deny (refusal 10 0) (parted b))
    unfolding first_of call_rules
    bad_verdict c e = rw (not_over_lem, e) (denies _)

    verdict : (c : Call) → Verdict c (parted b) (first_of (call_rules o c b)) (call o c (parted b))
    unfolding call parted
    verdict (append u d) =
        by_test (may_append u d)
        (λ m. rw m (append_walked_lem u d m (walk_all o (used_bytes b)) refl))
        (λ m. rw m (bad_verdict (append u d) (bad_append u d ∙ ap not m)))
    verdict (assign n u) =
        by_test (may_assign n u)
        (λ m. rw m (assign_walked_lem n u m (walk_all o (used_bytes b)) refl))
        (λ m. rw m (bad_verdict (assign n u) (bad_assign n u ∙ ap not m)))
    verdict (erase q) = erase_looked_lem q (look_at o q (used_bytes b)) refl
    verdict (wipe q m) = wipe_looked_lem q m (look_at o q (used_bytes b)) refl

  book_back : book_of (parted b) ≡ b
  unfolding book_of parted
  book_back = rw (take-append-drop b.used b.buffer, used_length)

verdict_refusal : (c : Call) (s : Parts) (f : Option Refusal) (l : Left) → Verdict c s f l → refusal_of_answer l.0 ≡ f
verdict_refusal c s f l (denies x) = refl
verdict_refusal c s f l (does a t own) = unrefused c a own
  where
    unrefused : (k : Call) (y : Answer) → OwnAnswer k y → refusal_of_answer y ≡ none
    unrefused k y (appends u d p n) = refl
    unrefused k y (assigns m u p n) = refl
    unrefused k y (erases q p) = refl
    unrefused k y (wipes q m n) = refl

verdict_own : (c : Call) (s : Parts) (f : Option Refusal) (l : Left) → Verdict c s f l → refusal_of_answer l.0 ≡ none → OwnAnswer c l.0
verdict_own c s f l (denies x) e = none_some (sym e)
verdict_own c s f l (does a t own) e = own

verdict_keeps : (c : Call) (s : Parts) (f : Option Refusal) (l : Left) (x : Refusal) → Verdict c s f l → f ≡ some x → l.1 ≡ s
verdict_keeps c s f l x (denies y) e = refl
verdict_keeps c s f l x (does a t own) e = none_some e

-- ---- the calls
module _ (o : Origin) (c : Call) (b : Book) where
  pub call_refusal : refusal_of_answer (call_on o c b).answer ≡ first_of (call_rules o c b)
  unfolding call_on call_rules
  call_refusal =
      by_test (sound b)
      (λ h. rw h (verdict_refusal c (parted b) (first_of (call_rules o c b)) (call o c (parted b)) (verdict b h o c)))
      (λ h. rw h (sym (first_here _ _ (over_sound b ∙ ap not h))))

  pub call_own : refusal_of_answer (call_on o c b).answer ≡ none → OwnAnswer c (call_on o c b).answer
  unfolding call_on
  call_own =
      by_test (sound b)
      (λ h. rw h (verdict_own c (parted b) (first_of (call_rules o c b)) (call o c (parted b)) (verdict b h o c)))
      (λ h. rw h (λ e. none_some (sym e)))

  pub call_keeps_lem : (x : Refusal) → refusal_of_answer (call_on o c b).answer ≡ some x → (call_on o c b).book ≡ b
  unfolding call_on
  call_keeps_lem x e =
      by_test (sound b)
      (λ h. rw (h, verdict_keeps c (parted b) (first_of (call_rules o c b)) (call o c (parted b)) x (verdict b h o c) (sym call_refusal ∙ e)) (book_back b h))
      (λ h. rw h)

  walk_numbered : (x : Option Refusal) → walk_refusal o c (used_bytes b) ≡ x → is_held x ≡ true → InTable (get_or x (refusal 0 0))
  walk_numbered none e h = absurd (false≢true h)
  walk_numbered (some r) e h = refused_numbered o (walks_to c (used_bytes b)) (used_bytes b) r ((walks_mean o c (used_bytes b) r).0 e)

  call_numbers_lem : Numbered (call_rules o c b)
  unfolding call_rules
  call_numbers_lem =
      numbered 1 0 _ _ refl
      (numbered 10 0 _ _ refl
      (numbered_rule _ _ (walk_numbered (walk_refusal o c (used_bytes b)) refl)
      (numbered 8 _ _ _ refl
      (numbered 9 _ _ _ refl
      (numbered 11 0 _ _ refl
      (numbered 7 _ _ _ refl
      (numbered 12 _ _ _ refl numbered_none)))))))

  pub call_numbered : (x : Refusal) → refusal_of_answer (call_on o c b).answer ≡ some x → InTable x
  call_numbered x e = first_numbered (call_rules o c b) x call_numbers_lem (sym call_refusal ∙ e)

-- ---- a step
pub moved_refusal : (v : Got) (r : Reading) → refusal_of_shown (moved v r).answer ≡ refusal_of_got v
unfolding moved
moved_refusal (bad x) r = refl
moved_refusal (got i n h) r = refl

pub moved_keeps : (v : Got) (r : Reading) (x : Refusal) → refusal_of_shown (moved v r).answer ≡ some x → (moved v r).reading ≡ r
unfolding moved
moved_keeps (bad y) r x e = refl
moved_keeps (got i n h) r x e = none_some e

module _ (o : Origin) where
  at_refusal : (g : Names) (l : List ℕ) (r : Reading) → refusal_of_shown (step_at o g l r).answer ≡ first_of (item_rules o g r.position l)
  unfolding step_at at_end first_of item_rules header_rules element_rules
  at_refusal g [] r = by_test (at_header o r.position) (λ h. rw h) (λ h. rw h)
  at_refusal g (x ∷ xs) r = moved_refusal (item o g r.position x xs) r ∙ item_refusal o g r.position x xs

  at_keeps : (g : Names) (l : List ℕ) (r : Reading) (x : Refusal) → refusal_of_shown (step_at o g l r).answer ≡ some x → (step_at o g l r).reading ≡ r
  unfolding step_at at_end
  at_keeps g [] r x e = refl
  at_keeps g (y ∷ ys) r x e = moved_keeps (item o g r.position y ys) r x e

  module _ (b : Book) (r : Reading) where
    fit_refusal : sound b ≡ true → refusal_of_shown (step o (used_bytes b) r).answer ≡ first_of (step_rules o b r)
    unfolding step step_rules
    fit_refusal h =
        by_test (fits r b.used)
        (λ f. rw (used_length b h, f)
        (at_refusal (names_in (used_bytes b) r) (drop r.position (used_bytes b)) r ∙ sym (first_on _ _ (not_over_lem b h) ∙ first_on _ _ refl)))
        (λ f. rw (used_length b h, f) (sym (first_on _ _ (not_over_lem b h) ∙ first_here _ _ refl)))

    pub step_refusal : refusal_of_shown (step_on o b r).answer ≡ first_of (step_rules o b r)
    unfolding step_on parted step_rules
    step_refusal = by_test (sound b) (λ h. rw h (fit_refusal h)) (λ h. rw h (sym (first_here _ _ (over_sound b ∙ ap not h))))

    fit_keeps : (x : Refusal) → refusal_of_shown (step o (used_bytes b) r).answer ≡ some x → (step o (used_bytes b) r).reading ≡ r
    unfolding step
    fit_keeps x =
        by_test (fits r (length (used_bytes b)))
        (λ f. rw f (at_keeps (names_in (used_bytes b) r) (drop r.position (used_bytes b)) r x))
        (λ f. rw f (λ e. refl))

    -- "A refused step hands the reading back as it came"
    pub step_keeps_lem : (x : Refusal) → refusal_of_shown (step_on o b r).answer ≡ some x → (step_on o b r).reading ≡ r
    unfolding step_on parted
    step_keeps_lem x = by_test (sound b) (λ h. rw h (fit_keeps x)) (λ h. rw h (λ e. refl))

    pub step_numbered : (x : Refusal) → refusal_of_shown (step_on o b r).answer ≡ some x → InTable x
    unfolding step_rules
    step_numbered x e =
        first_numbered (step_rules o b r) x
        (numbered 1 0 _ _ refl (numbered 13 0 _ _ refl (item_numbered o (names_in (used_bytes b) r) r.position (drop r.position (used_bytes b)))))
        (sym step_refusal ∙ e)

-- ---- starting
module _ (uuid free buffer : List ℕ) where
  pub start_refusal : refusal_of_started (start uuid free buffer).answer ≡ first_of (start_rules uuid free buffer)
  unfolding start start_rules first_of
  start_refusal =
      rw (not_and (eqb (length uuid) 16) (eqb (length free) 60), over_not header_length (length buffer))
      (by_test (eqb (length uuid) 16 && eqb (length free) 60)
      (λ h. by_test (leb header_length (length buffer)) (λ f. rw (h, f)) (λ f. rw (h, f)))
      (λ h. rw h))

  pub start_keeps_lem : (x : Refusal) → refusal_of_started (start uuid free buffer).answer ≡ some x → (start uuid free buffer).buffer ≡ buffer
  unfolding start
  start_keeps_lem x =
      by_test (eqb (length uuid) 16 && eqb (length free) 60)
      (λ h. by_test (leb header_length (length buffer)) (λ f. rw (h, f) (λ e. none_some e)) (λ f. rw (h, f) (λ e. refl)))
      (λ h. rw h (λ e. refl))

  pub start_numbered : (x : Refusal) → refusal_of_started (start uuid free buffer).answer ≡ some x → InTable x
  unfolding start_rules
  start_numbered x e =
      first_numbered (start_rules uuid free buffer) x (numbered 10 0 _ _ refl (numbered 12 0 _ _ refl numbered_none)) (sym start_refusal ∙ e)
