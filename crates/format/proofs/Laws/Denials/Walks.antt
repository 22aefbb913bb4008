-- A walk is refused where an item that it comes to is refused by its rules, and only there.
use Rattle.std.specs.Prelude.{◌≡◌, true, false, ◌↔◌, take, drop}
use Rattle.std.proofs.Math.Path.{refl}
use Rattle.std.proofs.Common.{sym, ap, ◌∙◌, suc-add, add-suc, length-append, length-drop, take-append-drop, length-take-le}
use mathlib.Core.List.{List, [], ◌∷◌, ◌++◌, append-nil}
use Rattle.std.proofs.Math.Option.{some}
use Prim.Native.Nat.{ℕ, zero, suc, ◌+◌, ◌-◌, ◌≤◌}
use native.Mathlib.Omega.{arith}
use Rattle.std.proofs.Math.Nat.{add-zero, zero-add}
use Rattle.std.proofs.Math.ListN.{length}
use Rattle.format.proofs.Laws.Cases.{by_test, from_zero_one}
use Rattle.format.specs.Register.{Names}
use Rattle.format.proofs.Laws.Register.{some_some}
use Rattle.format.specs.Records.{Refusal, refusal, Item, Got, bad, got, Origin, at_header, item}
use Rattle.format.specs.Reading.{Walked, whole, stop, walk, walk_all, Look, passed, halt, here, look, look_at}
use Rattle.format.specs.Calls.{Call, append, assign, erase, wipe}
use Rattle.format.specs.Refusals.{first_of, InTable, header_rules, element_rules, item_rules, refusal_of_got, Passes, over, passing, RefusedAt, refused_at, FoundAt, found_at, refusal_of_walk, refusal_of_look, walk_refusal, walks_to}
use Rattle.format.proofs.Laws.Order.Items.{past_start, item_exact, item_more, walk_nil, First, first, walk_first, walk_skip, walk_got, walk_bad, not_stop, walk_append, look_here, look_on, look_bad, look_early, skip_inside, item_cut, walk_start, look_start, Spot, spot, look_spot}
use Rattle.format.proofs.Laws.Denials.Items.{none_some, item_refusal, first_numbered, item_numbered}

module _ (o : Origin) where
  -- a is walked over, at most d bytes, and the item behind it is refused
  data Blocked (d k : ℕ) (g : Names) (p : ℕ) (seg : List ℕ) (r : Refusal) : Type 0 where
    blocked : (a : List ℕ) (x : ℕ) (xs : List ℕ) (g1 : Names) → seg ≡ a ++ (x ∷ xs) → length a ≤ d → walk o k g p a ≡ whole g1
        → item o g1 (p + length a) x xs ≡ bad r
        → Blocked d k g p seg r

  blocked_here : (d : ℕ) (g : Names) (p x : ℕ) (xs : List ℕ) (r : Refusal) → item o g p x xs ≡ bad r → Blocked d 0 g p (x ∷ xs) r
  unfolding walk
  blocked_here d g p x xs r e = blocked [] x xs g refl (omega arith) refl (rw add-zero e)

  blocked_up : (d k : ℕ) (g : Names) (p x : ℕ) (xs : List ℕ) (r : Refusal) → Blocked d k g (suc p) xs r → Blocked (suc d) (suc k) g p (x ∷ xs) r
  unfolding walk
  blocked_up d k g p x xs r (blocked a y ys g1 e l w b) = blocked (x ∷ a) y ys g1 (rw e) (omega arith) w (rw (add-suc, ← suc-add) b)

  blocked_on : (d n : ℕ) (g h : Names) (p x : ℕ) (xs : List ℕ) (i : Item) (r : Refusal) → item o g p x xs ≡ got i n h → Blocked d n h (suc p) xs r
      → Blocked (suc d) 0 g p (x ∷ xs) r
  blocked_on d n g h p x xs i r q (blocked a y ys g1 e l w b) =
      let f : item o g p x a ≡ got i n h = item_cut o g h p x n a (y ∷ ys) i (rw e at q) (skip_inside o n h g1 (suc p) a w) in
      blocked (x ∷ a) y ys g1 (rw e) (omega arith) (walk_got o g h p x n a i f ∙ w) (rw (add-suc, ← suc-add) b)

  -- ---- walks
  stop_refusal : {r s : Refusal} → stop r ≡ stop s → r ≡ s
  stop_refusal e = cc

  walk_next : (g : Names) (p x : ℕ) (xs : List ℕ) (r : Refusal)
      → ((n : ℕ) (h : Names) → n ≤ length xs → walk o n h (suc p) xs ≡ stop r → Blocked (length xs) n h (suc p) xs r)
      → walk o 0 g p (x ∷ xs) ≡ stop r → (v : Got) → item o g p x xs ≡ v → Blocked (suc (length xs)) 0 g p (x ∷ xs) r
  walk_next g p x xs r ih e (bad s) q = blocked_here (suc (length xs)) g p x xs r (q ∙ ap bad (stop_refusal (sym (walk_bad o g p x s xs q) ∙ e)))
  walk_next g p x xs r ih e (got i n h) q =
      blocked_on (length xs) n g h p x xs i r q (ih n h (item_exact o g h p x n xs i q).inside (sym (walk_got o g h p x n xs i q) ∙ e))

  walk_blocked : (k : ℕ) (g : Names) (p : ℕ) (seg : List ℕ) (r : Refusal) → k ≤ length seg → walk o k g p seg ≡ stop r
      → Blocked (length seg) k g p seg r
  unfolding walk
  walk_blocked zero g p [] r l e = not_stop o (sym e)
  walk_blocked (suc k) g p [] r l e = absurd (omega arith)
  walk_blocked (suc k) g p (x ∷ xs) r l e = blocked_up (length xs) k g p x xs r (walk_blocked k g (suc p) xs r (omega arith) e)
  walk_blocked zero g p (x ∷ xs) r l e = walk_next g p x xs r (λ n h. walk_blocked n h (suc p) xs r) e (item o g p x xs) refl

  -- ---- looks
  halt_refusal : {r s : Refusal} → halt r ≡ halt s → r ≡ s
  halt_refusal e = cc

  not_halted : {P : Type 0} {r : Refusal} → passed ≡ halt r → P
  not_halted e = from_zero_one (cc)

  not_here : {P : Type 0} {i : Item} {r : Refusal} → here i ≡ halt r → P
  not_here e = from_zero_one (cc)

  halted_here : (d : ℕ) (g : Names) (p x : ℕ) (xs : List ℕ) (r s : Refusal) → item o g p x xs ≡ bad s → look o d 0 g p (x ∷ xs) ≡ halt r
      → Blocked d 0 g p (x ∷ xs) r
  halted_here d g p x xs r s q e = blocked_here d g p x xs r (q ∙ ap bad (halt_refusal (sym (look_bad o d g p x s xs q) ∙ e)))

  look_first : (g : Names) (p x : ℕ) (xs : List ℕ) (r : Refusal) → look o 0 0 g p (x ∷ xs) ≡ halt r → (v : Got) → item o g p x xs ≡ v
      → Blocked 0 0 g p (x ∷ xs) r
  look_first g p x xs r e (bad s) q = halted_here 0 g p x xs r s q e
  look_first g p x xs r e (got i n h) q = not_here (sym (look_here o g h p x n xs i q) ∙ e)

  look_next : (d : ℕ) (g : Names) (p x : ℕ) (xs : List ℕ) (r : Refusal)
      → ((n : ℕ) (h : Names) → look o d n h (suc p) xs ≡ halt r → Blocked d n h (suc p) xs r)
      → look o (suc d) 0 g p (x ∷ xs) ≡ halt r → (v : Got) → item o g p x xs ≡ v → Blocked (suc d) 0 g p (x ∷ xs) r
  look_next d g p x xs r ih e (bad s) q = halted_here (suc d) g p x xs r s q e
  look_next d g p x xs r ih e (got i n h) q = blocked_on d n g h p x xs i r q (ih n h (sym (look_on o d g h p x n xs i q) ∙ e))

  look_blocked : (d k : ℕ) (g : Names) (p : ℕ) (seg : List ℕ) (r : Refusal) → look o d k g p seg ≡ halt r → Blocked d k g p seg r
  unfolding look
  look_blocked d k g p [] r e = not_halted e
  look_blocked zero (suc k) g p (x ∷ xs) r e = not_halted e
  look_blocked (suc d) (suc k) g p (x ∷ xs) r e = blocked_up d k g p x xs r (look_blocked d k g (suc p) xs r e)
  look_blocked zero zero g p (x ∷ xs) r e = look_first g p x xs r e (item o g p x xs) refl
  look_blocked (suc d) zero g p (x ∷ xs) r e = look_next d g p x xs r (λ n h. look_blocked d n h (suc p) xs r) e (item o g p x xs) refl

  -- ---- a walk that comes to its end has passed over whole items
  pass_none : (g h : Names) (p : ℕ) → walk o 0 g p [] ≡ whole h → Passes o g p [] h
  pass_none g h p e = rw (← (walk_nil o g h p e)) (over g p)

  pass_first : (g h : Names) (p x m : ℕ) (xs : List ℕ)
      → ((k : Names) (q : ℕ) (ys : List ℕ) → length ys ≤ m → walk o 0 k q ys ≡ whole h → Passes o k q ys h) → length xs ≤ m → First o g p x xs h
      → Passes o g p (x ∷ xs) h
  pass_first g h p x m xs ih l (first i n k q w) =
      let s : n ≤ length xs = skip_inside o n k h (suc p) xs w in
      let z : length (take n xs) ≡ n = length-take-le n xs s in
      let e : take n xs ++ drop n xs ≡ xs = take-append-drop n xs in
      let c : item o g p x (take n xs) ≡ got i n k = item_cut o g k p x n (take n xs) (drop n xs) i (rw e q) (omega arith) in
      let d : walk o n k (suc p) (take n xs ++ drop n xs) ≡ whole h = rw e w in
      let v : walk o 0 k (p + suc n) (drop n xs) ≡ whole h = rw add-suc (rw suc-add at (sym (walk_skip o n k (suc p) (take n xs) (drop n xs) z) ∙ d)) in
      let f : Passes o k (p + suc n) (drop n xs) h = ih k (p + suc n) (drop n xs) (rw length-drop (omega arith)) v in
      let r : Passes o g p (x ∷ (take n xs ++ drop n xs)) h = passing g k h p x (take n xs) (drop n xs) i (rw z c) (rw z f) in
      rw e at r

  walk_passes : (m : ℕ) (g h : Names) (p : ℕ) (l : List ℕ) → length l ≤ m → walk o 0 g p l ≡ whole h → Passes o g p l h
  walk_passes zero g h p [] l e = pass_none g h p e
  walk_passes zero g h p (x ∷ xs) l e = absurd (omega arith)
  walk_passes (suc m) g h p [] l e = pass_none g h p e
  walk_passes (suc m) g h p (x ∷ xs) l e = pass_first g h p x m xs (λ k q ys. walk_passes m k h q ys) (omega arith) (walk_first o g h p x xs e)

  passes_walk : (g h : Names) (p : ℕ) (l : List ℕ) → Passes o g p l h → walk o 0 g p l ≡ whole h
  unfolding walk
  passes_walk g h p l (over f q) = refl
  passes_walk g h p l (passing f k j q x xs ys i e w) =
      walk_got o f k q x (length xs) (xs ++ ys) i (item_more o f k q x (length xs) xs ys i e)
      ∙ walk_skip o (length xs) k (suc q) xs ys refl
      ∙ rw (suc-add, ← add-suc) (passes_walk k j (q + suc (length xs)) ys w)

  -- ---- from the start
  blocked_refused : (d : ℕ) (l : List ℕ) (r : Refusal) → Blocked d 0 o.names 0 l r → RefusedAt o d l r
  blocked_refused d l r (blocked a x xs g e m w b) =
      refused_at a (x ∷ xs) g e m (walk_passes (length a) o.names g 0 a (omega arith) w) (sym (item_refusal o g (length a) x xs) ∙ ap refusal_of_got (rw zero-add at b))

  -- the used length, where a header is due
  none_left : (d : ℕ) (r : Refusal) → at_header o 0 ≡ true → refusal 2 0 ≡ r → RefusedAt o d [] r
  unfolding walk item_rules header_rules first_of
  none_left d r h e = refused_at [] [] o.names refl (omega arith) (over o.names 0) (rw h (ap some e))

  walk_refused : (l : List ℕ) (r : Refusal) → walk_all o l ≡ stop r → RefusedAt o (length l) l r
  unfolding walk_all walk
  walk_refused [] r e = by_test (at_header o 0) (λ h. none_left 0 r h (stop_refusal (rw h at e))) (λ h. not_stop o (sym (rw h at e)))
  walk_refused (x ∷ xs) r e =
      blocked_refused (suc (length xs)) (x ∷ xs) r
      (walk_blocked 0 o.names 0 (x ∷ xs) r (omega arith) (sym (walk_start o (x ∷ xs) (past_start o (suc (length xs)) (omega arith))) ∙ e))

  look_refused : (q : ℕ) (l : List ℕ) (r : Refusal) → look_at o q l ≡ halt r → RefusedAt o q l r
  unfolding look_at look
  look_refused q [] r e = by_test (at_header o 0) (λ h. none_left q r h (halt_refusal (rw h at e))) (λ h. not_halted (rw h at e))
  look_refused q (x ∷ xs) r e =
      blocked_refused q (x ∷ xs) r
      (look_blocked q 0 o.names 0 (x ∷ xs) r (sym (look_start o q (x ∷ xs) (past_start o (suc (length xs)) (omega arith))) ∙ e))

  -- ---- and back: what stands behind the part that is walked over
  data Behind (g : Names) (p : ℕ) (r : Refusal) : List ℕ → Type 0 where
    nothing : at_header o p ≡ true → refusal 2 0 ≡ r → Behind g p r []
    faulty : (x : ℕ) (xs : List ℕ) → item o g p x xs ≡ bad r → Behind g p r (x ∷ xs)

  refused_bad : (v : Got) (r : Refusal) → refusal_of_got v ≡ some r → v ≡ bad r
  refused_bad (bad s) r e = ap bad (some_some e)
  refused_bad (got i n h) r e = none_some e

  behind : (g : Names) (p : ℕ) (r : Refusal) (hi : List ℕ) → first_of (item_rules o g p hi) ≡ some r → Behind g p r hi
  unfolding first_of item_rules header_rules element_rules
  behind g p r [] e = by_test (at_header o p) (λ h. nothing h (some_some (rw h at e))) (λ h. none_some (rw h at e))
  behind g p r (x ∷ xs) e = faulty x xs (refused_bad (item o g p x xs) r (item_refusal o g p x xs ∙ e))

  some_left : (lo : List ℕ) (x : ℕ) (xs : List ℕ) → at_header o (length (lo ++ (x ∷ xs))) ≡ false
  some_left lo x xs = past_start o (length (lo ++ (x ∷ xs))) (rw length-append (omega arith))

  walk_stops : (lo hi : List ℕ) (g : Names) (r : Refusal) → walk o 0 o.names 0 lo ≡ whole g → Behind g (length lo) r hi
      → walk_all o (lo ++ hi) ≡ stop r
  unfolding walk_all
  walk_stops lo hi g r w (nothing h e) = rw (append-nil, h) (ap stop e)
  walk_stops lo hi g r w (faulty x xs b) =
      walk_start o (lo ++ (x ∷ xs)) (some_left lo x xs) ∙ walk_append o 0 o.names g 0 lo (x ∷ xs) w ∙ rw zero-add (walk_bad o g (length lo) x r xs b)

  look_halts : (q : ℕ) (lo hi : List ℕ) (g : Names) (r : Refusal) → length lo ≤ q → walk o 0 o.names 0 lo ≡ whole g → Behind g (length lo) r hi
      → look_at o q (lo ++ hi) ≡ halt r
  unfolding look_at
  look_halts q lo hi g r l w (nothing h e) = rw (append-nil, h) (ap halt e)
  look_halts q lo hi g r l w (faulty x xs b) =
      let z : length lo + (q - length lo) ≡ q = omega arith in
      look_start o q (lo ++ (x ∷ xs)) (some_left lo x xs)
      ∙ (rw z at (look_early o (q - length lo) 0 o.names g 0 lo (x ∷ xs) w))
      ∙ rw zero-add (look_bad o (q - length lo) g (length lo) x r xs b)

  refused_walk : (q : ℕ) (l : List ℕ) (r : Refusal) → RefusedAt o q l r → walk_all o l ≡ stop r
  refused_walk q l r (refused_at lo hi g e m w f) = rw e (walk_stops lo hi g r (passes_walk o.names g 0 lo w) (behind g (length lo) r hi f))

  refused_look : (q : ℕ) (l : List ℕ) (r : Refusal) → RefusedAt o q l r → look_at o q l ≡ halt r
  refused_look q l r (refused_at lo hi g e m w f) = rw e (look_halts q lo hi g r m (passes_walk o.names g 0 lo w) (behind g (length lo) r hi f))

  stopped : (v : Walked) (r : Refusal) → refusal_of_walk v ≡ some r → v ≡ stop r
  stopped (whole g) r e = none_some e
  stopped (stop s) r e = ap stop (some_some e)

  halted : (v : Look) (r : Refusal) → refusal_of_look v ≡ some r → v ≡ halt r
  halted passed r e = none_some e
  halted (halt s) r e = ap halt (some_some e)
  halted (here i) r e = none_some e

  walk_means : (l : List ℕ) (r : Refusal) → (refusal_of_walk (walk_all o l) ≡ some r) ↔ RefusedAt o (length l) l r
  walk_means l r = (λ e. walk_refused l r (stopped (walk_all o l) r e), λ f. ap refusal_of_walk (refused_walk (length l) l r f))

  look_means : (q : ℕ) (l : List ℕ) (r : Refusal) → (refusal_of_look (look_at o q l) ≡ some r) ↔ RefusedAt o q l r
  look_means q l r = (λ e. look_refused q l r (halted (look_at o q l) r e), λ f. ap refusal_of_look (refused_look q l r f))

  pub walks_mean : (c : Call) (l : List ℕ) (r : Refusal) → (walk_refusal o c l ≡ some r) ↔ RefusedAt o (walks_to c l) l r
  unfolding walk_refusal walks_to
  walks_mean (append u d) l r = walk_means l r
  walks_mean (assign n u) l r = walk_means l r
  walks_mean (erase q) l r = look_means q l r
  walks_mean (wipe q m) l r = look_means q l r

  pub refused_numbered : (q : ℕ) (l : List ℕ) (r : Refusal) → RefusedAt o q l r → InTable r
  refused_numbered q l r (refused_at lo hi g e m w f) = first_numbered (item_rules o g (length lo) hi) r (item_numbered o g (length lo) hi) f

  -- ---- a walk or a look that isn't refused
  walk_register : (l : List ℕ) (g : Names) → walk_all o l ≡ whole g → (at_header o (length l) ≡ false) × Passes o o.names 0 l g
  unfolding walk_all
  walk_register l g e =
      by_test (at_header o (length l))
      (λ h. not_stop o (rw h at e))
      (λ h. (h, walk_passes (length l) o.names g 0 l (omega arith) (rw h at e)))

  pub register_means : (l : List ℕ) (g : Names) → (walk_all o l ≡ whole g) ↔ ((at_header o (length l) ≡ false) × Passes o o.names 0 l g)
  register_means l g = (walk_register l g, λ f. walk_start o l f.0 ∙ passes_walk o.names g 0 l f.1)

  spot_found : (q : ℕ) (l : List ℕ) (i : Item) → Spot o q 0 o.names 0 l i → FoundAt o q l i
  spot_found q l i (spot a x xs g h n e m w c) =
      found_at a x xs g h n e m (walk_passes (length a) o.names g 0 a (omega arith) w) (rw zero-add at c)

  look_found : (q : ℕ) (l : List ℕ) (i : Item) → look_at o q l ≡ here i → FoundAt o q l i
  unfolding look_at
  look_found q l i e =
      by_test (at_header o (length l)) (λ h. not_here (sym (rw h at e))) (λ h. spot_found q l i (look_spot o q 0 o.names 0 l i (rw h at e)))

  found_look : (q : ℕ) (l : List ℕ) (i : Item) → FoundAt o q l i → look_at o q l ≡ here i
  found_look q l i (found_at lo x xs g h n e m w c) =
      rw (e, ← m)
      (look_start o (length lo) (lo ++ (x ∷ xs)) (some_left lo x xs)
      ∙ (rw add-zero at (look_early o 0 0 o.names g 0 lo (x ∷ xs) (passes_walk o.names g 0 lo w)))
      ∙ rw zero-add (look_here o g h (length lo) x n xs i (rw (← m) at c)))

  pub found_means : (q : ℕ) (l : List ℕ) (i : Item) → (look_at o q l ≡ here i) ↔ FoundAt o q l i
  found_means q l i = (look_found q l i, found_look q l i)
