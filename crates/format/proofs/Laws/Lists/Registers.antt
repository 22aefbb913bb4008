-- The register of the calls and the grammar's are one.
use Rattle.std.specs.Prelude.{◌≡◌, refl, Bool, true, false, cond, List, [], ◌∷◌, map, ℕ, suc, ◌≤◌, length, eqb}
use Rattle.std.proofs.Common.{sym, ap, ◌∙◌, arith, ltb-true, eqb-true, eq-eqb, ne_eqb}
use Rattle.std.proofs.Math.Option
use Rattle.std.proofs.Math.Option.{Option, none, some}
use Rattle.std.proofs.lemmas.List.{length-map}
use Rattle.format.specs.Figures.{row_limit}
use Rattle.format.proofs.Laws.Cases.{by_test, by_equality, from_zero_one}
use Rattle.format.specs.Uris.{type_name, header_name}
use Rattle.format.specs.Register.{Rising, find, has_room, Named, implied, written, Names, named_number, named_uri, implied_names, uri_of}
use Rattle.format.proofs.Laws.Register.{find_insert, find_insert_other, find_remove, find_remove_other, find_below, room_held, room_below, room_new}
use Rattle.format.specs.Records.{assigned}
use Rattle.format.specs.Grammar.{Register, implied_only, change, among, Among, Room, again, further}

-- the register that a list of names stands for
abbrev pub meaning : Names → Register
meaning g = λ n. uri_of n g

same_register_lem : (r s : Register) → ((n : ℕ) → r n ≡ s n) → r ≡ s
same_register_lem r s e = λ i. λ n. e n i

pub implied_meaning : meaning implied_names ≡ implied_only
unfolding uri_of find implied_only
implied_meaning = same_register_lem (meaning implied_names) implied_only (λ n. go (eqb 1 n) (eqb 111 n))
  where
    go : (a b : Bool) → Option.map named_uri (cond a (some (implied 1)) (cond b (some (implied 111)) none))
        ≡ cond a (some type_name) (cond b (some header_name) none)
    go true b = refl
    go false true = refl
    go false false = refl

pub assigned_meaning : (g : Names) (n q c : ℕ) (u : List ℕ) → meaning (assigned n q (c ∷ u) g) ≡ change (meaning g) n (some (c ∷ u))
unfolding assigned uri_of change
assigned_meaning g n q c u = same_register_lem (meaning (assigned n q (c ∷ u) g)) (change (meaning g) n (some (c ∷ u))) (λ m.
    by_equality n m
    (λ e. rw (← e, find_insert named_number (written n q (c ∷ u)) g, eq-eqb n n refl))
    (λ d. rw (find_insert_other named_number m (written n q (c ∷ u)) g d, ne_eqb n m d)))

pub removed_meaning : (g : Names) (n q : ℕ) → Rising named_number 0 g → meaning (assigned n q [] g) ≡ change (meaning g) n none
unfolding assigned uri_of change
removed_meaning g n q t = same_register_lem (meaning (assigned n q [] g)) (change (meaning g) n none) (λ m.
    by_equality n m
    (λ e. rw (← e, find_remove named_number 0 n g t, eq-eqb n n refl))
    (λ d. rw (find_remove_other named_number m n g d, ne_eqb n m d)))

-- ---- room
omit : ℕ → List ℕ → List ℕ
omit n [] = []
omit n (m ∷ ms) = cond (eqb m n) ms (m ∷ omit n ms)

omit_length : (n : ℕ) (ms : List ℕ) → among n ms ≡ true → suc (length (omit n ms)) ≡ length ms
unfolding omit among
omit_length n [] e = from_zero_one (cc)
omit_length n (m ∷ ms) e = by_test (eqb m n) (λ q. rw q) (λ q. rw q (ap suc (omit_length n ms (rw q at e))))

omit_among : (n k : ℕ) (ms : List ℕ) → eqb n k ≡ false → among k ms ≡ true → among k (omit n ms) ≡ true
unfolding omit among
omit_among n k [] z e = e
omit_among n k (m ∷ ms) z e =
    by_test (eqb m n)
    (λ q. rw q (rw (eqb-true m n q, z) at e))
    (λ q. rw q (by_test (eqb m k) (λ y. rw y) (λ y. rw y (omit_among n k ms z (rw y at e)))))

-- the URI of a name that is first
first_uri : (r : Named) (g : Names) (m : ℕ) → named_number r ≡ m → uri_of m (r ∷ g) ≡ some (named_uri r)
unfolding uri_of find
first_uri r g m e = rw (eq-eqb (named_number r) m e)

later_uri : (r : Named) (g : Names) (m : ℕ) → eqb (named_number r) m ≡ false → uri_of m (r ∷ g) ≡ uri_of m g
unfolding uri_of find
later_uri r g m e = rw e

not_some : {P : Type 0} {u : List ℕ} → none ≡ some u → P
not_some e = from_zero_one (cc)

-- names that rise are no more than any list that has all their numbers
few : (b : ℕ) (g : Names) (ms : List ℕ) → Rising named_number b g → Among (meaning g) ms → length g ≤ length ms
unfolding Rising uri_of
few b [] ms t h = omega arith
few b (r ∷ g) ms (x, t) h =
    let n : ℕ = named_number r in
    let a : among n ms ≡ true = h n (named_uri r) (first_uri r g n refl) in
    let i = few n g (omit n ms) t (λ m u e. let z = above m u e in omit_among n m ms z (h m u (later_uri r g m z ∙ e))) in
    omega (arith, omit_length n ms a)
  where
    above : (m : ℕ) (u : List ℕ) → uri_of m g ≡ some u → eqb (named_number r) m ≡ false
    above m u e =
        by_test (eqb (named_number r) m)
        (λ q. not_some (sym (ap (Option.map named_uri) (find_below named_number (named_number r) m g (omega (arith, eqb-true (named_number r) m q)) t)) ∙ e))
        (λ q. q)

numbers_all : (g : Names) (m : ℕ) (u : List ℕ) → uri_of m g ≡ some u → among m (map named_number g) ≡ true
unfolding among uri_of find
numbers_all [] m u e = not_some e
numbers_all (r ∷ g) m u e = by_test (eqb (named_number r) m) (λ q. rw q) (λ q. rw q (numbers_all g m u (rw q at e)))

found_of_lem : (g : Names) (n : ℕ) (u : List ℕ) (v : Option Named) → find named_number n g ≡ v → uri_of n g ≡ some u → has_room named_number n g ≡ true
unfolding uri_of
found_of_lem g n u none q e = not_some (rw q at e)
found_of_lem g n u (some r) q e = room_held named_number n r g q

pub room_of : (g : Names) (n : ℕ) → Rising named_number 0 g → Room (meaning g) n → has_room named_number n g ≡ true
room_of g n t (again u e) = found_of_lem g n u (find named_number n g) refl e
room_of g n t (further ms l h) = room_below named_number n g (omega (arith, few 0 g ms t h))

pub of_room : (g : Names) (n : ℕ) → has_room named_number n g ≡ true → Room (meaning g) n
unfolding uri_of
of_room g n e = go (find named_number n g) refl
  where
    go : (v : Option Named) → find named_number n g ≡ v → Room (meaning g) n
    go (some r) q = again (named_uri r) (rw q)
    go none q =
        further (map named_number g) (rw (length-map g named_number) (ltb-true (length g) row_limit (sym (room_new named_number n g q) ∙ e))) (numbers_all g)
