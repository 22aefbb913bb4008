-- When an append, an assignment and a wipe are answered, and by what, in the grammar's terms.
use Rattle.std.specs.Prelude.{◌≡◌, Bool, true, false, drop, leb}
use Rattle.std.proofs.Math.Path.{refl, ap}
use Rattle.std.proofs.Common.{sym, ◌∙◌, arith, add-zero, zero-add, leb-false, take_at, drop_at}
use mathlib.Core.List.{List, [], ◌∷◌, ◌++◌}
use Rattle.std.proofs.Math.Option.{Option, none, some}
use Prim.Native.Nat.{ℕ, min, ◌+◌, ◌≤◌}
use Rattle.std.proofs.Math.ListN.{length, take, length-append}
use Rattle.format.proofs.Laws.Cases.{by_test, from_zero_one}
use Rattle.format.specs.Figures.{used_limit, number_bytes}
use Rattle.format.specs.Integers.{write_integer}
use Rattle.format.specs.Uris.{type_name}
use Rattle.format.specs.Register.{Rising, Names, named_number, uri_of, number_for, has_room}
use Rattle.format.specs.Records.{refusal, Item, deleted, logbook, room_for}
use Rattle.format.specs.Reading.{whole, walk, here, look}
use Rattle.format.specs.Calls.{Book, used_bytes, Parts, parts, book_of, sound, append, assign, wipe, Answer, appended, wiped, denied, record_of, write, append_new, append_held, append_walked, assign_under, assign_walked, may_append, may_assign, stores, nonzeros, splice, wipe_item, wipe_looked, call, call_on}
use Rattle.format.specs.Grammar.{Listed, listed_at, RecordOf, Register, change, Room, again, further, Logbook}
use Rattle.format.specs.Entries.{Added, Full, Over, over_buffer, over_limit, AppendAnswer, AssignAnswer, put_in, no_type, no_room, no_fit}
use Rattle.format.proofs.Laws.Order.Items.{past_start, item_more, look_here, look_early, look_start, walk_start}
use Rattle.format.proofs.Laws.Order.Standing.{Stands, stands_none, stands_more, walk_stands}
use Rattle.format.proofs.Laws.Lists.Registers.{meaning, room_of, of_room}
use Rattle.format.proofs.Laws.Lists.Walking.{ItemOf, deleted_item, parse_logbook, logbook_long}
use Rattle.format.proofs.Laws.Lists.Steps.{on_sound, used_of}
use Rattle.format.proofs.Laws.Lists.Places.{call_sound}
use Rattle.format.proofs.Laws.Requests.{AskedAppend, asked_append, AskedAssign, asked_assign}
use Rattle.format.proofs.Laws.Lists.Adding.{written_number, least_number, no_number, free_number, free, assign_record, added_held, added_new}

-- ---- a deleted record of the grammar is found
look_item : {g h : Names} {p : ℕ} {w : List ℕ} {i : Item} → ItemOf g h p w i → (t : List ℕ) → look logbook 0 0 g p (w ++ t) ≡ here i
look_item {g} {h} {p} {w} {i} c t = rw c.is (look_here logbook g h p c.head (length c.tail) (c.tail ++ t) i (item_more logbook g h p c.head (length c.tail) c.tail t i c.gets))

module _ (lo w x d : List ℕ) (g : Names) (some_bytes : 1 ≤ length lo) (walks : walk logbook 0 [] 0 lo ≡ whole g) (c : RecordOf w 0 d) where
  deleted_look : look logbook (length lo) 0 [] 0 (lo ++ (w ++ x)) ≡ here (deleted (length lo) (length c.size) (length (c.type ++ d)))
  deleted_look = (rw (add-zero, zero-add) at (look_early logbook 0 0 [] g 0 lo (w ++ x) walks)) ∙ look_item (deleted_item g (length lo) w d some_bytes c) x

  wipe_parts : (rest : List ℕ) (m : ℕ) → (s1 : Parts) × (call logbook (wipe (length lo) m) (parts (lo ++ (w ++ x)) rest) ≡ (wiped (min m (nonzeros w)), s1))
  unfolding call wipe_looked wipe_item
  wipe_parts rest m =
      let k : ℕ = length c.size in
      let n : ℕ = length (c.type ++ d) in
      let e : length w ≡ k + n = ap length c.all ∙ length-append c.size (c.type ++ d) in
      let y : take (k + n) (drop (length lo) (lo ++ (w ++ x))) ≡ w = rw (drop_at lo (w ++ x) (length lo) refl) (take_at w x (k + n) e) in (
        parts (splice (length lo) (k + n) (stores m k) (lo ++ (w ++ x))) rest,
        rw (look_start logbook (length lo) (lo ++ (w ++ x)) (past_start logbook (length (lo ++ (w ++ x))) (rw length-append (omega arith))), deleted_look, y),
      )

-- a wipe of a deleted record makes the smaller of the limit and the record's nonzero bytes
pub wipe_answers : (b : Book) → sound b ≡ true → (lo w x d : List ℕ) (es : List Listed) (r : Register) (m : ℕ) → used_bytes b ≡ lo ++ (w ++ x) → Logbook lo es r → RecordOf w 0 d
    → (b1 : Book) × (call_on logbook (wipe (length lo) m) b ≡ record { answer = wiped (min m (nonzeros w)); book = b1 })
wipe_answers b s lo w x d es r m =
    on_sound (λ (c : Book). used_bytes c ≡ lo ++ (w ++ x) → Logbook lo es r → RecordOf w 0 d → (b1 : Book) × (call_on logbook (wipe (length lo) m) c ≡ record { answer = wiped (min m (nonzeros w)); book = b1 })) go b s
  where
    go : (l rest : List ℕ) → length l ≤ used_limit → used_bytes (book_of (parts l rest)) ≡ lo ++ (w ++ x) → Logbook lo es r → RecordOf w 0 d
        → (b1 : Book) × (call_on logbook (wipe (length lo) m) (book_of (parts l rest)) ≡ record { answer = wiped (min m (nonzeros w)); book = b1 })
    go l rest f e k c =
        let el : l ≡ lo ++ (w ++ x) = sym (used_of l rest) ∙ e in
        let y = parse_logbook k in
        let z = wipe_parts lo w x d y.names (omega (arith, logbook_long k)) y.part.walks c rest m in
        (book_of z.0, call_sound (wipe (length lo) m) l rest f ∙ rw (el, z.1))

-- ---- a write goes in, or is too long
data Written (off : ℕ) (w l rest : List ℕ) : Type 0 where
  goes_in : (q n : ℕ) (s1 : Parts) → write off w (parts l rest) ≡ (appended q n, s1) → Written off w l rest
  too_long : Over (book_of (parts l rest)) w → write off w (parts l rest) ≡ (denied (refusal 12 (length l)), parts l rest) → Written off w l rest

written : (off : ℕ) (w l rest : List ℕ) → Written off w l rest
unfolding write book_of
written off w l rest = go (leb (length w) (length rest)) refl (leb (length l + length w) used_limit) refl
  where
    go : (a : Bool) → leb (length w) (length rest) ≡ a → (b : Bool) → leb (length l + length w) used_limit ≡ b → Written off w l rest
    go true x true y = goes_in (length l + off) (length l + length w) (parts (l ++ w) (drop (length w) rest)) (rw (x, y))
    go true x false y = too_long (over_limit (leb-false (length l + length w) used_limit y)) (rw (x, y))
    go false x b y = too_long (over_buffer (rw length-append (omega (arith, leb-false (length w) (length rest) x)))) (rw x)

-- ---- no room: 32 numbers are held, and this one isn't
record Cramped (g : Names) (k : ℕ) (u : List ℕ) : Type 0 where
  not_held : uri_of k g ≡ none
  some_uri : 1 ≤ length u
  full : Full (meaning g)

cramped : (g : Names) (k : ℕ) (u : List ℕ) → Rising named_number 0 g → room_for k u g ≡ false → Cramped g k u
unfolding room_for
cramped g k [] t e = from_zero_one (cc)
cramped g k (c ∷ u) t e = record { not_held = go (uri_of k g) refl; some_uri = omega arith; full = λ ms l h. not_room (room_of g k t (further ms l h)) }
  where
    not_room : {P : Type 0} → has_room named_number k g ≡ true → P
    not_room f = from_zero_one (let z : true ≡ false = sym f ∙ e in cc)

    go : (v : Option (List ℕ)) → uri_of k g ≡ v → uri_of k g ≡ none
    go none q = q
    go (some v) q = not_room (room_of g k t (again v q))

-- where there is room, they aren't
roomy : (g : Names) (k : ℕ) (u : List ℕ) → room_for k u g ≡ true → uri_of k g ≡ none → 1 ≤ length u → Full (meaning g) → ⊥
unfolding room_for
roomy g k [] e n o f = omega arith
roomy g k (c ∷ u) e n o f = go (of_room g k e)
  where
    go : Room (meaning g) k → ⊥
    go (again v q) = from_zero_one (let z : none ≡ some v = sym n ∙ q in cc)
    go (further ms l h) = f ms l h

-- ---- a logbook that is walked to its end
module _ (l rest : List ℕ) (b : length l ≤ used_limit) (some_bytes : 1 ≤ length l) (g : Names) (walks : walk logbook 0 [] 0 l ≡ whole g) where
  stands : Stands l g
  stands = walk_stands l logbook 0 [] g 0 l refl (stands_more [] l [] (stands_none [])) walks

  module _ (u d : List ℕ) (may : may_append u d ≡ true) where
    asked : AskedAppend u d
    asked = asked_append u d may

    append_does : (x : Answer) (s1 : Parts) → append_held (number_for u g) g u d (parts l rest) ≡ (x, s1) → call_on logbook (append u d) (book_of (parts l rest)) ≡ record { answer = x; book = book_of s1 }
    unfolding call append_walked
    append_does x s1 e = call_sound (append u d) l rest b ∙ rw (may, walk_start logbook l (past_start logbook (length l) some_bytes), walks, e)

    append_written : (off : ℕ) (w : List ℕ) (new : List Listed) (r1 : Register) (q : ℕ) → Added (meaning g) (length l) u d w new r1 q → (((j : ℕ) → uri_of j g ≡ some u → ⊥) → Full (meaning g) → ⊥) → append_held (number_for u g) g u d (parts l rest) ≡ write off w (parts l rest) → Written off w l rest
        → AppendAnswer (book_of (parts l rest)) u d (meaning g)
    unfolding book_of
    append_written off w new r1 q a f e (goes_in p n s1 x) = put_in p n (book_of s1) (append_does (appended p n) s1 (e ∙ x))
    append_written off w new r1 q a f e (too_long v x) = no_fit w new r1 q a f v (append_does (denied (refusal 12 (length l))) (parts l rest) (e ∙ x))

    append_new_lem : number_for u g ≡ none → (p : Option ℕ) → number_for type_name g ≡ p → AppendAnswer (book_of (parts l rest)) u d (meaning g)
    unfolding append_held append_new book_of
    append_new_lem h none ht = no_type (no_number g u h) (no_number g type_name ht) (append_does (denied (refusal 11 0)) (parts l rest) (rw (h, ht)))
    append_new_lem h (some t) ht =
        by_test (room_for (free g) u g)
        (λ rm. let w : List ℕ = record_of t (write_integer number_bytes (free g) ++ u) in
        append_written (length w) (w ++ record_of (free g) d) (listed_at (length l) type_name (write_integer number_bytes (free g) ++ u) ∷ listed_at (length l + length w) u d ∷ []) (change (meaning g) (free g) (some u)) (length l + length w)
        (added_new l g stands u d t asked h ht) (λ n. roomy g (free g) u rm (free_number g stands.rising).not_held asked.uri_some) (rw (h, ht, rm)) (written (length w) (w ++ record_of (free g) d) l rest))
        (λ rm. no_room t (no_number g u h) (least_number l g type_name t stands ht) (cramped g (free g) u stands.rising rm).full (append_does (denied (refusal 7 (length l))) (parts l rest) (rw (h, ht, rm))))

    append_named : (p : Option ℕ) → number_for u g ≡ p → AppendAnswer (book_of (parts l rest)) u d (meaning g)
    unfolding append_held
    append_named none h = append_new_lem h (number_for type_name g) refl
    append_named (some n) h = append_written 0 (record_of n d) (listed_at (length l) u d ∷ []) (meaning g) (length l) (added_held l g stands u d n asked h) (λ x f. x n (least_number l g u n stands h).holds) (rw h) (written 0 (record_of n d) l rest)

  module _ (k : ℕ) (u : List ℕ) (may : may_assign k u ≡ true) where
    assign_does : (x : Answer) (s1 : Parts) → assign_under (number_for type_name g) g k u (parts l rest) ≡ (x, s1) → call_on logbook (assign k u) (book_of (parts l rest)) ≡ record { answer = x; book = book_of s1 }
    unfolding call assign_walked
    assign_does x s1 e = call_sound (assign k u) l rest b ∙ rw (may, walk_start logbook l (past_start logbook (length l) some_bytes), walks, e)

    assign_written : (t : ℕ) → number_for type_name g ≡ some t → room_for k u g ≡ true → assign_under (number_for type_name g) g k u (parts l rest) ≡ write 0 (record_of t (write_integer number_bytes k ++ u)) (parts l rest) → Written 0 (record_of t (write_integer number_bytes k ++ u)) l rest
        → AssignAnswer (book_of (parts l rest)) k u (meaning g)
    unfolding book_of
    assign_written t ht rm e (goes_in p n s1 x) = put_in p n (book_of s1) (assign_does (appended p n) s1 (e ∙ x))
    assign_written t ht rm e (too_long v x) =
        let a : AskedAssign k u = asked_assign k u may in
        no_fit t (record_of t (write_integer number_bytes k ++ u)) (write_integer number_bytes k) (least_number l g type_name t stands ht) (assign_record l g stands t k u a.number.1 a.uri_short ht) (written_number k a.number.1) (roomy g k u rm) v
        (assign_does (denied (refusal 12 (length l))) (parts l rest) (e ∙ x))

    assign_typed : (p : Option ℕ) → number_for type_name g ≡ p → AssignAnswer (book_of (parts l rest)) k u (meaning g)
    unfolding assign_under book_of
    assign_typed none ht = no_type (no_number g type_name ht) (assign_does (denied (refusal 11 0)) (parts l rest) (rw ht))
    assign_typed (some t) ht =
        by_test (room_for k u g)
        (λ rm. assign_written t ht rm (rw (ht, rm)) (written 0 (record_of t (write_integer number_bytes k ++ u)) l rest))
        (λ rm. let c : Cramped g k u = cramped g k u stands.rising rm in
        no_room t (least_number l g type_name t stands ht) c.not_held c.some_uri c.full (assign_does (denied (refusal 7 (length l))) (parts l rest) (rw (ht, rm))))

-- ---- any logbook that reads to its end
pub append_answers : (b : Book) → sound b ≡ true → (u d : List ℕ) (es : List Listed) (r : Register) → may_append u d ≡ true → Logbook (used_bytes b) es r → AppendAnswer b u d r
append_answers b s u d es r may = on_sound (λ (c : Book). Logbook (used_bytes c) es r → AppendAnswer c u d r) go b s
  where
    go : (l rest : List ℕ) → length l ≤ used_limit → Logbook (used_bytes (book_of (parts l rest))) es r → AppendAnswer (book_of (parts l rest)) u d r
    go l rest f k =
        let kl : Logbook l es r = rw (used_of l rest) at k in
        let x = parse_logbook kl in
        rw (← x.means) (append_named l rest f (omega (arith, logbook_long kl)) x.names x.part.walks u d may (number_for u x.names) refl)

pub assign_answers : (b : Book) → sound b ≡ true → (k : ℕ) (u : List ℕ) (es : List Listed) (r : Register) → may_assign k u ≡ true → Logbook (used_bytes b) es r → AssignAnswer b k u r
assign_answers b s k u es r may = on_sound (λ (c : Book). Logbook (used_bytes c) es r → AssignAnswer c k u r) go b s
  where
    go : (l rest : List ℕ) → length l ≤ used_limit → Logbook (used_bytes (book_of (parts l rest))) es r → AssignAnswer (book_of (parts l rest)) k u r
    go l rest f q =
        let kl : Logbook l es r = rw (used_of l rest) at q in
        let x = parse_logbook kl in
        rw (← x.means) (assign_typed l rest f (omega (arith, logbook_long kl)) x.names x.part.walks k u may (number_for type_name x.names) refl)
