-- Records that are written read back, so an append or an assignment is early.
use Rattle.std.specs.Prelude.{◌≡◌, refl, true, false, ◌&&◌}
use Rattle.std.proofs.Common.{sym, ap, ◌∙◌, arith, zero-add, drop_at}
use mathlib.Core.List.{List, [], ◌∷◌, ◌++◌, append_assoc, append-nil}
use Rattle.std.proofs.Math.Option.{Option, none, some}
use Prim.Native.Nat.{ℕ, zero, suc, pred, ◌+◌, ◌*◌, ◌-◌, ◌^◌, ◌≤◌, ◌<◌}
use borrow.Author.Tests.{leb-true}
use Rattle.std.proofs.Math.ListN.{length, drop, length-append}
use Rattle.std.proofs.Math.Dec.{leb}
use Rattle.format.proofs.Laws.Cases.{by_test, by_equality, from_zero_one, and_right}
use Rattle.format.specs.Bytes.{same}
use Rattle.format.specs.Figures.{used_limit, size_bytes, number_bytes, number_limit}
use Rattle.format.specs.Integers.{value, read_integer, write_integer, width_of}
use Rattle.format.proofs.Laws.Integers.{value_value, read_write, read_start, digits_last, low_is_no_lead, width_bounds}
use Rattle.format.specs.Uris.{type_name, header_name}
use Rattle.format.proofs.Laws.Uris.{appendable_type, appendable_header}
use Rattle.format.specs.Register.{find, free_from, Named, written, Names, named_number, named_uri, uri_of, number_for}
use Rattle.format.proofs.Laws.Register.{holder_held, find_number, find_here, find_on, find_insert, free_bounds, some_some, RowOf, row_of}
use Rattle.format.specs.Records.{refusal, plain, assignment, Item, live, got, entry_of, assigned, room_for, assignable, assignment_part, data_part, named_part, type_part, Origin, at_header}
use Rattle.format.specs.Reading.{whole, walk, walk_all}
use Rattle.format.specs.Calls.{parts, Call, append, assign, erase, wipe, appended, denied, record_of, write, append_new, append_held, append_walked, assign_under, assign_walked, may_append, may_assign, call}
use Rattle.format.proofs.Laws.Requests.{asked_append, asked_assign}
use Rattle.format.specs.Series.{early, mark_call}
use Rattle.format.proofs.Laws.Order.Items.{judged, Piece, piece_join, record_piece, walk_append, walk_start, past_start}
use Rattle.format.proofs.Laws.Order.Standing.{Number, StandsRow, row_number_lem, Stands, stands_more, walk_stands}
use Rattle.format.proofs.Laws.Order.Frames.{Fits, fits_stands, Good, EarlyOf, early_refused, early_erase, early_wipe, aimed_early, ends_with}
use Rattle.format.specs.Rows.{All}

-- ---- a written integer of at most k + 1 bytes
module _ (k n : ℕ) where
  pub write_long : (1 ≤ length (write_integer (suc k) n)) × (length (write_integer (suc k) n) ≤ suc k)
  unfolding width_of
  write_long = width_bounds k n

  module _ (h : n < 128 ^ suc k) where
    pub write_reads : (t : List ℕ) → read_integer (suc k) (write_integer (suc k) n ++ t) ≡ value n (length (write_integer (suc k) n))
    unfolding width_of
    write_reads t = read_write k n t h

    write_first : 1 ≤ n → (x : ℕ) × (c : List ℕ) × (write_integer (suc k) n ≡ suc x ∷ c)
    write_first p = go (write_integer (suc k) n) refl
      where
        go : (w : List ℕ) → write_integer (suc k) n ≡ w → (x : ℕ) × (c : List ℕ) × (write_integer (suc k) n ≡ suc x ∷ c)
        go [] e = absurd (omega (arith, write_long, ap length e))
        go (suc x ∷ c) e = (x, c, e)
        go (zero ∷ c) e =
            let z : read_integer (suc k) (0 ∷ (c ++ [])) ≡ value n (suc (length c)) = rw e at (write_reads []) in
            let y : read_integer (suc k) (0 ∷ (c ++ [])) ≡ value (0 * 128 + 0) 1 =
            read_start (suc k) 0 (c ++ []) (low_is_no_lead 0 (omega arith)) ∙ digits_last k 0 0 0 (c ++ []) (omega arith) in
            absurd (omega (arith, value_value (sym y ∙ z)))

pub number_long : (n : ℕ) → (1 ≤ length (write_integer number_bytes n)) × (length (write_integer number_bytes n) ≤ number_bytes)
number_long n = write_long (pred number_bytes) n

pub number_reads : (n : ℕ) → n ≤ number_limit → (t : List ℕ)
    → read_integer number_bytes (write_integer number_bytes n ++ t) ≡ value n (length (write_integer number_bytes n))
number_reads n h = write_reads (pred number_bytes) n (omega (arith, h))

-- ---- a written record
module _ (o : Origin) where
  pub record_written : (h h1 : Names) (p t n : ℕ) (d : List ℕ) (i : Item) → at_header o p ≡ false → Number t → length d ≤ 70000
      → judged h p (write_integer size_bytes (length (write_integer number_bytes t) + length d)) (write_integer number_bytes t ++ d) ≡ got i n h1
      → Piece o h p (record_of t d) h1
  unfolding record_of
  record_written h h1 p t n d i f nt l j =
      let wt = number_long t in
      let s : ℕ = length (write_integer number_bytes t) + length d in
      let z : length (write_integer number_bytes t ++ d) ≡ length (write_integer number_bytes t) + length d = length-append (write_integer number_bytes t) d in
      let x = write_first (pred size_bytes) (length (write_integer number_bytes t) + length d) (omega arith) (omega arith) in
      record_piece o h h1 p n (write_integer size_bytes s) (write_integer number_bytes t ++ d) x.0 x.1 i f
      (λ r. rw z (write_reads (pred size_bytes) (length (write_integer number_bytes t) + length d) (omega arith) r)) j x.2

-- ---- how it is judged
type_judged : (h : Names) (p k t : ℕ) (w d : List ℕ) (y : Named) (n : ℕ) → Number t → find named_number t h ≡ some y
    → type_part (read_integer number_bytes (write_integer number_bytes t ++ d)) p k w (write_integer number_bytes t ++ d) n h
    ≡ data_part y p (p + k) (p + k + length (write_integer number_bytes t)) w d n h
unfolding type_part named_part
type_judged h p k zero w d y n (a, b) e = absurd (omega arith)
type_judged h p k (suc t) w d y n (a, b) e =
    rw (number_reads (suc t) b d, e, drop_at (write_integer number_bytes (suc t)) d (length (write_integer number_bytes (suc t))) refl)

pub entry_judged : (h : Names) (p t : ℕ) (a d : List ℕ) (y : Named) → Number t → find named_number t h ≡ some y → same (named_uri y) header_name ≡ false → same (named_uri y) type_name ≡ false
    → judged h p a (write_integer number_bytes t ++ d) ≡ got (live (entry_of p (p + length a) plain y (p + length a + length (write_integer number_bytes t)) d)) (pred (length a + length (write_integer number_bytes t ++ d))) h
unfolding data_part
entry_judged h p t a d r nt e x y = type_judged h p (length a) t (a ++ (write_integer number_bytes t ++ d)) d r (pred (length a + length (write_integer number_bytes t ++ d))) nt e ∙ rw (x, y)

number_judged : (h : Names) (y : Named) (p t q n m : ℕ) (u : List ℕ) → Number n → assignable n u ≡ true → room_for n u h ≡ true
    → assignment_part (read_integer number_bytes (write_integer number_bytes n ++ u)) y p t q (write_integer number_bytes n ++ u) m h
    ≡ got (live (entry_of p t (assignment n (q + length (write_integer number_bytes n)) u) y q (write_integer number_bytes n ++ u))) m
    (assigned n (q + length (write_integer number_bytes n)) u h)
unfolding assignment_part
number_judged h y p t q zero m u (a, b) x r = absurd (omega arith)
number_judged h y p t q (suc n) m u (a, b) x r =
    rw (number_reads (suc n) b u, drop_at (write_integer number_bytes (suc n)) u (length (write_integer number_bytes (suc n))) refl, x, r)

pub assign_judged : (h : Names) (p t n : ℕ) (a u : List ℕ) (y : RowOf h t type_name) → Number t → Number n → assignable n u ≡ true → room_for n u h ≡ true
    → judged h p a (write_integer number_bytes t ++ (write_integer number_bytes n ++ u))
    ≡ got (live (entry_of p (p + length a) (assignment n (p + length a + length (write_integer number_bytes t) + length (write_integer number_bytes n)) u) y.row (p + length a + length (write_integer number_bytes t)) (write_integer number_bytes n ++ u)))
    (pred (length a + length (write_integer number_bytes t ++ (write_integer number_bytes n ++ u)))) (assigned n (p + length a + length (write_integer number_bytes t) + length (write_integer number_bytes n)) u h)
unfolding data_part same type_name header_name
assign_judged h p t n a u y nt nn x r =
    let i : same (named_uri y.row) header_name ≡ false = rw y.named refl in
    let j : same (named_uri y.row) type_name ≡ true = rw y.named refl in
    type_judged h p (length a) t (a ++ (write_integer number_bytes t ++ (write_integer number_bytes n ++ u))) (write_integer number_bytes n ++ u) y.row (pred (length a + length (write_integer number_bytes t ++ (write_integer number_bytes n ++ u)))) nt y.found
    ∙ rw (i, j) (number_judged h y.row p (p + length a) (p + length a + length (write_integer number_bytes t)) n (pred (length a + length (write_integer number_bytes t ++ (write_integer number_bytes n ++ u)))) u nn x r)

-- ---- held numbers
all_found : (P : Named → Type 0) (n : ℕ) (r : Named) (g : Names) → All named_number P g → find named_number n g ≡ some r → P r
unfolding All find
all_found P n r [] k e = from_zero_one (cc)
all_found P n r (x ∷ g) (a, k) e =
    by_equality (named_number x) n
    (λ q. let z : x ≡ r = some_some (sym (find_here named_number n x g q) ∙ e) in rw z at a)
    (λ q. all_found P n r g k (sym (find_on named_number n x g q) ∙ e))

pub record HeldBy (l : List ℕ) (g : Names) (u : List ℕ) (n : ℕ) : Type 0 where
  pub number : Number n
  pub names : uri_of n g ≡ some u

pub held_by : (l : List ℕ) (g : Names) (u : List ℕ) (n : ℕ) → Stands l g → number_for u g ≡ some n → HeldBy l g u n
unfolding number_for uri_of
held_by l g u n s e =
    let h = holder_held named_number named_uri u 0 n g s.rising e in
    record {
      number = rw (find_number named_number n g h.row h.found) at (row_number_lem l h.row (all_found (StandsRow l) n h.row g s.rows h.found));
      names = rw h.found (ap (λ (v : List ℕ). some v) h.named);
    }

pub uri_assigned : (n q : ℕ) (u : List ℕ) (g : Names) → 1 ≤ length u → uri_of n (assigned n q u g) ≡ some u
unfolding assigned uri_of
uri_assigned n q [] g l = absurd (omega arith)
uri_assigned n q (c ∷ u) g l = rw (find_insert named_number (written n q (c ∷ u)) g)

-- ---- the calls
module _ (o : Origin) (begin : Stands [] o.names) where
  -- the bytes w are written behind the high part
  write_early : (off : ℕ) (w : List ℕ) (p : ℕ) (g h1 : Names) (c : Call) (hi rest : List ℕ) (q : Good o begin g p hi) → Piece o q.names (p + length hi) w h1 → 1 ≤ length w
      → ((lo : List ℕ) → Fits o begin lo g → length lo ≡ p → call o c (parts (lo ++ hi) rest) ≡ write off w (parts (lo ++ hi) rest)) → EarlyOf o begin c p g hi rest
  unfolding write walk
  write_early off w p g h1 c hi rest q pc n d =
      by_test (leb (length w) (length rest) && leb (p + length hi + length w) used_limit)
      (λ k. record {
        answer = appended (p + length hi + off) (p + length hi + length w);
        high = hi ++ w;
        left = drop (length w) rest;
        good = record {
          names = h1;
          walks = walk_append o 0 g q.names p hi w q.walks ∙ (rw append-nil at (pc []));
          ends = past_start o (p + length (hi ++ w)) (rw length-append (omega arith));
          small = rw length-append (omega (arith, leb-true (p + length hi + length w) used_limit (and_right (leb (length w) (length rest)) (leb (p + length hi + length w) used_limit) k)));
        };
        does = λ lo f l. d lo f l ∙ rw (length-append, l, k, append_assoc);
      })
      (λ k. early_refused o begin q (denied (refusal 12 (p + length hi))) (λ lo f l. d lo f l ∙ rw (length-append, l, k)))

  walks_to_lem : (p : ℕ) (g : Names) (lo hi : List ℕ) (q : Good o begin g p hi) → Fits o begin lo g → length lo ≡ p → walk_all o (lo ++ hi) ≡ whole q.names
  walks_to_lem p g lo hi q f l =
      walk_start o (lo ++ hi) (ends_with o begin p g lo hi q l) ∙ walk_append o 0 o.names g 0 lo hi f ∙ rw (zero-add, l) q.walks

  -- the register at the end stands in the whole log
  high_stands : (p : ℕ) (g : Names) (lo hi : List ℕ) (q : Good o begin g p hi) → Fits o begin lo g → length lo ≡ p → Stands (lo ++ hi) q.names
  high_stands p g lo hi q f l = walk_stands (lo ++ hi) o 0 g q.names p hi (drop_at lo hi p l) (stands_more lo hi g (fits_stands o begin lo g f)) q.walks

  -- two records, the first an assignment, and one record
  record_some : (t : ℕ) (d : List ℕ) → t ≤ number_limit → 1 ≤ length (record_of t d)
  unfolding record_of
  record_some t d h = rw (length-append, length-append) (omega (arith, write_long (pred size_bytes) (length (write_integer number_bytes t) + length d)))

  module _ (u d : List ℕ) (p : ℕ) (g : Names) (hi rest l0 : List ℕ) (q : Good o begin g p hi) (f0 : Fits o begin l0 g) (n0 : length l0 ≡ p) where
    stands : Stands (l0 ++ hi) q.names
    stands = high_stands p g l0 hi q f0 n0

    append_at : may_append u d ≡ true → (lo : List ℕ) → Fits o begin lo g → length lo ≡ p → call o (append u d) (parts (lo ++ hi) rest) ≡ append_held (number_for u q.names) q.names u d (parts (lo ++ hi) rest)
    unfolding call append_walked
    append_at m lo f l = rw (m, walks_to_lem p g lo hi q f l)

    entry_piece : (h : Names) (P n : ℕ) → may_append u d ≡ true → at_header o P ≡ false → Number n → uri_of n h ≡ some u → Piece o h P (record_of n d) h
    entry_piece h P n m z nn e =
        let k = asked_append u d m in
        let f = k.few_bytes in
        let y = row_of h n u e in
        record_written o h h P n
        (pred (length (write_integer size_bytes (length (write_integer number_bytes n) + length d)) + length (write_integer number_bytes n ++ d))) d
        (live (entry_of P (P + length (write_integer size_bytes (length (write_integer number_bytes n) + length d))) plain y.row (P + length (write_integer size_bytes (length (write_integer number_bytes n) + length d)) + length (write_integer number_bytes n)) d))
        z nn (omega arith)
        (entry_judged h P n (write_integer size_bytes (length (write_integer number_bytes n) + length d)) d y.row nn y.found (rw y.named (appendable_header u k.uri_good)) (rw y.named (appendable_type u k.uri_good)))

    append_held_lem : may_append u d ≡ true → (n : ℕ) → number_for u q.names ≡ some n → EarlyOf o begin (append u d) p g hi rest
    unfolding append_held
    append_held_lem m n e =
        let b = held_by (l0 ++ hi) q.names u n stands e in
        write_early 0 (record_of n d) p g q.names (append u d) hi rest q (entry_piece q.names (p + length hi) n m q.ends b.number b.names) (record_some n d b.number.1)
        (λ lo f l. append_at m lo f l ∙ rw e)

    -- the number that is free, and the register that its assignment leaves
    abbrev freed : ℕ
    freed = free_from named_number 1 q.names

    freed_number : Number freed
    freed_number = let b = free_bounds named_number 1 q.names in (b.0, omega (arith, stands.few))

    append_new_lem : may_append u d ≡ true → number_for u q.names ≡ none → (t : ℕ) → number_for type_name q.names ≡ some t → room_for freed u q.names ≡ true → EarlyOf o begin (append u d) p g hi rest
    unfolding append_held append_new
    append_new_lem m e t k r =
        let b = held_by (l0 ++ hi) q.names type_name t stands k in
        let a = asked_append u d m in
        let f = a.uri_short in
        let w = write_integer number_bytes freed in
        let wl = number_long freed in
        let s = write_integer size_bytes (length (write_integer number_bytes t) + length (w ++ u)) in
        let P : ℕ = p + length hi in
        let h1 : Names = assigned freed (P + length s + length (write_integer number_bytes t) + length w) u q.names in
        let p1 : Piece o q.names P (record_of t (w ++ u)) h1 =
        record_written o q.names h1 P t (pred (length s + length (write_integer number_bytes t ++ (w ++ u)))) (w ++ u)
        (live (entry_of P (P + length s) (assignment freed (P + length s + length (write_integer number_bytes t) + length w) u) (row_of q.names t type_name b.names).row (P + length s + length (write_integer number_bytes t)) (w ++ u)))
        q.ends b.number (rw length-append (omega arith))
        (assign_judged q.names P t freed s u (row_of q.names t type_name b.names) b.number freed_number (a.uri_any freed) r) in
        let n1 : 1 ≤ length (record_of t (w ++ u)) = record_some t (w ++ u) b.number.1 in
        let p2 : Piece o h1 (P + length (record_of t (w ++ u))) (record_of freed d) h1 =
        entry_piece h1 (P + length (record_of t (w ++ u))) freed m (past_start o (P + length (record_of t (w ++ u))) (omega arith)) freed_number
        (uri_assigned freed (P + length s + length (write_integer number_bytes t) + length w) u q.names a.uri_some) in
        write_early (length (record_of t (w ++ u))) (record_of t (w ++ u) ++ record_of freed d) p g h1 (append u d) hi rest q
        (piece_join o q.names h1 h1 P (record_of t (w ++ u)) (record_of freed d) p1 p2) (rw length-append (omega arith))
        (λ lo f l. append_at m lo f l ∙ rw (e, k, r))

    append_typed : may_append u d ≡ true → number_for u q.names ≡ none → (v : Option ℕ) → number_for type_name q.names ≡ v → EarlyOf o begin (append u d) p g hi rest
    unfolding append_held append_new
    append_typed m e none k = early_refused o begin q (denied (refusal 11 0)) (λ lo f l. append_at m lo f l ∙ rw (e, k))
    append_typed m e (some t) k =
        by_test (room_for freed u q.names)
        (λ r. append_new_lem m e t k r)
        (λ r. early_refused o begin q (denied (refusal 7 (p + length hi))) (λ lo f l. append_at m lo f l ∙ rw (e, k, r, length-append, l)))

    append_named : may_append u d ≡ true → (v : Option ℕ) → number_for u q.names ≡ v → EarlyOf o begin (append u d) p g hi rest
    append_named m (some n) e = append_held_lem m n e
    append_named m none e = append_typed m e (number_for type_name q.names) refl

    append_denied : may_append u d ≡ false → (lo : List ℕ) → call o (append u d) (parts (lo ++ hi) rest) ≡ (denied (refusal 10 0), parts (lo ++ hi) rest)
    unfolding call
    append_denied m lo = rw m

    early_append : EarlyOf o begin (append u d) p g hi rest
    early_append =
        by_test (may_append u d)
        (λ m. append_named m (number_for u q.names) refl)
        (λ m. early_refused o begin q (denied (refusal 10 0)) (λ lo f l. append_denied m lo))

  module _ (n : ℕ) (u : List ℕ) (p : ℕ) (g : Names) (hi rest l0 : List ℕ) (q : Good o begin g p hi) (f0 : Fits o begin l0 g) (n0 : length l0 ≡ p) where
    assign_at : may_assign n u ≡ true → (lo : List ℕ) → Fits o begin lo g → length lo ≡ p → call o (assign n u) (parts (lo ++ hi) rest) ≡ assign_under (number_for type_name q.names) q.names n u (parts (lo ++ hi) rest)
    unfolding call assign_walked
    assign_at m lo f l = rw (m, walks_to_lem p g lo hi q f l)

    assign_under_lem : may_assign n u ≡ true → (t : ℕ) → number_for type_name q.names ≡ some t → room_for n u q.names ≡ true → EarlyOf o begin (assign n u) p g hi rest
    unfolding assign_under
    assign_under_lem m t k r =
        let b = held_by (l0 ++ hi) q.names type_name t (high_stands p g l0 hi q f0 n0) k in
        let a = asked_assign n u m in
        let nn = a.number in
        let w = write_integer number_bytes n in
        let wl = number_long n in
        let ul = a.uri_short in
        let s = write_integer size_bytes (length (write_integer number_bytes t) + length (w ++ u)) in
        let P : ℕ = p + length hi in
        write_early 0 (record_of t (w ++ u)) p g
        (assigned n (P + length s + length (write_integer number_bytes t) + length w) u q.names) (assign n u) hi rest q
        (record_written o q.names (assigned n (P + length s + length (write_integer number_bytes t) + length w) u q.names) P t (pred (length s + length (write_integer number_bytes t ++ (w ++ u)))) (w ++ u)
        (live (entry_of P (P + length s) (assignment n (P + length s + length (write_integer number_bytes t) + length w) u) (row_of q.names t type_name b.names).row (P + length s + length (write_integer number_bytes t)) (w ++ u)))
        q.ends b.number (rw length-append (omega arith))
        (assign_judged q.names P t n s u (row_of q.names t type_name b.names) b.number nn a.uri_good r))
        (record_some t (w ++ u) b.number.1)
        (λ lo f l. assign_at m lo f l ∙ rw (k, r))

    assign_typed : may_assign n u ≡ true → (v : Option ℕ) → number_for type_name q.names ≡ v → EarlyOf o begin (assign n u) p g hi rest
    unfolding assign_under
    assign_typed m none k = early_refused o begin q (denied (refusal 11 0)) (λ lo f l. assign_at m lo f l ∙ rw k)
    assign_typed m (some t) k =
        by_test (room_for n u q.names)
        (λ r. assign_under_lem m t k r)
        (λ r. early_refused o begin q (denied (refusal 7 (p + length hi))) (λ lo f l. assign_at m lo f l ∙ rw (k, r, length-append, l)))

    assign_denied : may_assign n u ≡ false → (lo : List ℕ) → call o (assign n u) (parts (lo ++ hi) rest) ≡ (denied (refusal 10 0), parts (lo ++ hi) rest)
    unfolding call
    assign_denied m lo = rw m

    early_assign : EarlyOf o begin (assign n u) p g hi rest
    early_assign =
        by_test (may_assign n u)
        (λ m. assign_typed m (number_for type_name q.names) refl)
        (λ m. early_refused o begin q (denied (refusal 10 0)) (λ lo f l. assign_denied m lo))

  pub early_of : (c : Call) (p : ℕ) (g : Names) (hi rest l0 : List ℕ) → Fits o begin l0 g → length l0 ≡ p → Good o begin g p hi → mark_call c p ≡ early → EarlyOf o begin c p g hi rest
  unfolding mark_call
  early_of (append u d) p g hi rest l0 f l q m = early_append u d p g hi rest l0 q f l
  early_of (assign n u) p g hi rest l0 f l q m = early_assign n u p g hi rest l0 q f l
  early_of (erase a) p g hi rest l0 f l q m = early_erase o begin a (a - p) p g hi rest q (omega (arith, aimed_early o begin a p m))
  early_of (wipe a n) p g hi rest l0 f l q m = early_wipe o begin a n (a - p) p g hi rest q (omega (arith, aimed_early o begin a p m))
