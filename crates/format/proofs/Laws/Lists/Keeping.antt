-- What an erase and each store of a wipe do to the list of any log, whether it is read to its end or not.
use Rattle.std.specs.Prelude.{◌≡◌, refl, false, ℕ, zero, suc, ◌+◌, ◌≤◌, ◌<◌, length, take, set, replicate}
use Rattle.std.proofs.Common.{sym, ap, ◌∙◌, arith, zero-add, length-append}
use mathlib.Core.List.{List, [], ◌∷◌, ◌++◌, append_assoc, append-nil}
use Rattle.std.proofs.lemmas.List.{set_at}
use Rattle.format.specs.Figures.{size_bytes, number_bytes}
use Rattle.format.specs.Register.{Names, named_number, Rising}
use Rattle.format.specs.Records.{plain, Entry, deleted, live, got, logbook, at_header, item}
use Rattle.format.specs.Reading.{whole, walk}
use Rattle.format.specs.Calls.{stores, splice}
use Rattle.format.specs.Grammar.{Listed, Writing, writing, RecordOf, Register, Sequence, padding as padding_element, deleted as deleted_element, done, more, High, NoEmptyLead, leads_value}
use Rattle.format.specs.Entries.{told, TypeByte}
use Rattle.format.proofs.Laws.Order.Items.{gone, walk_append, Piece, Spot, spot}
use Rattle.format.proofs.Laws.Order.Standing.{stands_none, walk_stands, stands_more}
use Rattle.format.proofs.Laws.Order.Wiping.{Quiet, none, zeros, gone, dead_quiet, quiet_piece, Dead, full, stores_dead, stores_length}
use Rattle.format.proofs.Laws.Order.Changes.{RecordAt, plain_at, deleted_at, splice_at}
use Rattle.format.proofs.Laws.Lists.Rolls.{roll, roll_append, Part, part_walk, part_roll, got_part}
use Rattle.format.proofs.Laws.Lists.Registers.{meaning}
use Rattle.format.proofs.Laws.Lists.Walking.{parse_sequence}
use Rattle.format.proofs.Laws.Lists.Steps.{past_of}
use Rattle.format.proofs.Laws.Lists.Places.{item_tells}

-- ---- deleted records and padding give no entry
zero_writing : Writing number_bytes (0 ∷ []) 0
unfolding High NoEmptyLead leads_value
zero_writing = writing [] 0 refl tt tt (omega arith) (omega arith) (omega arith)

pub deleted_record_lem : (a b : List ℕ) → Writing size_bytes a (suc (length b)) → RecordOf (a ++ (0 ∷ b)) 0 b
deleted_record_lem a b s = record { size = a; type = 0 ∷ []; all = refl; sized = s; typed = zero_writing }

zeros_sequence : (r : Register) (p n : ℕ) → Sequence r p (replicate n 0) [] r
zeros_sequence r p zero = done
zeros_sequence r p (suc n) = more padding_element (zeros_sequence r (p + 1) n)

quiet_sequence : (r : Register) (p : ℕ) (w : List ℕ) → Quiet w → Sequence r p w [] r
quiet_sequence r p w none = done
quiet_sequence r p w (zeros n) = zeros_sequence r p n
quiet_sequence r p w (gone a b v s q) = more (deleted_element (deleted_record_lem a b s)) (quiet_sequence r (p + length (a ++ (0 ∷ b))) v q)

module _ (g : Names) (rises : Rising named_number 0 g) (p : ℕ) (past : 1 ≤ p) (away : at_header logbook p ≡ false) where
  piece_walk : (w : List ℕ) → Piece logbook g p w g → walk logbook 0 g p w ≡ whole g
  unfolding walk
  piece_walk w q = rw append-nil at (q [])

  quiet_part : (w : List ℕ) → Quiet w → Part logbook g p w [] g
  quiet_part w q =
      record { walks = piece_walk w (λ t. quiet_piece logbook g p w away q t); rolls = (parse_sequence (quiet_sequence (meaning g) p w q) g refl rises past).part.rolls }

-- ---- one part of a log in the place of another of its length
pub record Changed (l l1 : List ℕ) (es fs : List Listed) : Type 0 where
  pub before : List Listed
  pub behind : List Listed
  pub was : roll logbook 0 [] 0 l ≡ before ++ (es ++ behind)
  pub now : roll logbook 0 [] 0 l1 ≡ before ++ (fs ++ behind)
  pub same_walk : walk logbook 0 [] 0 l1 ≡ walk logbook 0 [] 0 l
  pub same_length : length l1 ≡ length l

changed : (g h : Names) (q : ℕ) (a w v ys : List ℕ) (es fs : List Listed) → walk logbook 0 [] 0 a ≡ whole g → length a ≡ q → Part logbook g q w es h → Part logbook g q v fs h → length v ≡ length w
    → Changed (a ++ (w ++ ys)) (a ++ (v ++ ys)) es fs
changed g h q a w v ys es fs e l b c k =
    let x : walk logbook 0 [] 0 (a ++ (w ++ ys)) ≡ walk logbook 0 h (q + length w) ys = walk_append logbook 0 [] g 0 a (w ++ ys) e ∙ rw (zero-add, l) (part_walk logbook b ys) in
    let y : walk logbook 0 [] 0 (a ++ (v ++ ys)) ≡ walk logbook 0 h (q + length v) ys = walk_append logbook 0 [] g 0 a (v ++ ys) e ∙ rw (zero-add, l) (part_walk logbook c ys) in
    record {
      before = roll logbook 0 [] 0 a;
      behind = roll logbook 0 h (q + length w) ys;
      was = roll_append logbook 0 [] g 0 a (w ++ ys) e ∙ rw (zero-add, l, part_roll logbook b ys);
      now = roll_append logbook 0 [] g 0 a (v ++ ys) e ∙ rw (zero-add, l, part_roll logbook c ys, k);
      same_walk = y ∙ rw k (sym x);
      same_length = simp length-append (omega arith);
    }

walk_rising : (a : List ℕ) (g : Names) → walk logbook 0 [] 0 a ≡ whole g → Rising named_number 0 g
walk_rising a g e = (walk_stands a logbook 0 [] g 0 a refl (stands_more [] a [] (stands_none [])) e).rising

-- ---- an erase
pub record Erasing (l : List ℕ) (q : ℕ) (e : Entry) : Type 0 where
  pub width : ℕ
  pub place : e.type_place ≡ q + width
  pub stands : e.place ≡ q
  pub inside : q + width < length l
  pub type_byte : TypeByte l q (q + width)
  pub change : Changed l (set l (q + width) 0) (told (live e)) []

erase_record : (l a xs : List ℕ) (g : Names) (q x y : ℕ) (es : List Listed) → walk logbook 0 [] 0 a ≡ whole g → length a ≡ q → l ≡ a ++ (x ∷ xs) → (r : RecordAt logbook g q x xs y) → Part logbook g q (r.size ++ (y ∷ r.rest)) es g
    → Changed l (set l (q + length r.size) 0) es [] × (q + length r.size < length l)
erase_record l a xs g q x y es w n e r t =
    let z : List ℕ = r.size in
    let k : List ℕ = r.rest in
    let ys : List ℕ = r.behind in
    let s : l ≡ a ++ ((z ++ (y ∷ k)) ++ ys) = e ∙ ap (λ (v : List ℕ). a ++ v) r.is ∙ rw (append_assoc z (y ∷ k) ys) in
    let x1 : a ++ ((z ++ (y ∷ k)) ++ ys) ≡ (a ++ z) ++ (y ∷ (k ++ ys)) = simp append_assoc in
    let x2 : (a ++ z) ++ (0 ∷ (k ++ ys)) ≡ a ++ ((z ++ (0 ∷ k)) ++ ys) = simp append_assoc in
    let m : length (a ++ z) ≡ q + length z = length-append a z ∙ ap (λ (j : ℕ). j + length z) n in
    let st : set l (q + length z) 0 ≡ a ++ ((z ++ (0 ∷ k)) ++ ys) = rw (s, x1) (set_at (a ++ z) y (k ++ ys) 0 (q + length z) m ∙ x2) in
    let d : Part logbook g q (z ++ (0 ∷ k)) [] g = quiet_part g (walk_rising a g w) q (past_of q r.past) r.past (z ++ (0 ∷ k)) (dead_quiet (length z) (z ++ (0 ∷ k)) (full z k refl refl r.sized)) in (
      rw (st, s) (changed g g q a (z ++ (y ∷ k)) (z ++ (0 ∷ k)) ys es [] w n t d (simp length-append)),
      rw (s, x1, length-append (a ++ z) (y ∷ (k ++ ys))) (omega arith),
    )

type_byte_lem : (l a xs : List ℕ) (g : Names) (q x y : ℕ) → length a ≡ q → l ≡ a ++ (x ∷ xs) → (r : RecordAt logbook g q x xs y) → TypeByte l q (q + length r.size)
type_byte_lem l a xs g q x y n e r =
    record { low = a; size = r.size; first = y; rest = r.rest; high = r.behind; splits = e ∙ ap (λ (v : List ℕ). a ++ v) r.is; stands = n; sized = r.sized; place = refl }

pub erase_list : (l : List ℕ) (q : ℕ) (e : Entry) → e.kind ≡ plain → Spot logbook q 0 [] 0 l (live e) → Erasing l q e
erase_list l q e k (spot a x xs g h n c m w i) =
    let i0 : item logbook g q x xs ≡ got (live e) n h = rw zero-add at i in
    let r = plain_at logbook g h q x n xs e i0 k in
    let v : x ∷ take n xs ≡ r.row.size ++ (r.first ∷ r.row.rest) = r.row.single (live e) n h i0 in
    let t : Part logbook g q (r.row.size ++ (r.first ∷ r.row.rest)) (told (live e)) g =
    record { walks = piece_walk g (walk_rising a g w) q (past_of q r.row.past) r.row.past (r.row.size ++ (r.first ∷ r.row.rest)) r.row.piece; rolls = rw (← v) (got_part logbook g h q x n xs (live e) i0).rolls } in
    let z = erase_record l a xs g q x r.first (told (live e)) w m c r.row t in
    record { width = length r.row.size; place = r.place; stands = (item_tells g h q x n xs e i0).0; inside = z.1; type_byte = type_byte_lem l a xs g q x r.first m c r.row; change = z.0 }

-- ---- a wipe: the bytes of the record, all else the same, after any number of stores
pub record WipingAt (l : List ℕ) (q k n : ℕ) : Type 0 where
  pub low : List ℕ
  pub body : List ℕ
  pub high : List ℕ
  pub splits : l ≡ low ++ (body ++ high)
  pub stands : length low ≡ q
  pub long : length body ≡ k + n
  pub bytes : List ℕ
  pub deleted_record : RecordOf body 0 bytes
  pub sized : k ≡ length deleted_record.size
  pub width : k ≤ length body
  pub spliced : (m : ℕ) → splice q (k + n) (stores m k) l ≡ low ++ (stores m k body ++ high)
  pub change : (m : ℕ) → Changed l (splice q (k + n) (stores m k) l) [] []

wipe_record : (l a xs : List ℕ) (g : Names) (q x k n : ℕ) → walk logbook 0 [] 0 a ≡ whole g → length a ≡ q → l ≡ a ++ (x ∷ xs) → (r : RecordAt logbook g q x xs 0) → k ≡ length r.size → n ≡ suc (length r.rest) → WipingAt l q k n
unfolding deleted_record_lem
wipe_record l a xs g q x k n w m e r ek en =
    let z : List ℕ = r.size in
    let b : List ℕ = r.rest in
    let v : List ℕ = z ++ (0 ∷ b) in
    let s : l ≡ a ++ (v ++ r.behind) = e ∙ ap (λ (y : List ℕ). a ++ y) r.is ∙ rw (append_assoc z (0 ∷ b) r.behind) in
    let c : length v ≡ k + n = length-append z (0 ∷ b) ∙ rw (ek, en) in
    let d : Dead k v = full z b refl (sym ek) r.sized in
    let p : (j : ℕ) → Part logbook g q (stores j k v) [] g = λ j. quiet_part g (walk_rising a g w) q (past_of q r.past) r.past (stores j k v) (dead_quiet k (stores j k v) (stores_dead j k v d)) in
    let f : (j : ℕ) → splice q (k + n) (stores j k) l ≡ a ++ (stores j k v ++ r.behind) = λ j. rw s (splice_at logbook q (k + n) (stores j k) a v r.behind m c) in
    record {
      low = a;
      body = v;
      high = r.behind;
      splits = s;
      stands = m;
      long = c;
      bytes = b;
      deleted_record = deleted_record_lem z b r.sized;
      sized = ek;
      width = omega arith;
      spliced = f;
      change = λ j. rw (f j, s) (changed g g q a v (stores j k v) r.behind [] [] w m (quiet_part g (walk_rising a g w) q (past_of q r.past) r.past v (dead_quiet k v d)) (p j) (stores_length j k v));
    }

pub wipe_list : (l : List ℕ) (q r k n : ℕ) → Spot logbook q 0 [] 0 l (deleted r k n) → WipingAt l q k n
wipe_list l q r k n (spot a x xs g h m c j w i) =
    let d = deleted_at logbook g h q x m r k n xs (rw zero-add at i) in
    wipe_record l a xs g q x k n w j c d.row d.width d.body
