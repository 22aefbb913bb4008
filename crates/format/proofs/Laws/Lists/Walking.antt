-- The grammar and the walk: each logbook of the grammar is walked to its end, with its entries and its register.
use Rattle.std.specs.Prelude.{◌≡◌, refl, List, [], ◌∷◌, ◌++◌}
use Rattle.std.proofs.Common.{sym, ◌∙◌, append-nil, arith, zero-add, length-append, drop_at}
use Rattle.std.proofs.Math.Bool.{true, false}
use Rattle.std.proofs.Math.Option.{some}
use Prim.Native.Nat.{ℕ, suc, pred, ◌+◌, ◌≤◌}
use Rattle.std.proofs.Math.ListN.{length, drop}
use Rattle.format.specs.Bytes.{same}
use Rattle.format.proofs.Laws.Bytes.{same_self, other_same}
use Rattle.format.specs.Figures.{size_bytes, number_bytes, header_length}
use Rattle.format.specs.Integers.{value, read_integer}
use Rattle.format.specs.Uris.{type_name, header_name}
use Rattle.format.specs.Header.{header_form}
use Rattle.format.specs.Register.{find, Named, Names, named_number, named_uri, written, Rising, uri_of, implied_names}
use Rattle.format.proofs.Laws.Register.{rising_insert, rising_remove, row_of}
use Rattle.format.specs.Records.{plain, header, assignment, Entry, entry_of, Item, padding, deleted, live, got, assigned, room_for, assignable, type_part, named_part, data_part, header_part, assignment_part, element, logbook as the_logbook, item}
use Rattle.format.specs.Grammar.{Listed, listed_at, Writing, writing, RecordOf, Register, Element, Sequence, Logbook, padding as padding_element, deleted as deleted_element, entry as entry_element, assignment as assignment_element, removal as removal_element, header as header_element, done, more, logbook}
use Rattle.format.proofs.Laws.Order.Items.{judged, judgement, judged_bytes, size_judged, past_start, item_element, whole_names}
use Rattle.format.proofs.Laws.Order.Wiping.{writing_reads, head_of}
use Rattle.format.specs.Entries.{told}
use Rattle.format.proofs.Laws.Lists.Shapes.{allowed_shape, header_long, header_shape}
use Rattle.format.proofs.Laws.Lists.Rolls.{Part, part_none, part_join, item_part}
use Rattle.format.proofs.Laws.Lists.Registers.{meaning, implied_meaning, assigned_meaning, removed_meaning, room_of}
use Rattle.format.proofs.Laws.Lists.Parsing.{header_part_lem}

-- ---- one record: its bytes w are the item i, at the first of them
pub record ItemOf (g h : Names) (p : ℕ) (w : List ℕ) (i : Item) : Type 0 where
  pub head : ℕ
  pub tail : List ℕ
  pub is : w ≡ head ∷ tail
  pub gets : item the_logbook g p head tail ≡ got i (length tail) h

record_item : (g h : Names) (p n : ℕ) (a b : List ℕ) (i : Item) → 1 ≤ p → Writing size_bytes a (length b) → 1 ≤ length b → judged g p a b ≡ got i n h → ItemOf g h p (a ++ b) i
unfolding element
record_item g h p n a b i o (writing q z e hi lead low few v) l j = go (head_of q z hi (omega arith))
  where
    go : (x : ℕ) × (c : List ℕ) × (q ++ (z ∷ []) ≡ suc x ∷ c) → ItemOf g h p (a ++ b) i
    go (x, c, d) =
        let f : a ≡ suc x ∷ c = e ∙ d in
        let m : n ≡ length (c ++ b) = sym (judged_bytes p (length a) (a ++ b) b (pred (length a + length b)) g (judgement p (length a) (a ++ b) b (pred (length a + length b)) g j)) ∙ rw (f, length-append c b) (omega arith) in
        let s : item the_logbook g p (suc x) (c ++ b) ≡ got i (length (c ++ b)) h =
        item_element the_logbook g p (suc x) (c ++ b) (past_start the_logbook p o)
        ∙ (rw (append-nil b) at (size_judged g p (suc x ∷ c) b [] (rw f at (writing_reads a (length b) (writing q z e hi lead low few v)))))
        ∙ (rw (f, m) at j) in
        record { head = suc x; tail = c ++ b; is = rw f; gets = s }

item_of_part : {g h : Names} {p : ℕ} {w : List ℕ} {i : Item} → ItemOf g h p w i → Part the_logbook g p w (told i) h
item_of_part {g} {h} {p} {w} {i} c = rw c.is (item_part the_logbook g h p c.head c.tail i c.gets)

record_part : (g h : Names) (p n : ℕ) (a b : List ℕ) (i : Item) → 1 ≤ p → Writing size_bytes a (length b) → 1 ≤ length b → judged g p a b ≡ got i n h → Part the_logbook g p (a ++ b) (told i) h
record_part g h p n a b i o w l j = item_of_part (record_item g h p n a b i o w l j)

judged_named : (g : Names) (p n : ℕ) (a t d : List ℕ) (y : Named) → Writing number_bytes t (suc n) → find named_number (suc n) g ≡ some y
    → judged g p a (t ++ d) ≡ data_part y p (p + length a) (p + length a + length t) (a ++ (t ++ d)) d (pred (length a + length (t ++ d))) g
unfolding type_part named_part
judged_named g p n a t d y w l = rw (writing_reads t (suc n) w d, l, drop_at t d (length t) refl)

-- what an element of the grammar is to the walk
pub record Parsed (g : Names) (p : ℕ) (w : List ℕ) (es : List Listed) (r : Register) : Type 0 where
  pub names : Names
  pub rising : Rising named_number 0 names
  pub means : meaning names ≡ r
  pub part : Part the_logbook g p w es names

pub type_not_header : same type_name header_name ≡ false
unfolding same type_name header_name
type_not_header = refl

pub writing_long : {n : ℕ} (a d : List ℕ) (v : ℕ) → Writing n a v → 1 ≤ length (a ++ d)
writing_long a d v (writing q z e h f l m s) = rw (e, length-append, length-append) (omega arith)

rising_implied : Rising named_number 0 implied_names
unfolding Rising
rising_implied = (omega arith, (omega arith, tt))

rising_assigned : (g : Names) (k q : ℕ) (u : List ℕ) → Rising named_number 0 g → Rising named_number 0 (assigned (suc k) q u g)
unfolding assigned
rising_assigned g k q [] t = rising_remove named_number 0 (suc k) g t
rising_assigned g k q (c ∷ u) t = rising_insert named_number 0 (written (suc k) q (c ∷ u)) g (omega arith) t

pub deleted_item : (g : Names) (p : ℕ) (w d : List ℕ) → 1 ≤ p → (c : RecordOf w 0 d) → ItemOf g g p w (deleted p (length c.size) (length (c.type ++ d)))
unfolding type_part
deleted_item g p w d o c =
    rw c.all
    (record_item g g p (pred (length c.size + length (c.type ++ d))) c.size (c.type ++ d) (deleted p (length c.size) (length (c.type ++ d))) o c.sized (writing_long c.type d 0 c.typed)
    (rw (writing_reads c.type 0 c.typed d)))

module _ (g : Names) (t : Rising named_number 0 g) (p : ℕ) (o : 1 ≤ p) (w d : List ℕ) where
  parsed_deleted : RecordOf w 0 d → Parsed g p w [] (meaning g)
  unfolding told
  parsed_deleted c = record { names = g; rising = t; means = refl; part = item_of_part (deleted_item g p w d o c) }

  -- a live record of type n, which y holds
  parsed_live : (n : ℕ) (y : Named) (h : Names) (e : Entry) → Rising named_number 0 h → (c : RecordOf w (suc n) d) → find named_number (suc n) g ≡ some y
      → data_part y p (p + length c.size) (p + length c.size + length c.type) (c.size ++ (c.type ++ d)) d (pred (length c.size + length (c.type ++ d))) g
      ≡ got (live e) (pred (length c.size + length (c.type ++ d))) h
      → Parsed g p w (listed_at e.place e.uri e.bytes ∷ []) (meaning h)
  unfolding told
  parsed_live n y h e s c l k =
      record {
        names = h;
        rising = s;
        means = refl;
        part = rw c.all (record_part g h p (pred (length c.size + length (c.type ++ d))) c.size (c.type ++ d) (live e) o c.sized (writing_long c.type d (suc n) c.typed)
            (judged_named g p n c.size c.type d y c.typed l ∙ k));
      }

  parsed_entry : (n : ℕ) (u : List ℕ) → RecordOf w (suc n) d → uri_of (suc n) g ≡ some u → (u ≡ header_name → ⊥) → (u ≡ type_name → ⊥) → Parsed g p w (listed_at p u d ∷ []) (meaning g)
  unfolding data_part
  parsed_entry n u c l x y =
      let v = row_of g (suc n) u l in
      rw v.named at
      (parsed_live n v.row g (entry_of p (p + length c.size) plain v.row (p + length c.size + length c.type) d) t c v.found
      (rw (v.named, other_same u header_name x, other_same u type_name y)))

  parsed_header : (n : ℕ) → RecordOf w (suc n) d → uri_of (suc n) g ≡ some header_name → header_form w ≡ true → Parsed g p w (listed_at p header_name d ∷ []) (meaning implied_names)
  unfolding data_part header_part
  parsed_header n c l f =
      let v = row_of g (suc n) header_name l in
      rw v.named at
      (parsed_live n v.row implied_names (entry_of p (p + length c.size) header v.row (p + length c.size + length c.type) d) rising_implied c v.found
      (rw (v.named, same_self header_name, ← c.all, f)))

  parsed_assigned : (n k : ℕ) (m u : List ℕ) → d ≡ m ++ u → RecordOf w (suc n) d → uri_of (suc n) g ≡ some type_name → Writing number_bytes m (suc k) → assignable (suc k) u ≡ true → room_for (suc k) u g ≡ true
      → (q : ℕ) × Parsed g p w (listed_at p type_name d ∷ []) (meaning (assigned (suc k) q u g))
  unfolding data_part assignment_part
  parsed_assigned n k m u e c l v x y =
      let q : ℕ = p + length c.size + length c.type in
      let z = row_of g (suc n) type_name l in
      let i : same (named_uri z.row) header_name ≡ false = rw z.named type_not_header in
      let j : same (named_uri z.row) type_name ≡ true = rw z.named (same_self type_name) in
      let b : drop (length m) d ≡ u = rw e (drop_at m u (length m) refl) in
      let a : read_integer number_bytes d ≡ value (suc k) (length m) = rw e (writing_reads m (suc k) v u) in (
        q + length m,
        rw z.named at
            (parsed_live n z.row (assigned (suc k) (q + length m) u g) (entry_of p (p + length c.size) (assignment (suc k) (q + length m) u) z.row q d) (rising_assigned g k (q + length m) u t) c z.found
            (rw (i, j, a, b, x, y))),
      )

parsed_as : {g : Names} {p : ℕ} {w : List ℕ} {es : List Listed} {r s : Register} → r ≡ s → Parsed g p w es r → Parsed g p w es s
parsed_as e x = rw (← e) x

pub parse_element : {r r1 : Register} {p : ℕ} {w : List ℕ} {es : List Listed} → Element r p w es r1 → (g : Names) → r ≡ meaning g → Rising named_number 0 g → 1 ≤ p → Parsed g p w es r1
unfolding element told assignable room_for
parse_element (padding_element {p = p}) g e t o =
    record {
      names = g;
      rising = t;
      means = sym e;
      part = item_part the_logbook g g p 0 [] (padding p) (item_element the_logbook g p 0 [] (past_start the_logbook p o));
    }
parse_element (deleted_element {p = p} {w = w} {d = d} c) g e t o = parsed_as (sym e) (parsed_deleted g t p o w d c)
parse_element (entry_element {p = p} {n = n} {w = w} {d = d} {u = u} c l x y) g e t o = parsed_as (sym e) (parsed_entry g t p o w d n u c (rw e at l) x y)
parse_element (assignment_element {r = r} {p = p} {n = n} {k = k} {w = w} m c u z l v a b) g e t o =
    let q = parsed_assigned g t p o w (m ++ (c ∷ u)) n k m (c ∷ u) refl z (rw e at l) v (allowed_shape (suc k) (c ∷ u) a) (room_of g (suc k) t (rw e at b)) in
    parsed_as (assigned_meaning g (suc k) q.0 c u ∙ rw e) q.1
parse_element (removal_element {r = r} {p = p} {n = n} {k = k} {w = w} {m = m} z l v) g e t o =
    let q = parsed_assigned g t p o w m n k m [] (sym (append-nil m)) z (rw e at l) v refl refl in
    parsed_as (removed_meaning g (suc k) q.0 t ∙ rw e) q.1
parse_element (header_element {p = p} {n = n} {w = w} {d = d} c l f) g e t o = parsed_as implied_meaning (parsed_header g t p o w d n c (rw e at l) (header_shape w f))

parsed_join : {g : Names} {p : ℕ} {w x : List ℕ} {e es : List Listed} {r1 r2 : Register} → (a : Parsed g p w e r1) → Parsed a.names (p + length w) x es r2 → Parsed g p (w ++ x) (e ++ es) r2
parsed_join a b = record { names = b.names; rising = b.rising; means = b.means; part = part_join the_logbook a.part b.part }

pub parse_sequence : {r r2 : Register} {p : ℕ} {x : List ℕ} {es : List Listed} → Sequence r p x es r2 → (g : Names) → r ≡ meaning g → Rising named_number 0 g → 1 ≤ p → Parsed g p x es r2
parse_sequence (done {p = p}) g e t o = record { names = g; rising = t; means = sym e; part = part_none the_logbook g p }
parse_sequence (more {r1 = r1} {p = p} {w = w} {e = f} el s) g e t o =
    let a : Parsed g p w f r1 = parse_element el g e t o in
    parsed_join a (parse_sequence s a.names (sym a.means) a.rising (omega arith))

pub parse_logbook : {l : List ℕ} {es : List Listed} {r : Register} → Logbook l es r → Parsed [] 0 l es r
parse_logbook (logbook h {x = x} {es = es} {r = r} f s) =
    let a : Parsed [] 0 h (listed_at 0 header_name (drop 2 h) ∷ []) (meaning implied_names) = record { names = implied_names; rising = rising_implied; means = refl; part = header_part_lem h (header_shape h f) } in
    let b : Parsed implied_names (0 + length h) x es r = rw zero-add (parse_sequence s implied_names (sym implied_meaning) rising_implied (omega (arith, header_long h f))) in
    parsed_join a b

pub logbook_long : {l : List ℕ} {es : List Listed} {r : Register} → Logbook l es r → header_length ≤ length l
logbook_long (logbook h {x = x} f s) = rw length-append (omega (arith, header_long h f))

-- a logbook has one list and one register
pub one_list_lem : {l : List ℕ} {es fs : List Listed} {r s : Register} → Logbook l es r → Logbook l fs s → (es ≡ fs) × (r ≡ s)
one_list_lem a b =
    let x = parse_logbook a in
    let y = parse_logbook b in
    let q : x.names ≡ y.names = whole_names the_logbook (sym x.part.walks ∙ y.part.walks) in
    (sym x.part.rolls ∙ y.part.rolls, sym x.means ∙ rw q y.means)
