-- Where the item that a step shows stands, its number, which row gave it its URI; and where the end is shown.
use Rattle.std.specs.Prelude.{◌≡◌, Bool, true, false, cond, drop}
use Rattle.std.proofs.Math.Path.{refl, sym, ap}
use Rattle.std.proofs.Common.{◌∙◌, subst, eqb-true, length-append, take-append-drop, drop_at}
use mathlib.Core.List.{List, [], ◌∷◌, ◌++◌}
use Rattle.std.proofs.Math.Option.{Option, none, some, map}
use Prim.Native.Nat.{ℕ, zero, suc, pred, ◌+◌, ◌-◌, ◌≤◌}
use native.Mathlib.Omega.{arith}
use Rattle.std.proofs.Math.ListN.{length, take, length-drop}
use Rattle.std.proofs.Math.Seq.{length-take-le}
use Rattle.format.proofs.Laws.Cases.{by_test, from_zero_one, true_false}
use Rattle.format.specs.Bytes.{part_of}
use Rattle.format.proofs.Laws.Bytes.{part_more}
use Rattle.format.specs.Figures.{size_bytes, number_bytes, header_length}
use Rattle.format.specs.Integers.{value, read_integer}
use Rattle.format.proofs.Laws.Integers.{read_exact}
use Rattle.format.specs.Register.{find, Row, KeptRow, number_of, held_rows, uri_in, implied_row, Named, implied, Names, named_number, named_uri, name_in, row_for}
use Rattle.format.proofs.Laws.Register.{find_number, seen_find, seen_uri, seen_row, some_some}
use Rattle.format.specs.Records.{Entry, entry_of, Kind, header, Refusal, refusal, Item, padding, deleted, live, Got, bad, got, element, header_at, logbook, at_header, item}
use Rattle.format.specs.Reading.{Reading, fits, names_in, counted, declared_in, Report, report_of, shown, end, refused, Stepped, stepped, declared_by, table_after, declaration, moved, at_end, step_at, step}
use Rattle.format.specs.Calls.{Book, used_bytes, parted, sound, step_on, fit_alone, resolve, uri_there}
use Rattle.format.proofs.Laws.Calls.{used_long}
use Rattle.format.specs.Refusals.{Fitting}
use Rattle.format.proofs.Laws.Denials.Fits.{fits_mean, row_inside, declared_found, row_fits_alone}
use Rattle.format.specs.Grammar.{RecordOf, writing, High, NoEmptyLead, leads_value}
use Rattle.format.specs.Shapes.{HeaderShape}
use Rattle.format.specs.Entries.{EntryAt, ItemAt, a_padding, a_deleted, an_entry, Counted, Shows, Ends, RowFrom, of_header, of_reading, RowShown}
use Rattle.format.proofs.Laws.Order.Items.{got_item, got_bytes, Judgement, gone, entry, heading, assigning, judgement, Sizes, Form, form, size_form, item_element, item_header, item_exact}
use Rattle.format.proofs.Laws.Order.Standing.{rows_number}
use Rattle.format.proofs.Laws.Order.Changes.{head_entry, head_item}
use Rattle.format.proofs.Laws.Lists.Shapes.{header_long, shape_header}
use Rattle.format.proofs.Laws.Lists.Parsing.{record_read, head_got, first_two}
use Rattle.format.proofs.Laws.Lists.Numbers.{Counts, step_counts, refused_shown, shown_item, end_shown}
use Rattle.format.proofs.Laws.Lists.Resolving.{resolved}
use Rattle.format.proofs.Laws.Lists.Places.{not_deleted_lem, not_padding, live_entry}
use Rattle.format.specs.Rows.{InsideKept}

-- ---- a record's data are its bytes from the data place to its end
data_to_end : (l : List ℕ) (p q n : ℕ) (w d : List ℕ) (r : RecordOf w n d) → part_of p q l ≡ w → d ≡ part_of (p + length r.size + length r.type) q l
data_to_end l p q n w d r e =
    rw (part_more (p + length r.size) (length r.type) q l, part_more p (length r.size) q l, e, r.all, drop_at r.size (r.type ++ d) (length r.size) refl)
    (sym (drop_at r.type d (length r.type) refl))

-- a live entry whose record is w
entry_at : (l : List ℕ) (p q : ℕ) (k : Kind) (y : Named) (w d : List ℕ) (r : RecordOf w (row_for y).number d) → part_of p q l ≡ w → (t c : ℕ) → t ≡ p + length r.size → c ≡ p + length r.size + length r.type
    → EntryAt l p q (entry_of p t k y c d)
entry_at l p q k y w d r e t c f g =
    record {
      place = refl;
      bytes = w;
      all = e;
      is_record = r;
      type_place = f;
      data_place = g;
      to_end = data_to_end l p q (row_for y).number w d r e ∙ rw g;
    }

-- ---- a record that is judged
module _ (l : List ℕ) (p q : ℕ) (a b : List ℕ) (here : part_of p q l ≡ a ++ b) (ends : q ≡ p + length a + length b) (m : Sizes a b) (g : Names) where
  live_at_lem : (y : Named) (k : Kind) (n j : ℕ) → read_integer number_bytes b ≡ value n j → find named_number n g ≡ some y → ItemAt l p q (live (entry_of p (p + length a) k y (p + length a + j) (drop j b)))
  unfolding record_read
  live_at_lem y k n j r s =
      let z : (row_for y).number ≡ n = rows_number y ∙ find_number named_number n g y s in
      let i : length (take j b) ≡ j = length-take-le j b (read_exact number_bytes b n j r).inside in
      an_entry _ (entry_at l p q k y (a ++ b) (drop j b) (record_read a b (row_for y).number j m (r ∙ ap (λ (x : ℕ). value x j) (sym z))) here (p + length a) (p + length a + j) refl (rw i))

  judged_at : (w : List ℕ) (n o : ℕ) (h : Names) (i : Item) → Judgement p (length a) w b n g i o h → ItemAt l p q i
  unfolding record_read
  judged_at w n o h i (gone j r) = a_deleted (length a) (length b) (a ++ b) (drop j b) (record_read a b 0 j m r) here refl (rw take-append-drop) ends
  judged_at w n o h i (entry c j y r s x z) = live_at_lem y _ (suc c) j r s
  judged_at w n o h i (heading c j y r s x f) = live_at_lem y _ (suc c) j r s
  judged_at w n o h i (assigning c j k v y r s x z e f t) = live_at_lem y _ (suc c) j r s

-- ---- an item at p of the log
head_record : (h : List ℕ) → HeaderShape h → RecordOf h 111 (drop 2 h)
unfolding High NoEmptyLead leads_value
head_record h s =
    let n : length (drop 2 h) ≡ header_length - 2 = length-drop 2 h ∙ rw (header_long h s) refl in
    record {
      size = 0x6C ∷ [];
      type = 0x6F ∷ [];
      all = rw s.all;
      sized = rw n (writing [] 0x6C refl tt tt (omega arith) (omega arith) (omega arith));
      typed = writing [] 0x6F refl tt tt (omega arith) (omega arith) (omega arith);
    }

module _ (l : List ℕ) (p : ℕ) (x : ℕ) (xs : List ℕ) (here : drop p l ≡ x ∷ xs) where
  part_here : (n : ℕ) → part_of p (p + n) l ≡ take n (x ∷ xs)
  unfolding part_of
  part_here n = let e : p + n - p ≡ n = omega arith in rw (e, here)

  form_at : (g h : Names) (n : ℕ) (i : Item) → Form g p (x ∷ xs) i n h → ItemAt l p (p + suc n) i
  form_at g h n i (form a b ys e m j z) =
      let s : 1 ≤ length a = (read_exact size_bytes (a ++ []) (length b) (length a) (m [])).some in
      let k : suc n ≡ length (a ++ b) = rw length-append (omega arith) in
      let w : part_of p (p + suc n) l ≡ a ++ b = part_here (suc n) ∙ ap (take (suc n)) e ∙ first_two (suc n) a b ys k in
      judged_at l p (p + suc n) a b w (omega arith) m g (a ++ b) (pred (length a + length b)) n h i (judgement p (length a) (a ++ b) b (pred (length a + length b)) g j)

  head_at : (h : Names) (n : ℕ) (i : Item) → p ≡ 0 → header_at (x ∷ xs) ≡ got i n h → ItemAt l p (p + suc n) i
  unfolding head_record
  head_at h n i z e =
      let f = head_got x xs i n h e in
      let w : List ℕ = x ∷ take (pred header_length) xs in
      let s : HeaderShape w = shape_header w f.0 in
      let b : part_of 0 header_length l ≡ w = rw z at (part_here header_length) in
      rw ((head_item (x ∷ xs) i n h e).0, f.1, z)
      (an_entry (head_entry (x ∷ xs)) (entry_at l 0 header_length header (implied 111) w (drop 2 w) (head_record w s) b 1 2 refl refl))

item_at_lem : (l : List ℕ) (g h : Names) (p x n : ℕ) (xs : List ℕ) (i : Item) → drop p l ≡ x ∷ xs → item logbook g p x xs ≡ got i n h → ItemAt l p (p + suc n) i
unfolding element
item_at_lem l g h p x n xs i d e =
    by_test (at_header logbook p)
    (λ f. head_at l p x xs d h n i (eqb-true p 0 f) (sym (item_header logbook g p x xs f) ∙ e))
    (λ f. at_element x d (sym (item_element logbook g p x xs f) ∙ e))
  where
    at_element : (x : ℕ) → drop p l ≡ x ∷ xs → element g p x xs ≡ got i n h → ItemAt l p (p + suc n) i
    at_element zero d e =
        rw (← (got_item e), ← (got_bytes e)) (a_padding (part_here l p 0 xs d 1) (omega arith))
    at_element (suc x) d e = form_at l p (suc x) xs d g h n i (size_form g h p n (suc x ∷ xs) i e)

-- ---- a step that shows an item: it was neither refused nor at the end
pub record Looked (b : Book) (r r1 : Reading) (i : Item) : Type 0 where
  pub is_sound : sound b ≡ true
  pub is_fit : fits r (length (used_bytes b)) ≡ true
  pub byte : ℕ
  pub bytes : List ℕ
  pub behind : ℕ
  pub names : Names
  pub here : drop r.position (used_bytes b) ≡ byte ∷ bytes
  pub gets : item logbook (names_in (used_bytes b) r) r.position byte bytes ≡ got i behind names
  pub moves : r1.position ≡ r.position + suc behind
  pub table : r1.table ≡ table_after i (declaration i r) r.table

answer_of : {s t : Stepped} → s ≡ t → s.answer ≡ t.answer
answer_of e = ap (λ (s : Stepped). s.answer) e

module _ (b : Book) (r r1 : Reading) (i : Item) (n : Report) where
  looked_got : (s : sound b ≡ true) (f : fits r (length (used_bytes b)) ≡ true) (x : ℕ) (xs : List ℕ) → drop r.position (used_bytes b) ≡ x ∷ xs
      → (v : Got) → item logbook (names_in (used_bytes b) r) r.position x xs ≡ v → moved v r ≡ stepped (shown i n) r1 → Looked b r r1 i
  unfolding moved
  looked_got s f x xs d (bad y) q e = refused_shown (answer_of e)
  looked_got s f x xs d (got j m h) q e =
      let z : j ≡ i = shown_item (answer_of e) in
      record {
        is_sound = s;
        is_fit = f;
        byte = x;
        bytes = xs;
        behind = m;
        names = h;
        here = d;
        gets = q ∙ rw z;
        moves = sym (ap (λ (t : Stepped). t.reading.position) e);
        table = sym (ap (λ (t : Stepped). t.reading.table) e) ∙ ap (λ (k : Item). table_after k (declaration k r) r.table) z;
      }

  looked_at : (s : sound b ≡ true) (f : fits r (length (used_bytes b)) ≡ true) (xs : List ℕ) → drop r.position (used_bytes b) ≡ xs
      → step_at logbook (names_in (used_bytes b) r) xs r ≡ stepped (shown i n) r1 → Looked b r r1 i
  unfolding step_at at_end
  looked_at s f [] d e =
      end_shown (at_header logbook r.position) (refusal 2 0) r.position (answer_of e)
  looked_at s f (x ∷ xs) d e = looked_got s f x xs d (item logbook (names_in (used_bytes b) r) r.position x xs) refl e

  pub looked : step_on logbook b r ≡ stepped (shown i n) r1 → Looked b r r1 i
  unfolding step_on step parted
  looked e =
      by_test (sound b)
      (λ s. by_test (fits r (length (used_bytes b)))
      (λ f. looked_at s f (drop r.position (used_bytes b)) refl (rw (s, f) at e))
      (λ f. refused_shown (answer_of (rw (s, f) at e))))
      (λ s. refused_shown (answer_of (rw s at e)))

book_long : (b : Book) → sound b ≡ true → length (used_bytes b) ≡ b.used
unfolding sound
book_long b s = used_long b.buffer b.used s

counted_as : (i : Item) (r : Reading) (n : Report) (c1 : ℕ) → (n ≡ report_of i r) × (c1 ≡ counted i r.count) → Counted i r.count n c1
unfolding declared_by
counted_as (padding p) r n c1 k = k
counted_as (deleted p j s) r n c1 k = k
counted_as (live e) r n c1 k = (ap (λ (x : Report). x.number) k.0, k.1)

pub step_shows : (b : Book) (r r1 : Reading) (i : Item) (n : Report) → step_on logbook b r ≡ stepped (shown i n) r1 → Shows b r r1 i n
step_shows b r r1 i n e =
    let k = looked b r r1 i n e in
    let m = k.moves in
    let x = (item_exact logbook (names_in (used_bytes b) r) k.names r.position k.byte k.behind k.bytes i k.gets).inside in
    let d : length (drop r.position (used_bytes b)) ≡ suc (length k.bytes) = ap length k.here in
    record {
      moves = omega arith;
      within = omega (arith, length-drop r.position (used_bytes b), book_long b k.is_sound);
      stands = rw m (item_at_lem (used_bytes b) (names_in (used_bytes b) r) k.names r.position k.byte k.behind k.bytes i k.here k.gets);
      counts = counted_as i r n r1.count (subst (Counts r) e (step_counts b r) i n refl);
    }

-- ---- the end
shown_end : {P : Type 0} {i : Item} {n : Report} {p : ℕ} → shown i n ≡ end p → P
shown_end e = from_zero_one (cc)

refused_end : {P : Type 0} {x : Refusal} {p : ℕ} → refused x ≡ end p → P
refused_end e = from_zero_one (cc)

module _ (b : Book) (r r1 : Reading) (p : ℕ) where
  ends_got : (v : Got) → moved v r ≡ stepped (end p) r1 → Ends b r r1 p
  unfolding moved
  ends_got (bad y) e = refused_end (answer_of e)
  ends_got (got j m h) e = shown_end (answer_of e)

  ends_none : r.position ≡ b.used → (t : Bool) → stepped (cond t (refused (refusal 2 0)) (end r.position)) r ≡ stepped (end p) r1 → Ends b r r1 p
  ends_none z true e = refused_end (answer_of e)
  ends_none z false e =
      let q : r.position ≡ p = end_place (answer_of e) in
      record { here = z; place = sym q ∙ z; same = sym (ap (λ (s : Stepped). s.reading) e) }
    where
      end_place : {m n : ℕ} → end m ≡ end n → m ≡ n
      end_place e = cc

  ends_at : r.position ≤ length (used_bytes b) → length (used_bytes b) ≡ b.used → (xs : List ℕ) → drop r.position (used_bytes b) ≡ xs
      → step_at logbook (names_in (used_bytes b) r) xs r ≡ stepped (end p) r1 → Ends b r r1 p
  unfolding step_at at_end
  ends_at h k [] d e =
      let z : length (drop r.position (used_bytes b)) ≡ 0 = ap length d in
      ends_none (omega (arith, h, k, length-drop r.position (used_bytes b))) (at_header logbook r.position) e
  ends_at h k (x ∷ xs) d e = ends_got (item logbook (names_in (used_bytes b) r) r.position x xs) e

pub step_ends : (b : Book) (r r1 : Reading) (p : ℕ) → step_on logbook b r ≡ stepped (end p) r1 → Ends b r r1 p
unfolding step_on step parted
step_ends b r r1 p e =
    by_test (sound b)
    (λ s. by_test (fits r (length (used_bytes b)))
    (λ f. ends_at b r r1 p ((fits_mean r (length (used_bytes b))).0 f).within (book_long b s) (drop r.position (used_bytes b)) refl (rw (s, f) at e))
    (λ f. refused_end (answer_of (rw (s, f) at e))))
    (λ s. refused_end (answer_of (rw s at e)))

-- ---- the row
-- the row of an entry, and what the reading reports of it
abbrev Rowed : Book → Reading → Entry → Type 0
Rowed b r e = RowShown b r e (declared_in e.row (held_rows r.table))

module _ (b : Book) (r : Reading) (s : sound b ≡ true) (f : fits r (length (used_bytes b)) ≡ true) (past : 1 ≤ r.position) where
  fitting : Fitting r b.used
  fitting = (fits_mean r b.used).0 (rw (book_long b s) at f)

  -- of a name that the register has, the row is the reading's
  row_named : (n : ℕ) (y : Named) → 1 ≤ n → (v : Option KeptRow) → find number_of n (held_rows r.table) ≡ v → map (name_in (used_bytes b)) v ≡ some y → (e : Entry) → e.row ≡ row_for y → e.uri ≡ named_uri y
      → Rowed b r e
  row_named n y o none q z e u w = from_zero_one (cc)
  row_named n y o (some x) q z e u w =
      let t : name_in (used_bytes b) x ≡ y = some_some z in
      let m : InsideKept (length (used_bytes b)) x = rw (book_long b s) (row_inside r b.used n x fitting q) in
      let a : e.row ≡ x.row = u ∙ ap row_for (sym t) ∙ seen_row (used_bytes b) x.row m.row in
      let c : uri_in (used_bytes b) x.row ≡ e.uri = sym (w ∙ ap named_uri (sym t) ∙ seen_uri (used_bytes b) x.row) in
      let j : find number_of (number_of x) (held_rows r.table) ≡ some x = ap (λ (i : ℕ). find number_of i (held_rows r.table)) (find_number number_of n (held_rows r.table) x q) ∙ q in
      let d : x.declared ≡ declared_in x.row (held_rows r.table) = sym (declared_found n x (held_rows r.table) _ m q) in
      record {
        from = subst (λ (i : Row). RowFrom r i (declared_in i (held_rows r.table))) (sym a) (subst (RowFrom r x.row) d (of_reading x past j));
        gave = ap (uri_in (used_bytes b)) a ∙ c;
        again = ap (λ (i : Row). uri_there (used_bytes b) (resolve (length b.buffer) b.used i)) a
            ∙ resolved b s x.row (row_fits_alone r b.used n x fitting q o) ∙ ap (λ (i : List ℕ). some i) c;
      }

  named_row : (a : ℕ) (y : Named) (p t c : ℕ) (k : Kind) (d : List ℕ) (e : Entry) → live (entry_of p t k y c d) ≡ live e → find named_number (suc a) (names_in (used_bytes b) r) ≡ some y → Rowed b r e
  named_row a y p t c k d e v q =
      let z = sym (live_entry v) in
      row_named (suc a) y (omega arith) (find number_of (suc a) (held_rows r.table)) refl (sym (seen_find (used_bytes b) (suc a) (held_rows r.table)) ∙ q) e
      (ap (λ (u : Entry). u.row) z) (ap (λ (u : Entry). u.uri) z)

  judged_row : (p k : ℕ) (w c : List ℕ) (n : ℕ) (h : Names) (i : Item) (m : ℕ) (e : Entry) → i ≡ live e → Judgement p k w c n (names_in (used_bytes b) r) i m h → Rowed b r e
  judged_row p k w c n h i m e v (gone j x) = not_deleted_lem v
  judged_row p k w c n h i m e v (entry a j y x q z t) = named_row a y _ _ _ _ _ e v q
  judged_row p k w c n h i m e v (heading a j y x q z t) = named_row a y _ _ _ _ _ e v q
  judged_row p k w c n h i m e v (assigning a j l o y x q z t u1 u2 u3) = named_row a y _ _ _ _ _ e v q

  form_row : (p n : ℕ) (l : List ℕ) (h : Names) (e : Entry) → Form (names_in (used_bytes b) r) p l (live e) n h → Rowed b r e
  form_row p n l h e (form a c ys d m j z) =
      judged_row p (length a) (a ++ c) c (pred (length a + length c)) h (live e) n e refl (judgement p (length a) (a ++ c) c (pred (length a + length c)) (names_in (used_bytes b) r) j)

  element_row : (p x n : ℕ) (xs : List ℕ) (h : Names) (e : Entry) → element (names_in (used_bytes b) r) p x xs ≡ got (live e) n h → Rowed b r e
  unfolding element
  element_row p zero n xs h e q = not_padding (got_item q)
  element_row p (suc x) n xs h e q = form_row p n (suc x ∷ xs) h e (size_form (names_in (used_bytes b) r) h p n (suc x ∷ xs) (live e) q)

past_header : (p : ℕ) → at_header logbook p ≡ false → 1 ≤ p
past_header zero e = true_false e
past_header (suc p) e = omega arith

header_row : (b : Book) (r : Reading) → sound b ≡ true → (l : List ℕ) (e : Entry) → r.position ≡ 0 → live e ≡ live (head_entry l) → Rowed b r e
unfolding uri_in fit_alone declared_in
header_row b r s l e z v =
    subst (Rowed b r) (sym (live_entry v))
    (record { from = of_header z; gave = refl; again = resolved b s (implied_row 111) refl })

pub step_row : (b : Book) (r r1 : Reading) (e : Entry) (n : Report) → step_on logbook b r ≡ stepped (shown (live e) n) r1 → RowShown b r e n.declared
unfolding declared_by
step_row b r r1 e n q =
    let k = looked b r r1 (live e) n q in
    let d : n ≡ report_of (live e) r = (subst (Counts r) q (step_counts b r) (live e) n refl).0 in
    subst (λ (x : Report). RowShown b r e x.declared) (sym d) (by_test (at_header logbook r.position)
    (λ f. header_row b r k.is_sound (k.byte ∷ k.bytes) e (eqb-true r.position 0 f)
    (head_item (k.byte ∷ k.bytes) (live e) k.behind k.names (sym (item_header logbook (names_in (used_bytes b) r) r.position k.byte k.bytes f) ∙ k.gets)).0)
    (λ f. element_row b r k.is_sound k.is_fit (past_header r.position f) r.position k.byte k.behind k.bytes k.names e
    (sym (item_element logbook (names_in (used_bytes b) r) r.position k.byte k.bytes f) ∙ k.gets)))
