-- What the three moves of a reading find at a record, whatever stands before it and behind it.
use Rattle.std.specs.Prelude.{◌≡◌, false, drop, replicate}
use Rattle.std.proofs.Math.Path.{refl, sym, ap}
use Rattle.std.proofs.Common.{◌∙◌, length-drop, take_at, drop_at}
use Rattle.std.proofs.Math.Bool.{true}
use mathlib.Core.List.{List, [], ◌∷◌, ◌++◌, append_assoc}
use Rattle.std.proofs.Math.Option.{Option, none, some, map}
use Prim.Native.Nat.{ℕ, zero, suc, pred, ◌+◌, ◌-◌, ◌≤◌}
use native.Mathlib.Omega.{arith}
use borrow.Author.Tests.{le-leb}
use Rattle.std.proofs.Math.ListN.{length, length-append}
use Rattle.std.proofs.lemmas.List.{length-replicate, replicate-append-replicate, drop-append-le}
use Rattle.std.proofs.Math.Seq.{drop-append-add}
use Rattle.format.specs.Figures.{used_limit, size_bytes, number_bytes}
use Rattle.format.proofs.Laws.Cases.{from_zero_one}
use Rattle.format.specs.Bytes.{same, part_of}
use Rattle.format.specs.Integers.{value, read_integer}
use Rattle.format.proofs.Laws.Integers.{read_exact, read_start, low_is_no_lead, digits_last}
use Rattle.format.specs.Uris.{type_name, header_name}
use Rattle.format.specs.Register.{Names, Named, find, is_held, row_number, KeptRow, row_in, held_rows, number_of, named_number, named_uri, row_for}
use Rattle.format.proofs.Laws.Register.{held_table, find_map}
use Rattle.format.specs.Records.{plain, Entry, Item, padding, deleted, live, got, entry_of, assignment_part, header_part, data_part, header_at, Origin, at_header}
use Rattle.format.specs.Reading.{Reading, no_report, report_of, shown, end, declared_by, table_after, moved, at_end}
use Rattle.format.specs.Moves.{size_of, type_held, type_of, Held, nothing, sized, typed, Slow, slow, fit_held, fits_slow, Told, tells, moved_to, hold, done_with, size_move, type_move, data_move, element_move, first_move, move_at, move, move_on}
use Rattle.format.specs.SlowSeries.{slowly}
use Rattle.format.proofs.Laws.Moves.{fit_sized_lem, fit_typed_lem}
use Rattle.format.proofs.Laws.Order.Items.{Judgement, gone, entry, heading, assigning, judgement}
use Rattle.format.proofs.Laws.Order.Standing.{Stands, rows_number}
use Rattle.format.proofs.Laws.Order.Wiping.{writing_reads, Quiet, none, Spent, spent, full, worn, dead_quiet}
use Rattle.format.proofs.Laws.Order.Changes.{body_zero}
use Rattle.format.proofs.Laws.Order.Frames.{Sees, Fits, seen_here, fit_here, moved_reading}
use Rattle.format.proofs.Laws.Order.Middle.{Whole, Front, front, front_of, Blot, same as unblotted, blotted}
use Rattle.format.proofs.Laws.Order.Halves.{Half, intact, faded}
use Rattle.format.proofs.Laws.Order.Induction.{Does, sound_book, parted_log}

-- ---- bytes part_of two places
part_at : (lo b hi : List ℕ) (t e : ℕ) → length lo ≡ t → t + length b ≡ e → part_of t e (lo ++ (b ++ hi)) ≡ b
unfolding part_of
part_at lo b hi t e l m = rw (drop_at lo (b ++ hi) t l) (take_at b hi (e - t) (omega arith))

-- the body of a record at p
part_body : (lo a b hi : List ℕ) (p : ℕ) → length lo ≡ p → part_of (p + length a) (p + (length a + length b)) (lo ++ ((a ++ b) ++ hi)) ≡ b
part_body lo a b hi p l =
    let x : lo ++ ((a ++ b) ++ hi) ≡ (lo ++ a) ++ (b ++ hi) = simp append_assoc in
    rw x (part_at (lo ++ a) b hi (p + length a) (p + (length a + length b)) (rw (length-append, l)) (omega arith))

part_whole : (lo w hi : List ℕ) (p n : ℕ) → length lo ≡ p → length w ≡ n → part_of p (p + n) (lo ++ (w ++ hi)) ≡ w
part_whole lo w hi p n l m = part_at lo w hi p (p + n) l (omega arith)

-- the data behind the j bytes of a type
part_data : (lo a b hi : List ℕ) (p j : ℕ) → length lo ≡ p → j ≤ length b
    → part_of (p + length a + j) (p + (length a + length b)) (lo ++ ((a ++ b) ++ hi)) ≡ drop j b
unfolding part_of
part_data lo a b hi p j l m =
    let x : lo ++ ((a ++ b) ++ hi) ≡ (lo ++ a) ++ (b ++ hi) = simp append_assoc in
    let y : length (lo ++ a) + j ≡ p + length a + j = rw (length-append, l) in
    let z : drop (length (lo ++ a) + j) ((lo ++ a) ++ (b ++ hi)) ≡ drop j (b ++ hi) = drop-append-add (lo ++ a) (b ++ hi) j in
    let v : drop (p + length a + j) ((lo ++ a) ++ (b ++ hi)) ≡ drop j b ++ hi = rw y at z ∙ drop-append-le j b hi m in
    rw (x, v) (take_at (drop j b) hi (p + (length a + length b) - (p + length a + j)) (rw length-drop (omega arith)))

-- ---- a reading that fits
module _ (o : Origin) (begin : Stands [] o.names) where
  pub move_does : (l rest : List ℕ) (s s1 : Slow) (x : Told) → length l ≤ used_limit → move o l s ≡ moved_to x s1 → Does o (slowly o) l rest s x s1
  unfolding move_on
  move_does l rest s s1 x b e =
      record { shows = rw (sound_book o l rest b, parted_log o l rest, e); leaves = rw (sound_book o l rest b, parted_log o l rest, e) }

  move_here : (r : Reading) (h : Held) (g : Names) (lo hi : List ℕ) → Sees r r.position g → Fits o begin lo g → length lo ≡ r.position
      → fit_held o r h (length (lo ++ hi)) ≡ true → move o (lo ++ hi) (slow r h) ≡ move_at o g (lo ++ hi) r h
  unfolding move fits_slow
  move_here r h g lo hi s f l k =
      rw (fit_here o begin r r.position g lo (length (lo ++ hi)) s f l (rw length-append (omega arith)), k, seen_here o begin r r.position g lo hi s f l)

  row_held_lem : (r : Reading) (p m : ℕ) (g : Names) (y : Named) → Sees r p g → find named_number m g ≡ some y
      → is_held (find number_of m (held_rows r.table)) ≡ true
  row_held_lem r p m g y s e = rw (s.rows.table, held_table s.rows.kept) (kept_held (find number_of m s.rows.kept) found)
    where
      found : map row_in (find number_of m s.rows.kept) ≡ some (row_for y)
      found =
          sym (find_map number_of row_number row_in (λ x. refl) m s.rows.kept)
          ∙ ap (find row_number m) s.rows.rows
          ∙ rw (find_map named_number row_number row_for rows_number m g, e)

      kept_held : (v : Option KeptRow) → map row_in v ≡ some (row_for y) → is_held v ≡ true
      kept_held none z = from_zero_one (cc)
      kept_held (some x) z = refl

  -- ---- nothing held
  abbrev pub idle : Reading → Slow
  idle r = slow r nothing

  idle_move : (r : Reading) (g : Names) (lo hi : List ℕ) → Sees r r.position g → Fits o begin lo g → length lo ≡ r.position
      → move o (lo ++ hi) (idle r) ≡ first_move o g hi r
  unfolding move_at fit_held
  idle_move r g lo hi s f l = move_here r nothing g lo hi s f l refl ∙ rw (drop_at lo hi r.position l)

  pub end_move : (r : Reading) (g : Names) (lo : List ℕ) → Sees r r.position g → Fits o begin lo g → length lo ≡ r.position
      → at_header o r.position ≡ false → move o (lo ++ []) (idle r) ≡ moved_to (tells (end r.position)) (idle r)
  unfolding first_move at_end
  end_move r g lo s f l h = idle_move r g lo [] s f l ∙ rw h

  abbrev pub showing : Reading → Item → Told
  showing r i = tells (shown i (report_of i r))

  pub header_move : (r : Reading) (g g1 : Names) (x n : ℕ) (lo xs : List ℕ) (i : Item) → Sees r r.position g → Fits o begin lo g
      → length lo ≡ r.position → at_header o r.position ≡ true → header_at (x ∷ xs) ≡ got i n g1
      → move o (lo ++ (x ∷ xs)) (idle r) ≡ moved_to (showing r i) (idle (moved_reading o begin r i n))
  unfolding first_move moved
  header_move r g g1 x n lo xs i s f l h e = idle_move r g lo (x ∷ xs) s f l ∙ rw (h, e)

  -- the reading n bytes on, with the same rows and count
  abbrev pub ahead : Reading → ℕ → Reading
  ahead r n = record { position = r.position + n; count = r.count; table = r.table }

  pub padding_move : (r : Reading) (g : Names) (lo xs : List ℕ) → Sees r r.position g → Fits o begin lo g → length lo ≡ r.position
      → at_header o r.position ≡ false
      → move o (lo ++ (0 ∷ xs)) (idle r) ≡ moved_to (tells (shown (padding r.position) no_report)) (idle (ahead r 1))
  unfolding first_move element_move moved declared_by table_after
  padding_move r g lo xs s f l h = idle_move r g lo (0 ∷ xs) s f l ∙ rw h

  size_move_at : (r : Reading) (g g1 : Names) (a b : List ℕ) (i : Item) → Sees r r.position g → Whole o g r.position a b i g1 → Front a
      → (lo hi : List ℕ) → Fits o begin lo g → length lo ≡ r.position
      → move o (lo ++ ((a ++ b) ++ hi)) (idle r) ≡ hold r (sized (r.position + length a) (r.position + (length a + length b)))
  unfolding first_move element_move size_move size_of
  size_move_at r g g1 a b i s w (front x c e n) lo hi f l =
      let y : (a ++ b) ++ hi ≡ suc x ∷ (c ++ (b ++ hi)) = rw e (ap (λ (t : List ℕ). suc x ∷ t) (append_assoc c b hi)) in
      let z : read_integer size_bytes (suc x ∷ (c ++ (b ++ hi))) ≡ value (length b) (length a) =
      ap (λ (v : List ℕ). read_integer size_bytes (v ++ (b ++ hi))) (sym e) ∙ writing_reads a (length b) w.sized (b ++ hi) in
      let m : length a + length b ≤ length (suc x ∷ (c ++ (b ++ hi))) = omega (arith, sym (ap length y), length-append (a ++ b) hi, length-append a b) in
      idle_move r g lo ((a ++ b) ++ hi) s f l ∙ rw (y, w.past, z, le-leb (length a + length b) (length (suc x ∷ (c ++ (b ++ hi)))) m)

  pub size_move_lem : (r : Reading) (g g1 : Names) (a b : List ℕ) (i : Item) → Sees r r.position g → Whole o g r.position a b i g1
      → (lo hi : List ℕ) → Fits o begin lo g → length lo ≡ r.position
      → move o (lo ++ ((a ++ b) ++ hi)) (idle r) ≡ hold r (sized (r.position + length a) (r.position + (length a + length b)))
  size_move_lem r g g1 a b i s w lo hi f l = size_move_at r g g1 a b i s w (front_of a b w.some w.sized) lo hi f l

  -- ---- a size is held: what the type move finds
  read_zero : (b : List ℕ) → read_integer number_bytes (0 ∷ b) ≡ value 0 1
  read_zero b = read_start number_bytes 0 b (low_is_no_lead 0 (omega arith)) ∙ digits_last (pred number_bytes) 0 0 0 b (omega arith)

  -- type 0: the move finishes a deleted record
  pub deleted_move : (r : Reading) (g : Names) (a b1 : List ℕ) → Sees r r.position g → at_header o r.position ≡ false → 1 ≤ length a
      → length a ≤ size_bytes → (lo hi : List ℕ) → Fits o begin lo g → length lo ≡ r.position
      → move o (lo ++ ((a ++ (0 ∷ b1)) ++ hi)) (slow r (sized (r.position + length a) (r.position + (length a + suc (length b1)))))
      ≡ moved_to (tells (shown (deleted r.position (length a) (suc (length b1))) no_report)) (idle (ahead r (length a + suc (length b1))))
  unfolding move_at type_move type_of moved declared_by table_after
  deleted_move r g a b1 s h u v lo hi f l =
      let p : ℕ = r.position in
      let x1 : p + length a - p ≡ length a = omega arith in
      let x2 : p + (length a + suc (length b1)) - (p + length a) ≡ suc (length b1) = omega arith in
      let x3 : suc (pred (p + (length a + suc (length b1)) - p)) ≡ length a + suc (length b1) = omega arith in
      let k : fit_held o r (sized (p + length a) (p + (length a + suc (length b1)))) (length (lo ++ ((a ++ (0 ∷ b1)) ++ hi))) ≡ true =
      fit_sized_lem o r (length a) (length a + suc (length b1)) (length (lo ++ ((a ++ (0 ∷ b1)) ++ hi))) h u v (omega arith)
      (rw (length-append, length-append, length-append, l) (omega arith)) in
      move_here r (sized (p + length a) (p + (length a + suc (length b1)))) g lo ((a ++ (0 ∷ b1)) ++ hi) s f l k
      ∙ rw (part_body lo a (0 ∷ b1) hi p l, read_zero b1, x1, x2, x3)

  -- a live type is taken: what the data move will then give, even if the record is erased meanwhile
  pub record Taken (g : Names) (p : ℕ) (a b : List ℕ) (i : Item) (g1 : Names) : Type 0 where
    pub number : ℕ
    pub width : ℕ
    pub name : Named
    pub reads : read_integer number_bytes b ≡ value (suc number) width
    pub means : find named_number (suc number) g ≡ some name
    pub entry : Entry
    pub lives : i ≡ live entry
    pub gives : (w : List ℕ) → Blot o begin a b i w → data_part name p (p + length a) (p + length a + width) w (drop width b)
        (pred (length a + length b)) g ≡ got i (pred (length a + length b)) g1

  abbrev pub taking : (r : Reading) (g g1 : Names) (a b : List ℕ) (i : Item) → Taken g r.position a b i g1 → Held
  taking r g g1 a b i t = typed (r.position + length a) (r.position + (length a + length b)) (suc t.number) (r.position + length a + t.width)

  sized_fits : (r : Reading) (g g1 : Names) (a b : List ℕ) (i : Item) → Whole o g r.position a b i g1 → Front a → (lo w hi : List ℕ)
      → length w ≡ length a + length b → length lo ≡ r.position
      → fit_held o r (sized (r.position + length a) (r.position + (length a + length b))) (length (lo ++ (w ++ hi))) ≡ true
  sized_fits r g g1 a b i h (front x c e n) lo w hi m l =
      fit_sized_lem o r (length a) (length a + length b) (length (lo ++ (w ++ hi))) h.past (rw e (omega arith)) n (omega (arith, h.some))
      (rw (length-append, length-append, l, m) (omega arith))

  pub type_move_lem : (r : Reading) (g g1 : Names) (a b : List ℕ) (i : Item) → Sees r r.position g → Whole o g r.position a b i g1
      → (t : Taken g r.position a b i g1) → (lo hi : List ℕ) → Fits o begin lo g → length lo ≡ r.position
      → move o (lo ++ ((a ++ b) ++ hi)) (slow r (sized (r.position + length a) (r.position + (length a + length b)))) ≡ hold r (taking r g g1 a b i t)
  unfolding move_at type_move type_of type_held
  type_move_lem r g g1 a b i s h t lo hi f l =
      move_here r (sized (r.position + length a) (r.position + (length a + length b))) g lo ((a ++ b) ++ hi) s f l
      (sized_fits r g g1 a b i h (front_of a b h.some h.sized) lo (a ++ b) hi (length-append a b) l)
      ∙ rw (part_body lo a b hi r.position l, t.reads, t.means)

  -- ---- a type is held: the data move
  pub blot_length : (a b : List ℕ) (i : Item) (w : List ℕ) → Blot o begin a b i w → length w ≡ length a + length b
  blot_length a b i w (unblotted e) = ap length e ∙ length-append a b
  blot_length a b i w (blotted t b1 y z x v e) = ap length e ∙ length-append a (0 ∷ b1) ∙ rw z

  blot_data : (a b : List ℕ) (i : Item) (w lo hi : List ℕ) (p j : ℕ) → length lo ≡ p → 1 ≤ j → j ≤ length b → Blot o begin a b i w
      → part_of (p + length a + j) (p + (length a + length b)) (lo ++ (w ++ hi)) ≡ drop j b
  blot_data a b i w lo hi p j l m n (unblotted e) = rw e (part_data lo a b hi p j l n)
  blot_data a b i w lo hi p zero l m n (blotted t b1 y z x v e) = absurd (omega arith)
  blot_data a b i w lo hi p (suc j) l m n (blotted t b1 y z x v e) = rw (e, z) (part_data lo a (0 ∷ b1) hi p (suc j) l (rw z at n))

  taken_fits : (r : Reading) (g g1 : Names) (a b : List ℕ) (i : Item) → Sees r r.position g → Whole o g r.position a b i g1
      → (t : Taken g r.position a b i g1) → Front a → (used : ℕ) → r.position + (length a + length b) ≤ used
      → fit_held o r (taking r g g1 a b i t) used ≡ true
  taken_fits r g g1 a b i s h t (front x c e n) used u =
      let y = read_exact number_bytes b (suc t.number) t.width t.reads in
      fit_typed_lem o r (length a) (length a + length b) (suc t.number) t.width used h.past (rw e (omega arith)) n (omega (arith, h.some)) u
      (row_held_lem r r.position (suc t.number) g t.name s t.means) y.some y.limited (omega (arith, y.inside))

  pub data_move_lem : (r : Reading) (g g1 : Names) (a b : List ℕ) (i : Item) → Sees r r.position g → Whole o g r.position a b i g1
      → (t : Taken g r.position a b i g1) → (lo w hi : List ℕ) → Fits o begin lo g → length lo ≡ r.position → Blot o begin a b i w
      → move o (lo ++ (w ++ hi)) (slow r (taking r g g1 a b i t)) ≡ moved_to (showing r i) (idle (moved_reading o begin r i (pred (length a + length b))))
  unfolding move_at data_move done_with moved
  data_move_lem r g g1 a b i s h t lo w hi f l c =
      let p : ℕ = r.position in
      let y = read_exact number_bytes b (suc t.number) t.width t.reads in
      let m : length w ≡ length a + length b = blot_length a b i w c in
      let x : p + (length a + length b) - p ≡ length a + length b = omega arith in
      let k : fit_held o r (taking r g g1 a b i t) (length (lo ++ (w ++ hi))) ≡ true =
      taken_fits r g g1 a b i s h t (front_of a b h.some h.sized) (length (lo ++ (w ++ hi))) (rw (length-append, length-append, l, m) (omega arith)) in
      move_here r (taking r g g1 a b i t) g lo (w ++ hi) s f l k
      ∙ rw (t.means, part_whole lo w hi p (length a + length b) l m, blot_data a b i w lo hi p t.width l y.some y.inside c, x, t.gives w c)

  -- ---- which of the two a type move finds
  pub data Finds (g : Names) (p k n : ℕ) (g1 : Names) (w : List ℕ) : Type 0 where
    zero_type : (a b1 : List ℕ) → w ≡ a ++ (0 ∷ b1) → length a ≡ k → length w ≡ n → Quiet w → at_header o p ≡ false → 1 ≤ k → k ≤ size_bytes → g1 ≡ g
        → Finds g p k n g1 w
    live_type : (a b : List ℕ) (i : Item) → w ≡ a ++ b → length a ≡ k → length w ≡ n → Whole o g p a b i g1 → Taken g p a b i g1 → Finds g p k n g1 w

  not_plain : {P : Type 0} {e d : Entry} → live e ≡ live d → d.kind ≡ plain → (e.kind ≡ plain → ⊥) → P
  not_plain x y z = absurd (z (let u : _ ≡ _ = x in ap_kind u ∙ y))
    where
      ap_kind : {e d : Entry} → live e ≡ live d → e.kind ≡ d.kind
      ap_kind e = cc

  taken_entry : (p j : ℕ) (a b : List ℕ) (u : Named) (g : Names) (w : List ℕ) → same (named_uri u) header_name ≡ false → same (named_uri u) type_name ≡ false
      → data_part u p (p + length a) (p + length a + j) w (drop j b) (pred (length a + length b)) g
      ≡ got (live (entry_of p (p + length a) plain u (p + length a + j) (drop j b))) (pred (length a + length b)) g
  unfolding data_part
  taken_entry p j a b u g w x y = rw (x, y)

  -- the type of a whole record
  pub data Meets (g : Names) (p : ℕ) (a b : List ℕ) (i : Item) (g1 : Names) : Type 0 where
    meets_zero : (b1 : List ℕ) → b ≡ 0 ∷ b1 → i ≡ deleted p (length a) (length b) → g1 ≡ g → Meets g p a b i g1
    meets_live : Taken g p a b i g1 → Meets g p a b i g1

  meets_judged : (g : Names) (p n : ℕ) (a b : List ℕ) (g1 : Names) (i : Item) (m : ℕ) → n ≡ pred (length a + length b)
      → Judgement p (length a) (a ++ b) b n g i m g1 → Meets g p a b i g1
  unfolding data_part header_part assignment_part
  meets_judged g p n a b g1 i m e (gone j r) = let d = body_zero o b j r in meets_zero d.0 d.1 refl refl
  meets_judged g p n a b g1 i m e (entry c j t r f x y) =
      meets_live (record { number = c; width = j; name = t; reads = r; means = f; entry = _; lives = refl; gives = λ v q. taken_entry p j a b t g v x y })
  meets_judged g p n a b g1 i m e (heading c j t r f x y) =
      meets_live (record { number = c; width = j; name = t; reads = r; means = f; entry = _; lives = refl; gives = λ v q. gives_header v q })
    where
      gives_header : (v : List ℕ) → Blot o begin a b i v → data_part t p (p + length a) (p + length a + j) v (drop j b) (pred (length a + length b)) g
          ≡ got i (pred (length a + length b)) g1
      gives_header v (unblotted q) = rw (q, x, y)
      gives_header v (blotted t1 b1 e1 z1 x1 y1 q) = not_plain x1 y1 (λ s. from_zero_one (cc))
  meets_judged g p n a b g1 i m e (assigning c j d s t r f x y q1 q2 q3) =
      meets_live (record { number = c; width = j; name = t; reads = r; means = f; entry = _; lives = refl; gives = λ v q. rw (x, y, q1, q2, q3) })

  pub meets : (g g1 : Names) (p : ℕ) (a b : List ℕ) (i : Item) → Whole o g p a b i g1 → Meets g p a b i g1
  meets g g1 p a b i h =
      meets_judged g p (pred (length a + length b)) a b g1 i (pred (length a + length b)) refl
      (judgement p (length a) (a ++ b) b (pred (length a + length b)) g h.judges)

  find_met : (g g1 : Names) (p k n : ℕ) (a b w : List ℕ) (i : Item) → w ≡ a ++ b → length a ≡ k → length w ≡ n → Whole o g p a b i g1 → Front a
      → Meets g p a b i g1 → Finds g p k n g1 w
  find_met g g1 p k n a b w i e l m h (front x c q u) (meets_zero b1 d y z) =
      let v : w ≡ a ++ (0 ∷ b1) = e ∙ rw d in
      zero_type a b1 v l m (dead_quiet (length a) w (full a b1 v refl (rw d at h.sized))) h.past (rw (← l, q) (omega arith)) (omega arith) z
  find_met g g1 p k n a b w i e l m h (front x c q u) (meets_live t) = live_type a b i e l m h t

  find_spent : (g g1 : Names) (p k n : ℕ) (w : List ℕ) → k ≤ size_bytes → length w ≡ n → at_header o p ≡ false → g1 ≡ g → Spent k w → Finds g p k n g1 w
  find_spent g g1 p k n w k4 m f x (spent q c e l u h i j v) = go (k - length q) (c - suc (k - length q)) (omega arith) (omega arith)
    where
      go : (s r : ℕ) → length q + s ≡ k → c ≡ s + suc r → Finds g p k n g1 w
      go s r y z =
          let t : w ≡ (q ++ replicate s 0) ++ (0 ∷ replicate r 0) =
          e ∙ rw (z, ← (replicate-append-replicate {A = ℕ} s (suc r) 0)) (sym (append_assoc q (replicate s 0) (0 ∷ replicate r 0))) in
          zero_type (q ++ replicate s 0) (replicate r 0) t (rw (length-append, length-replicate {A = ℕ} s 0) y) m
          (dead_quiet k w (worn (spent q c e l u h i j v))) f (omega arith) (omega arith) x

  pub finds : (g g1 : Names) (p k n : ℕ) (w : List ℕ) → k ≤ size_bytes → Half o begin g p k n g1 w → Finds g p k n g1 w
  finds g g1 p k n w k4 (intact a b i e l m h) = find_met g g1 p k n a b w i e l m h (front_of a b h.some h.sized) (meets g g1 p a b i h)
  finds g g1 p k n w k4 (faded s m f x) = find_spent g g1 p k n w k4 m f x s
