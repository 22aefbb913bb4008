-- Where an entry's number got its meaning: of each row that a reading holds, the entries shown before tell the record that declared it.
use Rattle.std.specs.Prelude.{◌≡◌, true, ℕ, zero, suc, ◌+◌, ◌-◌, ◌≤◌, ◌<◌, length, drop, replicate, eqb}
use Rattle.std.proofs.Math.Path.{refl, sym}
use Rattle.std.proofs.Common.{ap, ◌∙◌, subst, arith, take-append-drop, drop_at}
use mathlib.Core.List.{List, [], ◌∷◌, ◌++◌, map, append_assoc, append-nil}
use Rattle.std.proofs.Math.Option.{none, some}
use Rattle.std.proofs.Math.ListN.{take, length-append}
use Rattle.format.proofs.Laws.Cases.{by_test, by_equality, from_zero_one}
use Rattle.format.specs.Bytes.{part_of}
use Rattle.format.proofs.Laws.Bytes.{part_more}
use Rattle.format.specs.Figures.{number_bytes}
use Rattle.format.specs.Integers.{value, read_integer}
use Rattle.format.proofs.Laws.Integers.{value_value, value_bytes}
use Rattle.format.specs.Uris.{type_name, header_name}
use Rattle.format.specs.Register.{Rising, find, Row, implied_row, written_row, Declared, declared_at, undeclared, KeptRow, kept_row, number_of, implied_rows, uri_in, held_rows, Names}
use Rattle.format.proofs.Laws.Register.{some_some, find_insert, find_insert_other, find_remove, find_remove_other, held_table}
use Rattle.format.specs.Records.{Entry, Item, padding, deleted, live, Got, bad, got, logbook, item}
use Rattle.format.specs.Reading.{Reading, fresh, fits, Report, report_of, Shown, shown, end, refused, Stepped, stepped, assigned_rows, table_of_kind, table_after, declaration, moved, at_end, step_at, names_in, step}
use Rattle.format.specs.Calls.{Book, used_bytes, parted, sound, step_on}
use Rattle.format.specs.Interleaving.{listing, replies as replies_by, reply as reply_by, next as next_by}
use Rattle.format.specs.Series.{world, steps, replies, Reads}
use Rattle.format.specs.SlowSeries.{Line, line_listed, lines_of, step_lines}
use Rattle.format.specs.Grammar.{Listed, implied_only}
use Rattle.format.specs.Entries.{EntryAt, ItemAt, an_entry, RowFrom, of_header, of_reading, AssignsTo, Changes, assigns, empties, NoneChanges, DeclaredBy, latest, implied, first}
use Rattle.format.proofs.Laws.Denials.Fits.{fits_mean}
use Rattle.format.proofs.Laws.Order.Wiping.{writing_reads}
use Rattle.format.proofs.Laws.Lists.Parsing.{other_name}
use Rattle.format.proofs.Laws.Lists.Walking.{type_not_header}
use Rattle.format.proofs.Laws.Lists.Places.{Sort, plainly, as_header, as_type, item_tells, not_nil}
use Rattle.format.proofs.Laws.Lists.Shown.{looked, step_shows, step_row}

-- ---- what an entry changes
not_both : {P : Type 0} {u : List ℕ} → u ≡ type_name → u ≡ header_name → P
not_both t h = absurd (other_name type_name header_name type_not_header (sym t ∙ h))

-- two writings at the front of the same bytes are one, as both are what is read there
assigns_read : (n : ℕ) (u : List ℕ) (x : Listed) (a : AssignsTo n u x) → read_integer number_bytes x.bytes ≡ value n (length a.number)
assigns_read n u x a = rw a.rest (writing_reads a.number n a.written u)

-- an assignment changes its own number alone
assigns_one : {n m : ℕ} {u : List ℕ} {x : Listed} → AssignsTo n u x → (n ≡ m → ⊥) → Changes m x → ⊥
assigns_one {n} {m} {u} {x} a d (assigns v c) = d (value_value (sym (assigns_read n u x a) ∙ assigns_read m v x c))
assigns_one a d (empties h) = not_both a.named h

plain_none : {n : ℕ} {x : Listed} → (x.uri ≡ header_name → ⊥) → (x.uri ≡ type_name → ⊥) → Changes n x → ⊥
plain_none h t (assigns u a) = t a.named
plain_none h t (empties e) = h e

none_more_lem : (n : ℕ) (xs : List Listed) (x : Listed) → NoneChanges n xs → (Changes n x → ⊥) → NoneChanges n (xs ++ (x ∷ []))
unfolding NoneChanges
none_more_lem n [] x k f = (f, tt)
none_more_lem n (y ∷ xs) x (a, k) f = (a, none_more_lem n xs x k f)

-- what is declared stays so behind an entry that doesn't change it; the first header alone is declared by none before it
declared_more : {n : ℕ} {u : List ℕ} {zs : List Listed} {d : Declared} (x : Listed) → 1 ≤ length zs → (Changes n x → ⊥) → DeclaredBy n u zs d
    → DeclaredBy n u (zs ++ (x ∷ [])) d
declared_more {n} x l f (latest before y behind a h k) =
    rw (append_assoc before (y ∷ behind) (x ∷ [])) (latest before y (behind ++ (x ∷ [])) a h (none_more_lem n behind x k f))
declared_more {n} x l f (implied before y behind h i k) =
    rw (append_assoc before (y ∷ behind) (x ∷ [])) (implied before y (behind ++ (x ∷ [])) h i (none_more_lem n behind x k f))
declared_more x l f (first e h) = absurd (omega arith)

-- ---- the rows that a reading holds, their URIs in the log: each is declared as the entries zs tell, and some entry has come
module _ (log : List ℕ) (zs : List Listed) where
  abbrev Means : ℕ → KeptRow → Type 0
  Means n y = (1 ≤ length zs) × DeclaredBy n (uri_in log y.row) zs y.declared

  abbrev Meant : List KeptRow → Type 0
  Meant rs = (n : ℕ) (y : KeptRow) → find number_of n rs ≡ some y → Means n y

module _ (log : List ℕ) (zs : List Listed) (x : Listed) where
  some_more : 1 ≤ length (zs ++ (x ∷ []))
  some_more = rw length-append (omega arith)

  means_more : (n : ℕ) (y : KeptRow) → (Changes n x → ⊥) → Means log zs n y → Means log (zs ++ (x ∷ [])) n y
  means_more n y f (l, k) = (some_more, declared_more x l f k)

  meant_header : x.uri ≡ header_name → Meant log (zs ++ (x ∷ [])) implied_rows
  unfolding find implied_only uri_in NoneChanges
  meant_header h n y e =
      by_test (eqb 1 n)
      (λ a. is (implied_row 1) (some_some (rw a at e)) (rw a))
      (λ a. by_test (eqb 111 n)
      (λ c. is (implied_row 111) (some_some (rw (a, c) at e)) (rw (a, c)))
      (λ c. from_zero_one (let z : none ≡ some y = rw (a, c) at e in cc)))
    where
      is : (r : Row) → kept_row r undeclared ≡ y → implied_only n ≡ some (uri_in log r) → Means log (zs ++ (x ∷ [])) n y
      is r z i = (some_more, rw (← z) (implied zs x [] h i tt))

  meant_assigned : (n q : ℕ) (u : List ℕ) (d : Declared) (rs : List KeptRow) → AssignsTo n u x → take (length u) (drop q log) ≡ u
      → d ≡ declared_at x.place (suc (length zs)) → Rising number_of 0 rs → Meant log zs rs → Meant log (zs ++ (x ∷ [])) (assigned_rows n q u d rs)
  unfolding assigned_rows uri_in NoneChanges
  meant_assigned n q [] d rs a w p t k m y e =
      by_equality n m
      (λ z. from_zero_one (let c : none ≡ some y = sym (find_remove number_of 0 m rs t) ∙ (rw z at e) in cc))
      (λ z. means_more m y (assigns_one a z) (k m y (sym (find_remove_other number_of m n rs z) ∙ e)))
  meant_assigned n q (c ∷ u) d rs a w p t k m y e =
      let r : KeptRow = kept_row (written_row n q (length (c ∷ u))) d in
      by_equality n m
      (λ z. let v : r ≡ y = some_some (sym (find_insert number_of r rs) ∙ (rw (← z) at e)) in
      (some_more, rw (← v, ← z, w, p) (latest zs x [] a (omega arith) tt)))
      (λ z. means_more m y (assigns_one a z) (k m y (sym (find_insert_other number_of m r rs z) ∙ e)))

-- ---- a step that shows no item hands back its reading
abbrev Stays : Reading → Stepped → Type 0
Stays r s = ((i : Item) (n : Report) → s.answer ≡ shown i n → ⊥) → s.reading ≡ r

moved_stays : (v : Got) (r : Reading) → Stays r (moved v r)
unfolding moved
moved_stays (bad x) r f = refl
moved_stays (got i m h) r f = absurd (f i (report_of i r) refl)

at_stays : (g : Names) (l : List ℕ) (r : Reading) → Stays r (step_at logbook g l r)
unfolding step_at at_end
at_stays g [] r f = refl
at_stays g (x ∷ xs) r f = moved_stays (item logbook g r.position x xs) r f

step_stays : (b : Book) (r : Reading) → Stays r (step_on logbook b r)
unfolding step_on step
step_stays b r =
    by_test (sound b)
    (λ s. by_test (fits r (length (parted b).log))
    (λ t. rw (s, t) (at_stays (names_in (parted b).log r) (drop r.position (parted b).log) r))
    (λ t. rw (s, t) (λ f. refl)))
    (λ s. rw s (λ f. refl))

-- ---- a reading that has shown the entries zs
record Behind (b : Book) (r : Reading) (zs : List Listed) : Type 0 where
  begun : r.position ≡ 0 → zs ≡ []
  counts : r.count ≡ length zs
  rows : Meant (used_bytes b) zs (held_rows r.table)

behind_none : (b : Book) → Behind b fresh []
unfolding find
behind_none b = record { begun = λ z. refl; counts = refl; rows = λ n y e. from_zero_one (let z : none ≡ some y = rw (held_table []) at e in cc) }

-- what an item that isn't live leaves
behind_silent : (b : Book) (r r1 : Reading) (zs : List Listed) → r.position < r1.position → r1.count ≡ r.count → r1.table ≡ r.table
    → Behind b r zs → Behind b r1 zs
behind_silent b r r1 zs m c t h = record { begun = λ z. absurd (omega arith); counts = c ∙ h.counts; rows = rw t h.rows }

take_own : (n : ℕ) (l : List ℕ) → take (length (take n l)) l ≡ take n l
take_own zero l = refl
take_own (suc n) [] = refl
take_own (suc n) (x ∷ l) = ap (λ (m : List ℕ). x ∷ m) (take_own n l)

-- the end of an entry's data stands in the log as it is kept: by place and length
data_there : (l : List ℕ) (p q m : ℕ) (e : Entry) → EntryAt l p q e → take (length (drop m e.bytes)) (drop (e.data_place + m) l) ≡ drop m e.bytes
unfolding part_of
data_there l p q m e s =
    let z : drop m e.bytes ≡ part_of (e.data_place + m) q l = ap (drop m) s.to_end ∙ sym (part_more e.data_place m q l) in
    rw z (take_own (q - (e.data_place + m)) (drop (e.data_place + m) l))

entry_of : (l : List ℕ) (p q : ℕ) (e : Entry) → ItemAt l p q (live e) → EntryAt l p q e
entry_of l p q e (an_entry _ s) = s

-- what a live entry leaves, and where the reading says that it was declared
module _
    (b : Book) (r r1 : Reading) (zs : List Listed) (e : Entry) (n : Report)
    (q : step_on logbook b r ≡ stepped (shown (live e) n) r1) (h : Behind b r zs) where
  abbrev now : Listed
  now = line_listed (e, n)

  stands : EntryAt (used_bytes b) r.position r1.position e
  stands = entry_of (used_bytes b) r.position r1.position e (step_shows b r r1 (live e) n q).stands

  meant_entry : fits r (length (used_bytes b)) ≡ true → Sort e
      → Meant (used_bytes b) (zs ++ (now ∷ [])) (held_rows (table_of_kind e.kind (declaration (live e) r) r.table))
  unfolding table_of_kind
  meant_entry f (plainly k u v) = rw k (λ m y g. means_more (used_bytes b) zs now m y (plain_none u v) (h.rows m y g))
  meant_entry f (as_header k u) = rw (k, held_table implied_rows) (meant_header (used_bytes b) zs now u)
  meant_entry f (as_type c m k u w) =
      let d : Declared = declaration (live e) r in
      rw (k, held_table (assigned_rows c (e.data_place + m) (drop m e.bytes) d (held_rows r.table)))
      (meant_assigned (used_bytes b) zs now c (e.data_place + m) (drop m e.bytes) d (held_rows r.table)
      (record { named = u; number = take m e.bytes; written = w; rest = sym (take-append-drop m e.bytes) })
      (data_there (used_bytes b) r.position r1.position m e stands)
      (rw (stands.place, h.counts))
      ((fits_mean r (length (used_bytes b))).0 f).rising
      h.rows)

  behind_entry : Behind b r1 (zs ++ (now ∷ []))
  unfolding table_after
  behind_entry =
      let k = looked b r r1 (live e) n q in
      let s = step_shows b r r1 (live e) n q in
      record {
        begun = λ z. absurd (omega (arith, s.moves));
        counts = s.counts.1 ∙ rw length-append (omega (arith, h.counts));
        rows = rw k.table
            (meant_entry k.is_fit (item_tells (names_in (used_bytes b) r) k.names r.position k.byte k.behind k.bytes e k.gets).1);
      }

  row_declared : (w : Row) (d : Declared) (u : List ℕ) → RowFrom r w d → uri_in (used_bytes b) w ≡ u → DeclaredBy w.number u zs d
  unfolding uri_in
  row_declared w d u (of_header z) g = rw (h.begun z) (first refl (sym g))
  row_declared w d u (of_reading x o f) g = rw (← g) (h.rows (number_of x) x f).1

  entry_declared : DeclaredBy e.row.number e.uri zs n.declared
  entry_declared = let s = step_row b r r1 e n q in row_declared e.row n.declared e.uri s.from s.gave

-- ---- the run of steps
abbrev Declares : ℕ → Type 0
Declares k =
    (b : Book) (r : Reading) (zs : List Listed) → Behind b r zs → (xs ys : List Line) (e : Entry) (n : Report)
    → listing step_lines (replies logbook (world b r) (replicate k steps)) ≡ xs ++ ((e, n) ∷ ys)
    → DeclaredBy e.row.number e.uri (zs ++ map line_listed xs) n.declared

declares_next : (k : ℕ) → Declares k → (b : Book) (r r1 : Reading) (zs : List Listed) → Behind b r zs → (x : Shown) → step_on logbook b r ≡ stepped x r1
    → (xs ys : List Line) (e : Entry) (n : Report) → lines_of x ++ listing step_lines (replies logbook (world b r1) (replicate k steps)) ≡ xs ++ ((e, n) ∷ ys)
    → DeclaredBy e.row.number e.uri (zs ++ map line_listed xs) n.declared
unfolding lines_of table_after
declares_next k ih b r r1 zs h (end p) q xs ys e n l =
    ih b r1 zs (rw (subst (Stays r) q (step_stays b r) (λ i m v. from_zero_one (cc))) h) xs ys e n l
declares_next k ih b r r1 zs h (refused y) q xs ys e n l =
    ih b r1 zs (rw (subst (Stays r) q (step_stays b r) (λ i m v. from_zero_one (cc))) h) xs ys e n l
declares_next k ih b r r1 zs h (shown (padding p) m) q xs ys e n l =
    let s = step_shows b r r1 (padding p) m q in
    ih b r1 zs (behind_silent b r r1 zs s.moves s.counts.1 (looked b r r1 (padding p) m q).table h) xs ys e n l
declares_next k ih b r r1 zs h (shown (deleted p j t) m) q xs ys e n l =
    let s = step_shows b r r1 (deleted p j t) m q in
    ih b r1 zs (behind_silent b r r1 zs s.moves s.counts.1 (looked b r r1 (deleted p j t) m q).table h) xs ys e n l
declares_next k ih b r r1 zs h (shown (live d) m) q [] ys e n l =
    let z : ◌≡◌ {A = Line} (d, m) (e, n) = cc in
    rw append-nil (subst (λ (x : Line). DeclaredBy x.0.row.number x.0.uri zs x.1.declared) z (entry_declared b r r1 zs d m q h))
declares_next k ih b r r1 zs h (shown (live d) m) q (x ∷ xs) ys e n l =
    let z : ◌≡◌ {A = Line} (d, m) x = cc in
    let w : listing step_lines (replies logbook (world b r1) (replicate k steps)) ≡ xs ++ ((e, n) ∷ ys) = cc in
    rw (← z, ← (append_assoc zs (line_listed (d, m) ∷ []) (map line_listed xs)))
    (ih b r1 (zs ++ (line_listed (d, m) ∷ [])) (behind_entry b r r1 zs d m q h) xs ys e n w)

declares_from : (k : ℕ) → Declares k
unfolding replies_by reply_by next_by listing step_lines
declares_from zero b r zs h xs ys e n l = not_nil xs ys (e, n) l
declares_from (suc k) b r zs h xs ys e n l =
    declares_next k (declares_from k) b r (step_on logbook b r).reading zs h (step_on logbook b r).answer refl xs ys e n l

-- each live entry that the steps of a fresh reading show reports the record that gave its number its meaning
pub declares : (b : Book) (k : ℕ) (xs ys : List Line) (e : Entry) (n : Report)
    → listing step_lines (replies logbook (world b fresh) (replicate k steps)) ≡ xs ++ ((e, n) ∷ ys)
    → DeclaredBy e.row.number e.uri (map line_listed xs) n.declared
declares b k xs ys e n l = declares_from k b fresh [] (behind_none b) xs ys e n l

-- so does each of a logbook that reads to its end
pub reads_declare : (b : Book) (r : Reads logbook b) (xs ys : List Line) (e : Entry) (n : Report) → listing step_lines r.list ≡ xs ++ ((e, n) ∷ ys)
    → DeclaredBy e.row.number e.uri (map line_listed xs) n.declared
reads_declare b r xs ys e n l = declares b (length r.list) xs ys e n (ap (listing step_lines) r.read ∙ l)

-- ---- what is declared is fixed by the list: the latest entry that changes the number is one
assigned_uri_lem : (n : ℕ) (u : List ℕ) (x : Listed) (a : AssignsTo n u x) → u ≡ drop (length a.number) x.bytes
assigned_uri_lem n u x a = rw a.rest (sym (drop_at a.number u (length a.number) refl))

one_uri : (n : ℕ) (u v : List ℕ) (x : Listed) → AssignsTo n u x → AssignsTo n v x → u ≡ v
one_uri n u v x a c =
    let z : length a.number ≡ length c.number = value_bytes (sym (assigns_read n u x a) ∙ assigns_read n v x c) in
    assigned_uri_lem n u x a ∙ rw z (sym (assigned_uri_lem n v x c))

none_inside : (n : ℕ) (xs : List Listed) (x : Listed) (ys : List Listed) → NoneChanges n (xs ++ (x ∷ ys)) → Changes n x → ⊥
unfolding NoneChanges
none_inside n [] x ys k = k.0
none_inside n (y ∷ xs) x ys k = none_inside n xs x ys k.1

one_latest : {n : ℕ} (xs : List Listed) (x : Listed) (ys vs : List Listed) (v : Listed) (ws : List Listed) → Changes n x → NoneChanges n ys
    → Changes n v → NoneChanges n ws → xs ++ (x ∷ ys) ≡ vs ++ (v ∷ ws) → (x ≡ v) × (length xs ≡ length vs)
one_latest [] x ys [] v ws c k d l e = (cc, refl)
one_latest {n} [] x ys (t ∷ vs) v ws c k d l e = let z : ys ≡ vs ++ (v ∷ ws) = cc in absurd (none_inside n vs v ws (rw z at k) d)
one_latest {n} (y ∷ xs) x ys [] v ws c k d l e = let z : ws ≡ xs ++ (x ∷ ys) = cc in absurd (none_inside n xs x ys (rw z at l) c)
one_latest (y ∷ xs) x ys (t ∷ vs) v ws c k d l e =
    let z : xs ++ (x ∷ ys) ≡ vs ++ (v ∷ ws) = cc in
    let q = one_latest xs x ys vs v ws c k d l z in
    (q.0, ap suc q.1)

-- the list stands twice, with an equation, as the two ways to split one can't be matched on
one_in : {n : ℕ} {u v : List ℕ} {xs ys : List Listed} {c d : Declared} → DeclaredBy n u xs c → DeclaredBy n v ys d → xs ≡ ys → (u ≡ v) × (c ≡ d)
one_in {n} {u} {v} (latest xs x ys a o k) (latest vs w ws b m l) e =
    let z = one_latest xs x ys vs w ws (assigns u a) k (assigns v b) l e in
    (one_uri n u v x a (rw z.0 b), rw (z.0, z.1))
one_in {u = u} (latest xs x ys a o k) (implied vs w ws h i l) e =
    not_both (rw (one_latest xs x ys vs w ws (assigns u a) k (empties h) l e).0 at a.named) h
one_in {v = v} (implied xs x ys h i k) (latest vs w ws b m l) e =
    not_both b.named (rw (one_latest xs x ys vs w ws (empties h) k (assigns v b) l e).0 at h)
one_in (implied xs x ys h i k) (implied vs w ws g j l) e = (some_some (sym i ∙ j), refl)
one_in (first a h) (first b g) e = (h ∙ sym g, refl)
one_in (first a h) (latest vs w ws b m l) e = not_nil vs ws w e
one_in (first a h) (implied vs w ws g j l) e = not_nil vs ws w e
one_in (latest xs x ys a o k) (first b g) e = not_nil xs ys x (sym e)
one_in (implied xs x ys h i k) (first b g) e = not_nil xs ys x (sym e)

pub one_declared_lem : (n : ℕ) (u v : List ℕ) (xs : List Listed) (c d : Declared) → DeclaredBy n u xs c → DeclaredBy n v xs d → (u ≡ v) × (c ≡ d)
one_declared_lem n u v xs c d s t = one_in s t refl
