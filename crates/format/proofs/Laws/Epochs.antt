-- The laws of epochs: a URI's digits, and a coordinate's bytes.
use Rattle.std.specs.Prelude.{◌≡◌, refl, Bool, true, ◌&&◌, cond, List, [], ◌∷◌, ◌++◌, map, ◌↔◌, ℕ, suc, ◌+◌, ◌-◌, ◌*◌, ◌^◌, ◌≤◌, ◌<◌, length, take, drop, get_or, leb, eqb, pos, negsuc, neg_ℤ}
use Rattle.std.proofs.Common.{sym, ap, ◌∙◌, subst, add_assoc, add-mul, mul_assoc, mul_comm, mul-one, one-mul, zero-mul, mul-le-mul_right, pow-suc, arith, lt-ltb, le-ltb, le-leb, leb-true, eqb-true, eq-eqb, length-append, length-drop, take-append-drop, drop-cons, get_or-drop, drop-drop, take_at, drop_at, length-take-le}
use Rattle.std.proofs.Math.Option
use Rattle.std.proofs.Math.Option.{Option, none, some}
use Rattle.format.specs.Text.{ascii}
use Rattle.format.specs.Bytes.{AreBytes, same, within}
use Rattle.format.specs.Shapes.{Writes, no_digits, digit_before, EpochUri, in_years, in_hundredths, SignedBytes, bit_clear, bit_set}
use Rattle.format.specs.Epochs.{number_from, epoch_in, epoch_of, big_endian, signed}
use Rattle.format.proofs.Laws.Cases.{by_test, by_order, from_zero_one, and_left, and_right}
use Rattle.format.proofs.Laws.Bytes.{same_equal}

none_some : {P : Type 0} {n : ℕ} → none ≡ some n → P
none_some e = from_zero_one (cc)

some_one : {n m : ℕ} → some n ≡ some m → n ≡ m
some_one e = ap (λ (o : Option ℕ). Option.get_or o 0) e

-- ---- digits
is_digit : (k : ℕ) → k < 10 → within 0x30 0x39 (0x30 + k) ≡ true
is_digit k h = rw (le-leb 0x30 (0x30 + k) (omega arith), le-leb (0x30 + k) 0x39 (omega (arith, h)))

-- a digit k behind v, before n in the places behind
pub carried : (base v k n places : ℕ) → (v * base + k) * base ^ places + n ≡ v * base ^ suc places + (k * base ^ places + n)
carried base v k n places =
    let w : ℕ = base ^ places in
    ap (λ (x : ℕ). x + n)
    (add-mul (v * base) k w ∙ ap (λ (x : ℕ). x + k * w) (mul_assoc v base w ∙ ap (λ (x : ℕ). v * x) (mul_comm base w ∙ sym (pow-suc base places))))
    ∙ add_assoc (v * base ^ suc places) (k * w) n

pub writes_number : (v : ℕ) (t : List ℕ) (n : ℕ) → Writes t n → number_from v t ≡ some (v * 10 ^ length t + n)
unfolding number_from
writes_number v _ _ no_digits = ap some (let e : v ≡ v * 1 + 0 = omega (arith, mul-one v) in e)
writes_number v _ _ (digit_before k t n h w) =
    ap (λ (x : Bool). cond x (number_from (v * 10 + (0x30 + k - 0x30)) t) none) (is_digit k h)
    ∙ ap (λ (j : ℕ). number_from (v * 10 + j) t) (let e : 0x30 + k - 0x30 ≡ k = omega arith in e)
    ∙ writes_number (v * 10 + k) t n w
    ∙ ap some (carried 10 v k n (length t))

-- digits that write a number behind v
pub record Written (v : ℕ) (t : List ℕ) (m : ℕ) : Type 0 where
  pub number : ℕ
  pub writes : Writes t number
  pub sum : m ≡ v * 10 ^ length t + number

pub number_writes : (v : ℕ) (t : List ℕ) (m : ℕ) → number_from v t ≡ some m → Written v t m
unfolding number_from
number_writes v [] m e = record { number = 0; writes = no_digits; sum = let q : v ≡ m = some_one e in omega (arith, q, mul-one v) }
number_writes v (b ∷ t) m e =
    by_test (within 0x30 0x39 b)
    (λ h. let w : Written (v * 10 + (b - 0x30)) t m = number_writes (v * 10 + (b - 0x30)) t m (rw h at e) in digit h w)
    (λ h. none_some (rw h at e))
  where
    digit : within 0x30 0x39 b ≡ true → Written (v * 10 + (b - 0x30)) t m → Written v (b ∷ t) m
    digit h w =
        let lo : 0x30 ≤ b = leb-true 0x30 b (and_left (leb 0x30 b) (leb b 0x39) h) in
        let hi : b ≤ 0x39 = leb-true b 0x39 (and_right (leb 0x30 b) (leb b 0x39) h) in
        let is : 0x30 + (b - 0x30) ≡ b = omega (arith, lo) in
        record {
          number = (b - 0x30) * 10 ^ length t + w.number;
          writes = subst (λ (c : ℕ). Writes (c ∷ t) ((b - 0x30) * 10 ^ length t + w.number)) is
              (digit_before (b - 0x30) t w.number (omega (arith, lo, hi)) w.writes);
          sum = w.sum ∙ carried 10 v (b - 0x30) w.number (length t);
        }

-- digits behind others
abbrev pub number_behind : Option ℕ → List ℕ → Option ℕ
number_behind none t = none
number_behind (some n) t = number_from n t

pub number_behind_lem : (v : ℕ) (t f : List ℕ) → number_from v (t ++ f) ≡ number_behind (number_from v t) f
unfolding number_from
number_behind_lem v [] f = refl
number_behind_lem v (b ∷ t) f =
    by_test (within 0x30 0x39 b)
    (λ h. rw h (number_behind_lem (v * 10 + (b - 0x30)) t f))
    (λ h. rw h)

-- a number of few digits is small
pub number_below : (v : ℕ) (t : List ℕ) (m : ℕ) → number_from v t ≡ some m → m < suc v * 10 ^ length t
unfolding number_from
number_below v [] m e = let q : v ≡ m = some_one e in omega (arith, q, mul-one (suc v))
number_below v (b ∷ t) m e =
    by_test (within 0x30 0x39 b)
    (λ h. let hi : b ≤ 0x39 = leb-true b 0x39 (and_right (leb 0x30 b) (leb b 0x39) h) in
    wider hi (number_below (v * 10 + (b - 0x30)) t m (rw h at e)))
    (λ h. none_some (rw h at e))
  where
    wider : b ≤ 0x39 → m < suc (v * 10 + (b - 0x30)) * 10 ^ length t → m < suc v * 10 ^ suc (length t)
    wider hi h =
        let w : ℕ = 10 ^ length t in
        let up : suc (v * 10 + (b - 0x30)) * w ≤ suc v * 10 * w = mul-le-mul_right w (omega (arith, hi)) in
        let whole : suc v * 10 * w ≡ suc v * 10 ^ suc (length t) =
        mul_assoc (suc v) 10 w ∙ ap (λ (x : ℕ). suc v * x) (mul_comm 10 w ∙ sym (pow-suc 10 (length t))) in
        omega (arith, h, up, whole)

-- ---- which URIs name an epoch, and which one
behind_prefix : (t : List ℕ) → epoch_of (ascii "urn:ep:" ++ t) ≡ epoch_in t
unfolding epoch_of same
behind_prefix t = refl

of_years : (t : List ℕ) (y : ℕ) → length t ≡ 4 → Writes t y → epoch_in t ≡ some (100 * y)
unfolding epoch_in
of_years t y l w =
    rw (eq-eqb (length t) 4 l, writes_number 0 t y w)
    (ap some (let e : (0 * 10 ^ length t + y) * 100 ≡ 100 * y = omega (arith, zero-mul (10 ^ length t)) in e))

of_hundredths : (t f : List ℕ) (y k : ℕ) → length t ≡ 4 → Writes t y → length f ≡ 2 → Writes f k → epoch_in (t ++ (0x2E ∷ f)) ≡ some (100 * y + k)
unfolding epoch_in
of_hundredths t f y k l w m x =
    let long : length (t ++ (0x2E ∷ f)) ≡ 7 = omega (arith, length-append t (0x2E ∷ f), l, m) in
    let point : get_or (t ++ (0x2E ∷ f)) 4 0 ≡ 0x2E = sym (get_or-drop 4 (t ++ (0x2E ∷ f)) 0 0) ∙ ap (λ (r : List ℕ). get_or r 0 0) (drop_at t (0x2E ∷ f) 4 l) in
    let rest : drop 5 (t ++ (0x2E ∷ f)) ≡ f = sym (drop-drop 1 4 (t ++ (0x2E ∷ f))) ∙ ap (drop 1) (drop_at t (0x2E ∷ f) 4 l) in
    rw (long, point, take_at t (0x2E ∷ f) 4 l, rest, number_behind_lem 0 t f, writes_number 0 t y w, writes_number (0 * 10 ^ length t + y) f k x, m)
    (ap some (let e : (0 * 10 ^ length t + y) * 10 ^ 2 + k ≡ 100 * y + k = omega (arith, zero-mul (10 ^ length t)) in e))

pub uri_epoch : (u : List ℕ) (h : ℕ) → EpochUri u h → epoch_of u ≡ some h
uri_epoch u h (in_years t y l w e q) = ap epoch_of e ∙ behind_prefix t ∙ of_years t y l w ∙ ap some (sym q)
uri_epoch u h (in_hundredths t f y k l w m x e q) = ap epoch_of e ∙ behind_prefix (t ++ (0x2E ∷ f)) ∙ of_hundredths t f y k l w m x ∙ ap some (sym q)

years_of : (u t : List ℕ) (h : ℕ) → u ≡ ascii "urn:ep:" ++ t → length t ≡ 4
    → (o : Option ℕ) → number_from 0 t ≡ o → Option.map (λ y. y * 100) o ≡ some h → EpochUri u h
years_of u t h e l none n q = none_some q
years_of u t h e l (some y) n q =
    let w : Written 0 t y = number_writes 0 t y n in
    in_years t w.number l w.writes e (let p : y * 100 ≡ h = some_one q in omega (arith, p, w.sum, zero-mul (10 ^ length t)))

hundredths_of : (u t : List ℕ) (h : ℕ) → u ≡ ascii "urn:ep:" ++ t → length t ≡ 7 → get_or t 4 0 ≡ 0x2E
    → (o : Option ℕ) → number_from 0 (take 4 t) ≡ o → number_behind o (drop 5 t) ≡ some h → EpochUri u h
hundredths_of u t h e l p none n q = none_some q
hundredths_of u t h e l p (some y) n q =
    let w : Written 0 (take 4 t) y = number_writes 0 (take 4 t) y n in
    let x : Written y (drop 5 t) h = number_writes y (drop 5 t) h q in
    let m : length (drop 5 t) ≡ 2 = length-drop 5 t ∙ ap (λ (k : ℕ). k - 5) l in
    let parted : t ≡ take 4 t ++ (0x2E ∷ drop 5 t) =
    sym (take-append-drop 4 t) ∙ ap (λ (r : List ℕ). take 4 t ++ r) (drop-cons t 4 0 (omega (arith, l)) ∙ ap (λ (b : ℕ). b ∷ drop 5 t) p) in
    in_hundredths (take 4 t) (drop 5 t) w.number x.number (length-take-le 4 t (omega (arith, l))) w.writes m x.writes
    (e ∙ ap (λ (r : List ℕ). ascii "urn:ep:" ++ r) parted)
    (let k : h ≡ y * 10 ^ 2 + x.number = x.sum ∙ ap (λ (j : ℕ). y * 10 ^ j + x.number) m in omega (arith, k, w.sum, zero-mul (10 ^ length (take 4 t))))

epoch_in_lem : (u t : List ℕ) (h : ℕ) → u ≡ ascii "urn:ep:" ++ t → epoch_in t ≡ some h → EpochUri u h
unfolding epoch_in
epoch_in_lem u t h e q =
    by_test (eqb (length t) 4)
    (λ f. years_of u t h e (eqb-true (length t) 4 f) (number_from 0 t) refl (rw f at q))
    (λ f. by_test (eqb (length t) 7 && eqb (get_or t 4 0) 0x2E)
    (λ g. hundredths_of u t h e (eqb-true (length t) 7 (and_left (eqb (length t) 7) (eqb (get_or t 4 0) 0x2E) g))
    (eqb-true (get_or t 4 0) 0x2E (and_right (eqb (length t) 7) (eqb (get_or t 4 0) 0x2E) g))
    (number_from 0 (take 4 t)) refl (sym (number_behind_lem 0 (take 4 t) (drop 5 t)) ∙ (rw (f, g) at q)))
    (λ g. none_some (rw (f, g) at q)))

pub epoch_uri : (u : List ℕ) (h : ℕ) → epoch_of u ≡ some h → EpochUri u h
unfolding epoch_of
epoch_uri u h q =
    by_test (same (take 7 u) (ascii "urn:ep:"))
    (λ f. epoch_in_lem u (drop 7 u) h (sym (take-append-drop 7 u) ∙ ap (λ (r : List ℕ). r ++ drop 7 u) (same_equal (take 7 u) (ascii "urn:ep:") f)) (rw f at q))
    (λ f. none_some (rw f at q))

pub epochs_mean : (u : List ℕ) (h : ℕ) → (epoch_of u ≡ some h) ↔ EpochUri u h
epochs_mean u h = (epoch_uri u h, uri_epoch u h)

pub epoch_below : (u : List ℕ) (h : ℕ) → epoch_of u ≡ some h → h < 1000000
epoch_below u h e = below (epoch_uri u h e)
  where
    digits_below : (t : List ℕ) (n : ℕ) → Writes t n → n < 10 ^ length t
    digits_below t n w =
        let k : 0 * 10 ^ length t + n < 1 * 10 ^ length t = number_below 0 t (0 * 10 ^ length t + n) (writes_number 0 t n w) in
        omega (arith, k, zero-mul (10 ^ length t), one-mul (10 ^ length t))

    below : EpochUri u h → h < 1000000
    below (in_years t y l w q s) = let k : y < 10 ^ 4 = subst (λ (n : ℕ). y < 10 ^ n) l (digits_below t y w) in omega (arith, k, s)
    below (in_hundredths t f y k l w m x q s) =
        let a : y < 10 ^ 4 = subst (λ (n : ℕ). y < 10 ^ n) l (digits_below t y w) in
        let b : k < 10 ^ 2 = subst (λ (n : ℕ). k < 10 ^ n) m (digits_below f k x) in
        omega (arith, a, b, s)

-- ---- signed big-endian numbers

-- every bit turned over
abbrev flipped : List ℕ → List ℕ
flipped bs = map (λ c. 0xFF - c) bs

flipped_length : (bs : List ℕ) → length (flipped bs) ≡ length bs
flipped_length [] = refl
flipped_length (b ∷ bs) = ap suc (flipped_length bs)

-- bytes and their complement come to all bits set
both_full : (bs : List ℕ) → AreBytes bs → suc (big_endian bs + big_endian (flipped bs)) ≡ 256 ^ length bs
unfolding big_endian AreBytes
both_full [] h = refl
both_full (b ∷ bs) h =
    let w : ℕ = 256 ^ length bs in
    let byte : b + (0xFF - b) ≡ 0xFF = omega (arith, h.0) in
    let top : b * w + (0xFF - b) * w ≡ 0xFF * w = sym (add-mul b (0xFF - b) w) ∙ ap (λ (x : ℕ). x * w) byte in
    let more : (0xFF - b) * 256 ^ length (flipped bs) ≡ (0xFF - b) * w = ap (λ (n : ℕ). (0xFF - b) * 256 ^ n) (flipped_length bs) in
    omega (arith, top, more, both_full bs h.1, pow-suc 256 (length bs))

pub big_endian_below : (bs : List ℕ) → AreBytes bs → big_endian bs < 256 ^ length bs
big_endian_below bs h = omega (arith, both_full bs h)

pub signed_low : (v : ℕ) → v < 2 ^ 63 → signed v ≡ pos v
unfolding signed
signed_low v h = rw (lt-ltb v (2 ^ 63) h)

-- less 2 ^ 64, where n is one less than the size
pub signed_high : (v n : ℕ) → 2 ^ 63 ≤ v → suc (v + n) ≡ 2 ^ 64 → signed v ≡ negsuc n
unfolding signed
signed_high v n h e = rw (le-ltb v (2 ^ 63) h) (ap (λ (k : ℕ). neg_ℤ (pos k)) (let q : 2 ^ 64 - v ≡ suc n = omega (arith, e) in q))

pub signed_means : (bs : List ℕ) → length bs ≡ 8 → AreBytes bs → SignedBytes bs (signed (big_endian bs))
unfolding AreBytes big_endian
signed_means [] l h = from_zero_one (let e : ◌≡◌ {A = ℕ} 0 1 = omega (arith, l) in e)
signed_means (b ∷ bs) l h =
    by_order b 0x80
    (λ k. subst (SignedBytes (b ∷ bs)) (sym (signed_low (big_endian (b ∷ bs)) (omega (arith, k, top, rest)))) (bit_clear b bs k))
    (λ k. subst (SignedBytes (b ∷ bs)) (sym (signed_high (big_endian (b ∷ bs)) (big_endian (flipped (b ∷ bs))) (omega (arith, k, top)) full)) (bit_set b bs k))
  where
    seven : length bs ≡ 7
    seven = omega (arith, l)

    top : b * 256 ^ length bs ≡ b * 256 ^ 7
    top = ap (λ (n : ℕ). b * 256 ^ n) seven

    rest : big_endian bs < 256 ^ 7
    rest = subst (λ (n : ℕ). big_endian bs < 256 ^ n) seven (big_endian_below bs h.1)

    full : suc (big_endian (b ∷ bs) + big_endian (flipped (b ∷ bs))) ≡ 2 ^ 64
    full = both_full (b ∷ bs) h ∙ ap (λ (n : ℕ). 256 ^ n) l
