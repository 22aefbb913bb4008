-- What the loop over digits knows, and the number that a coordinate's eight bytes are.
use Rattle.std.specs.Prelude.{◌≡◌, refl, true, false, List, [], ◌∷◌, ℕ, zero, suc, ◌+◌, ◌-◌, ◌*◌, ◌^◌, ◌≤◌, ◌<◌, length, drop, get_or, ℤ, pos, negsuc, ◌-ℤ◌}
use Rattle.std.proofs.Common.{sym, ◌∙◌, subst, suc-mul, mul_assoc, mul-one, zero-mul, mul-le-mul_right, pow-suc, add-one, arith, lit<, drop_of_length-le, length-drop, drop-cons, to_z, SFits}
use Rattle.std.proofs.Math.Path.{ap}
use Rattle.std.proofs.Math.Option.{none, some}
use Rattle.std.proofs.Math.Nat.{pow-le-pow_right}
use borrow.Author.Tests.{le-leb, lt-leb, le-ltb}
use Rattle.std.specs.Int.{w64, from_be_bytes}
use Rattle.std.proofs.lemmas.Int.{to_z_pos}
use Rattle.format.specs.Bytes.{within}
use Rattle.format.specs.Epochs.{number_from, big_endian, signed}
use Rattle.format.proofs.Laws.Cases.{by_order}
use Rattle.format.proofs.Laws.Epochs.{carried, signed_low, signed_high}

tail_at : (t : List ℕ) (i : ℕ) → i < length t → drop i t ≡ get_or t i 0 ∷ drop (i + 1) t
tail_at t i h = drop-cons t i 0 h ∙ ap (λ (j : ℕ). get_or t i 0 ∷ drop j t) (sym (add-one i))

-- one place more
pub room_on : (c base v b i : ℕ) → b < base → v < c * base ^ i → v * base + b < c * base ^ (i + 1)
room_on c base v b i k h =
    let up : suc v * base ≤ c * base ^ i * base = mul-le-mul_right base h in
    let whole : c * base ^ i * base ≡ c * base ^ (i + 1) =
    mul_assoc c (base ^ i) base ∙ ap (λ (x : ℕ). c * x) (sym (pow-suc base i) ∙ ap (λ (j : ℕ). base ^ j) (sym (add-one i))) in
    let more : suc v * base ≡ v * base + base = suc-mul v base in
    omega (arith, k, up, whole, more)

-- ---- digits
module _ (n : ℕ) (t : List ℕ) (i : ℕ) where
  pub number_end : length t ≤ i → number_from n (drop i t) ≡ some n
  unfolding number_from
  number_end h = ap (number_from n) (drop_of_length-le t h)

  module _ (h : i < length t) where
    pub number_stops : within 0x30 0x39 (get_or t i 0) ≡ false → number_from n (drop i t) ≡ none
    unfolding number_from
    number_stops k = ap (number_from n) (tail_at t i h) ∙ rw k

    pub digit_on : within 0x30 0x39 (get_or t i 0) ≡ true → number_from n (drop i t) ≡ number_from (n * 10 + (get_or t i 0 - 0x30)) (drop (i + 1) t)
    unfolding number_from
    digit_on k = ap (number_from n) (tail_at t i h) ∙ rw k

-- how the loop ends
pub ruleset digits = (number_end, number_stops)

-- ---- the bytes of a coordinate

module _ (t : List ℕ) (l : length t ≡ 8) where
  byte_at : (i k : ℕ) → suc (i + k) ≡ 8 → big_endian (drop i t) ≡ get_or t i 0 * 256 ^ k + big_endian (drop (i + 1) t)
  unfolding big_endian
  byte_at i k e =
      let n : length (drop (i + 1) t) ≡ k = omega (arith, length-drop (i + 1) t, e, l) in
      ap big_endian (tail_at t i (omega (arith, e, l))) ∙ ap (λ (j : ℕ). get_or t i 0 * 256 ^ j + big_endian (drop (i + 1) t)) n

  none_left : big_endian (drop 8 t) ≡ 0
  unfolding big_endian
  none_left = ap big_endian (drop_of_length-le t (let h : length t ≤ 8 = omega (arith, l) in h))

  -- std's number of eight bytes is the definition's
  eight_bytes : from_be_bytes w64 t ≡ big_endian t
  eight_bytes =
      omega (
        arith,
        byte_at 0 7 refl,
        byte_at 1 6 refl,
        byte_at 2 5 refl,
        byte_at 3 4 refl,
        byte_at 4 3 refl,
        byte_at 5 2 refl,
        byte_at 6 1 refl,
        byte_at 7 0 refl,
        none_left,
      )

  eight_fit : ((i : ℕ) → get_or t i 0 < 256) → from_be_bytes w64 t < 2 ^ 64
  eight_fit h = omega (arith, h 0, h 1, h 2, h 3, h 4, h 5, h 6, h 7)

  signed_same : (v : ℕ) → v < 2 ^ 64 → to_z w64 v ≡ signed v
  signed_same v h =
      by_order v (2 ^ 63)
      (λ k. to_z_pos w64 v k ∙ sym (signed_low v k))
      (λ k. rw (le-ltb v (2 ^ 63) k) (sym (signed_high v (2 ^ 64 - suc v) k (omega (arith, h)))))

  pub signed_bytes : ((i : ℕ) → get_or t i 0 < 256) → to_z w64 (from_be_bytes w64 t) ≡ signed (big_endian t)
  signed_bytes h = signed_same (from_be_bytes w64 t) (eight_fit h) ∙ ap signed eight_bytes

-- ---- laws of the steps over digits, by the byte's bounds, kept since docs/PORT.md names them as theorems
module _ (n : ℕ) (t : List ℕ) (i : ℕ) where
  module _ (h : i < length t) where
    pub number_low : get_or t i 0 < 0x30 → number_from n (drop i t) ≡ none
    unfolding number_from
    number_low k = ap (number_from n) (tail_at t i h) ∙ (rw (lt-leb 0x30 (get_or t i 0) k))

    pub number_high : 0x30 ≤ get_or t i 0 → 0x39 < get_or t i 0 → number_from n (drop i t) ≡ none
    unfolding number_from
    number_high l k = ap (number_from n) (tail_at t i h) ∙ (rw (le-leb 0x30 (get_or t i 0) l, lt-leb (get_or t i 0) 0x39 k))

    pub number_on : 0x30 ≤ get_or t i 0 → get_or t i 0 ≤ 0x39 → number_from n (drop i t) ≡ number_from (n * 10 + (get_or t i 0 - 0x30)) (drop (i + 1) t)
    unfolding number_from
    number_on l k = ap (number_from n) (tail_at t i h) ∙ (rw (le-leb 0x30 (get_or t i 0) l, le-leb (get_or t i 0) 0x39 k))

-- ---- laws of the steps over bytes, one by one, kept since docs/PORT.md names them as theorems

-- the number that bytes behind v go on to
unfoldable pub gathered : ℕ → List ℕ → ℕ
gathered v [] = v
gathered v (b ∷ bs) = gathered (v * 256 + b) bs

gathered_sum : (v : ℕ) (bs : List ℕ) → gathered v bs ≡ v * 256 ^ length bs + big_endian bs
unfolding gathered big_endian
gathered_sum v [] = sym (let e : v * 1 + 0 ≡ v = omega (arith, mul-one v) in e)
gathered_sum v (b ∷ bs) = gathered_sum (v * 256 + b) bs ∙ carried 256 v b (big_endian bs) (length bs)

pub gathered_all : (bs : List ℕ) → gathered 0 bs ≡ big_endian bs
gathered_all bs = gathered_sum 0 bs ∙ (let e : 0 * 256 ^ length bs + big_endian bs ≡ big_endian bs = omega (arith, zero-mul (256 ^ length bs)) in e)

module _ (v : ℕ) (bs : List ℕ) (i : ℕ) where
  pub gathered_on : i < length bs → gathered v (drop i bs) ≡ gathered (v * 256 + get_or bs i 0) (drop (i + 1) bs)
  unfolding gathered
  gathered_on h = ap (gathered v) (tail_at bs i h)

  pub gathered_end : length bs ≤ i → gathered v (drop i bs) ≡ v
  unfolding gathered
  gathered_end h = ap (gathered v) (drop_of_length-le bs h)

-- at most four digits behind a number below 10,000, and at most eight bytes, have room
pub digits_room : (n b i : ℕ) → i < 4 → b < 10 → n < 10000 * 10 ^ i → n * 10 + b < 100000000
digits_room n b i l k h =
    let p : 10 ^ i ≤ 10 ^ 3 = pow-le-pow_right {n = 10} (lit< tt) {i = i} {j = 3} (omega (arith, l)) in omega (arith, k, h, p)

pub bytes_room : (v i : ℕ) → i < 8 → v < 1 * 256 ^ i → v * 256 + 255 < 2 ^ 64
bytes_room v i l h =
    let p : 256 ^ i ≤ 256 ^ 7 = pow-le-pow_right {n = 256} (lit< tt) {i = i} {j = 7} (omega (arith, l)) in omega (arith, h, p)

pub bytes_fit : (v i : ℕ) → i ≤ 8 → v < 1 * 256 ^ i → v ≤ 18446744073709551615
bytes_fit v i l h = let p : 256 ^ i ≤ 256 ^ 8 = pow-le-pow_right {n = 256} (lit< tt) {i = i} {j = 8} l in omega (arith, h, p)

-- ---- laws of the steps by the sign's bit, kept since docs/PORT.md names them as theorems
pub sign_clear : (v : ℕ) → v < 9223372036854775808 → to_z w64 v ≡ signed v
sign_clear v h = to_z_pos w64 v h ∙ sym (signed_low v h)

minus_one : (n : ℕ) → negsuc 0 -ℤ pos n ≡ negsuc n
minus_one zero = refl
minus_one (suc n) = ap negsuc (let e : suc (0 + n) ≡ suc n = omega arith in e)

module _ (v : ℕ) (l : 9223372036854775808 ≤ v) (h : v ≤ 18446744073709551615) where
  less_one : negsuc 0 -ℤ to_z w64 (18446744073709551615 - v) ≡ negsuc (18446744073709551615 - v)
  less_one = ap (λ (z : ℤ). negsuc 0 -ℤ z) (to_z_pos w64 (18446744073709551615 - v) (omega (arith, l, h))) ∙ minus_one (18446744073709551615 - v)

  pub sign_set : negsuc 0 -ℤ to_z w64 (18446744073709551615 - v) ≡ signed v
  sign_set = less_one ∙ sym (signed_high v (18446744073709551615 - v) l (omega (arith, h)))

  pub sign_set_fits : SFits w64 (negsuc 0 -ℤ to_z w64 (18446744073709551615 - v))
  sign_set_fits = subst (SFits w64) (sym less_one) (record { sfits = omega (arith, l, h) })
