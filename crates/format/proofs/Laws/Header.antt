-- Laws of the header: what is written has the form, and gives the UUID and the free part back.
use Rattle.std.specs.Prelude.{◌≡◌, true, List, [], ◌∷◌, map, length, get_or}
use Rattle.std.proofs.Math.Path.{refl}
use Rattle.std.proofs.Common.{sym, ap, ◌∙◌, add-zero, zero-add, lt-ltb, le-ltb}
use Prim.Native.Nat.{ℕ, zero, suc, ◌+◌, ◌*◌, ◌/◌, ◌%◌, ◌<◌, ◌≤◌}
use native.Mathlib.Omega.{arith}
use Rattle.std.proofs.Math.Nat.{suc_inj}
use Rattle.format.proofs.Laws.Cases.{by_order, by_table}
use Rattle.format.specs.Text.{ascii}
use Rattle.format.specs.Bytes.{AreBytes, same, up_from}
use Rattle.format.specs.Header.{marker, is_hex, all_hex, dashed, uuid_form, header_form, hex_digit, hex_text, uuid_text, header_of, hex_value, hex_bytes, uuid_of, free_of}

-- "lower case written"
pub digits_lower : map hex_digit (up_from 0 16) ≡ ascii "0123456789abcdef"
unfolding hex_digit
digits_lower = refl

pub digit_is_hex : (n : ℕ) → n < 16 → is_hex (hex_digit n) ≡ true
unfolding is_hex hex_digit
digit_is_hex n h = by_table (λ m. is_hex (hex_digit m)) true 0 16 refl n (omega arith) (omega arith)

pub text_is_hex : (bs : List ℕ) → AreBytes bs → all_hex (hex_text bs) ≡ true
unfolding all_hex hex_text AreBytes
text_is_hex [] a = refl
text_is_hex (b ∷ bs) (h, a) = rw (digit_is_hex (b / 16) (omega arith), digit_is_hex (b % 16) (omega arith)) (text_is_hex bs a)

digit_value : (n : ℕ) → n < 16 → hex_value (hex_digit n) ≡ n
unfolding hex_value hex_digit
digit_value n h =
    by_order n 10
    (λ l. let p : 0x30 + n < 0x3A = omega arith in rw (lt-ltb n 10 l, lt-ltb (0x30 + n) 0x3A p) (omega arith))
    (λ l. let p : 0x3A ≤ 0x57 + n = omega arith in let q : 0x47 ≤ 0x57 + n = omega arith in
    rw (le-ltb n 10 l, le-ltb (0x57 + n) 0x3A p, le-ltb (0x57 + n) 0x47 q) (omega arith))

text_bytes : (bs : List ℕ) → AreBytes bs → hex_bytes (hex_text bs) ≡ bs
unfolding hex_text hex_bytes AreBytes
text_bytes [] a = refl
text_bytes (b ∷ bs) (h, a) =
    let e : b / 16 * 16 + b % 16 ≡ b = omega arith in
    rw (digit_value (b / 16) (omega arith), digit_value (b % 16) (omega arith), e, text_bytes bs a)

-- a list of n numbers, by its elements: what computes at these holds of it
listed : (l : List ℕ) (lo n : ℕ) (f : ℕ → ℕ) → length l ≡ n → ((i : ℕ) → i < n → get_or l i 0 ≡ f (lo + i)) → l ≡ map f (up_from lo n)
listed [] lo zero f e h = refl
listed [] lo (suc n) f e h = absurd (omega arith)
listed (x ∷ l) lo zero f e h = absurd (omega arith)
listed (x ∷ l) lo (suc n) f e h =
    let first : x ≡ f lo = h 0 (omega arith) ∙ ap f (add-zero lo) in
    let rest : l ≡ map f (up_from (suc lo) n) =
    listed l (suc lo) n f (suc_inj e) (λ i k. h (suc i) (omega arith) ∙ ap f (omega arith)) in
    ap (λ (y : ℕ). y ∷ l) first ∙ ap (λ (y : List ℕ). f lo ∷ y) rest

by_elements : (l : List ℕ) (n : ℕ) → length l ≡ n → l ≡ map (λ i. get_or l i 0) (up_from 0 n)
by_elements l n e = listed l 0 n (λ i. get_or l i 0) e (λ i h. ap (λ (k : ℕ). get_or l k 0) (sym (zero-add i)))

byte_at : (l : List ℕ) → AreBytes l → (i : ℕ) → get_or l i 0 < 256
unfolding AreBytes
byte_at [] a i = omega arith
byte_at (b ∷ l) (h, a) zero = h
byte_at (b ∷ l) (h, a) (suc i) = byte_at l a i

module _ (f : ℕ → ℕ) (h : (i : ℕ) → f i < 256) where
  bytes_from : (lo n : ℕ) → AreBytes (map f (up_from lo n))
  unfolding AreBytes
  bytes_from lo zero = tt
  bytes_from lo (suc n) = (h lo, bytes_from (suc lo) n)

  form_of : (free : List ℕ) → length free ≡ 60 → header_form (header_of (map f (up_from 0 16)) free) ≡ true
  unfolding header_form uuid_form dashed header_of uuid_text hex_text marker same
  form_of free e =
      rw (
        e,
        text_is_hex (map f (up_from 0 4)) (bytes_from 0 4),
        text_is_hex (map f (up_from 4 2)) (bytes_from 4 2),
        text_is_hex (map f (up_from 6 2)) (bytes_from 6 2),
        text_is_hex (map f (up_from 8 2)) (bytes_from 8 2),
        text_is_hex (map f (up_from 10 6)) (bytes_from 10 6),
      )

  uuid_back : (free : List ℕ) → uuid_of (header_of (map f (up_from 0 16)) free) ≡ map f (up_from 0 16)
  unfolding uuid_of header_of uuid_text hex_text marker
  uuid_back free =
      rw (
        text_bytes (map f (up_from 0 4)) (bytes_from 0 4),
        text_bytes (map f (up_from 4 2)) (bytes_from 4 2),
        text_bytes (map f (up_from 6 2)) (bytes_from 6 2),
        text_bytes (map f (up_from 8 2)) (bytes_from 8 2),
        text_bytes (map f (up_from 10 6)) (bytes_from 10 6),
      )

module _ (f : ℕ → ℕ) (free : List ℕ) where
  free_back : free_of (header_of (map f (up_from 0 16)) free) ≡ free
  unfolding free_of header_of uuid_text hex_text marker
  free_back = refl

  long : length (header_of (map f (up_from 0 16)) free) ≡ 49 + length free
  unfolding header_of uuid_text hex_text marker
  long = omega arith

module _ (uuid free : List ℕ) (n : length uuid ≡ 16) where
  elements : uuid ≡ map (λ i. get_or uuid i 0) (up_from 0 16)
  elements = by_elements uuid 16 n

  pub header_length_lem : length (header_of uuid free) ≡ 49 + length free
  header_length_lem = ap (λ (u : List ℕ). length (header_of u free)) elements ∙ long (λ i. get_or uuid i 0) free

  -- what is written has the form
  pub header_has_form : AreBytes uuid → length free ≡ 60 → header_form (header_of uuid free) ≡ true
  header_has_form a e =
      ap (λ (u : List ℕ). header_form (header_of u free)) elements ∙ form_of (λ i. get_or uuid i 0) (byte_at uuid a) free e

  -- and gives the UUID and the free part back
  pub header_gives_uuid : AreBytes uuid → uuid_of (header_of uuid free) ≡ uuid
  header_gives_uuid a =
      ap (λ (u : List ℕ). uuid_of (header_of u free)) elements ∙ uuid_back (λ i. get_or uuid i 0) (byte_at uuid a) free ∙ sym elements

  pub header_gives_free : free_of (header_of uuid free) ≡ free
  header_gives_free = ap (λ (u : List ℕ). free_of (header_of u free)) elements ∙ free_back (λ i. get_or uuid i 0) free
