-- Vectors as bytes: how many there are, how large they are, and that they tell the vector.
use Rattle.std.specs.Int.{bit_at, div_ceil}
use Rattle.std.specs.Prelude.{◌==◌, slice_index_or, take, drop}
use Rattle.std.proofs.Common.{◌≡◌, ℕ, zero, suc, ◌+◌, ◌*◌, ◌/◌, ◌%◌, ◌^◌, ◌<◌, ◌≤◌, Bool, true, false, List, [], ◌∷◌, length, refl, ap, sym, ◌∙◌, arith, inl, inr}
use Rattle.std.proofs.lemmas.List.{get_or_past, get_or-take, get_or-drop, length-take, ext_get_or}
use Rattle.std.proofs.lemmas.List.FromFn.{length-map-range_with_len, get_or-map-range_with_len}
use Rattle.std.proofs.lemmas.Nat.{pow_pos}
use Rattle.std.proofs.lemmas.Nat.Bits.{bit_at-zero, bit_at-suc, bit_at-lt, bit_at_lowest, same_from_bits_below}
use Rattle.std.proofs.lemmas.Bool.{cases_lt, false≢true}
use Rattle.std.proofs.Math.Nat.{pow-succ'}
use Rattle.f2_vec.specs.Vectors.{bit}
use Rattle.f2_vec.specs.Bytes.{number_of, packed}
use Rattle.f2_vec.specs.Inside.Packed.{unit_bit}
use Rattle.f2_vec.proofs.Packed.{unit_bit_zero}

-- ---- a number by its binary digits

bit-number_of : (v : List Bool) (k : ℕ) → (bit_at (number_of v) k == 1) ≡ bit v k
bit-number_of [] k = ap (λ x. x == 1) (bit_at-zero k)
bit-number_of (true ∷ v) zero =
    let low : (1 + 2 * number_of v) % 2 ≡ 1 = omega arith in
    ap (λ x. x == 1) (bit_at_lowest (1 + 2 * number_of v) ∙ low)
bit-number_of (false ∷ v) zero =
    let low : (0 + 2 * number_of v) % 2 ≡ 0 = omega arith in
    ap (λ x. x == 1) (bit_at_lowest (0 + 2 * number_of v) ∙ low)
bit-number_of (true ∷ v) (suc k) =
    let half : (1 + 2 * number_of v) / 2 ≡ number_of v = omega arith in
    ap (λ x. x == 1) (bit_at-suc (1 + 2 * number_of v) k ∙ ap (λ m. bit_at m k) half) ∙ bit-number_of v k
bit-number_of (false ∷ v) (suc k) =
    let half : (0 + 2 * number_of v) / 2 ≡ number_of v = omega arith in
    ap (λ x. x == 1) (bit_at-suc (0 + 2 * number_of v) k ∙ ap (λ m. bit_at m k) half) ∙ bit-number_of v k

number_of_below : (v : List Bool) (m : ℕ) → length v ≤ m → number_of v < 2 ^ m
number_of_below [] m h = pow_pos m
number_of_below (b ∷ v) zero h = absurd (omega arith)
number_of_below (true ∷ v) (suc m) h = omega (arith, number_of_below v m (omega arith), pow-succ' 2 m)
number_of_below (false ∷ v) (suc m) h = omega (arith, number_of_below v m (omega arith), pow-succ' 2 m)

-- two digits are one where both or neither is 1
pub same_digit : (x y : ℕ) → x < 2 → y < 2 → (x == 1) ≡ (y == 1) → x ≡ y
same_digit zero zero p q e = refl
same_digit zero (suc zero) p q e = absurd (false≢true e)
same_digit (suc zero) zero p q e = absurd (false≢true (sym e))
same_digit (suc zero) (suc zero) p q e = refl
same_digit zero (suc (suc y)) p q e = absurd (omega arith)
same_digit (suc zero) (suc (suc y)) p q e = absurd (omega arith)
same_digit (suc (suc x)) y p q e = absurd (omega arith)

-- ---- a bit by its byte

pub unit_bit_byte : (bs : List ℕ) (k x : ℕ) → slice_index_or bs (k / 8) 0 ≡ x → unit_bit 8 bs k ≡ (bit_at x (k % 8) == 1)
unfolding unit_bit
unit_bit_byte bs k x e = ap (λ y. bit_at y (k % 8) == 1) e

pub unit_bit-in_byte : (bs : List ℕ) (i b : ℕ) → b < 8 → unit_bit 8 bs (8 * i + b) ≡ (bit_at (slice_index_or bs i 0) b == 1)
unit_bit-in_byte bs i b h =
    let place : (8 * i + b) / 8 ≡ i = omega arith in
    let rest : (8 * i + b) % 8 ≡ b = omega arith in
    unit_bit_byte bs (8 * i + b) (slice_index_or bs i 0) (ap (λ q. slice_index_or bs q 0) place) ∙ ap (λ r. bit_at (slice_index_or bs i 0) r == 1) rest

-- ---- the bytes

pub length-packed : (v : List Bool) → length (packed v) ≡ div_ceil (length v) 8
unfolding packed
length-packed v = length-map-range_with_len (λ i. number_of (take 8 (drop (8 * i) v))) 0 (div_ceil (length v) 8)

byte-packed : (v : List Bool) (i : ℕ) → i < div_ceil (length v) 8 → slice_index_or (packed v) i 0 ≡ number_of (take 8 (drop (8 * i) v))
unfolding packed
byte-packed v i h = get_or-map-range_with_len (λ i. number_of (take 8 (drop (8 * i) v))) 0 (div_ceil (length v) 8) i i 0 h (omega arith)

-- each is a byte; past the end stands the 0 of the look-up
pub packed_below : (v : List Bool) (i : ℕ) → slice_index_or (packed v) i 0 < 256
packed_below v i = elim (cases_lt i (div_ceil (length v) 8)) [
  | inl h ↦ omega (arith, byte-packed v i h, number_of_below (take 8 (drop (8 * i) v)) 8 (omega (arith, length-take 8 (drop (8 * i) v))))
  | inr h ↦ omega (arith, get_or_past (packed v) i 0 (omega (arith, length-packed v)))
]

pub unit_bit-packed : (v : List Bool) (k : ℕ) → unit_bit 8 (packed v) k ≡ bit v k
unit_bit-packed v k = elim (cases_lt (k / 8) (div_ceil (length v) 8)) [
  | inl h ↦
      let place : 8 * (k / 8) + k % 8 ≡ k = omega arith in
      unit_bit_byte (packed v) k (number_of (take 8 (drop (8 * (k / 8)) v))) (byte-packed v (k / 8) h)
      ∙ bit-number_of (take 8 (drop (8 * (k / 8)) v)) (k % 8)
      ∙ get_or-take 8 (drop (8 * (k / 8)) v) (k % 8) false (omega arith)
      ∙ get_or-drop (8 * (k / 8)) v (k % 8) false
      ∙ ap (bit v) place
  | inr h ↦ unit_bit_zero 8 (packed v) k (get_or_past (packed v) (k / 8) 0 (omega (arith, length-packed v))) ∙ sym (get_or_past v k false (omega arith))
]

-- bytes, as many as the vector takes, that have its coordinates as bits are its bytes
pub packed_from : (v : List Bool) (bs : List ℕ) → length bs ≡ div_ceil (length v) 8 → ((i : ℕ) → slice_index_or bs i 0 < 256) → ((k : ℕ) → unit_bit 8 bs k ≡ bit v k) → packed v ≡ bs
packed_from v bs e below h = ext_get_or 0 (packed v) bs (length-packed v ∙ sym e) (λ i _.
    let x = slice_index_or (packed v) i 0 in
    let y = slice_index_or bs i 0 in
    same_from_bits_below 8 x y (packed_below v i) (below i) (λ b l.
    same_digit (bit_at x b) (bit_at y b) (bit_at-lt x b) (bit_at-lt y b)
    (sym (unit_bit-in_byte (packed v) i b l) ∙ unit_bit-packed v (8 * i + b) ∙ sym (h (8 * i + b)) ∙ unit_bit-in_byte bs i b l)))

-- vectors of one length with the same bytes are one
pub packed-injective : (u v : List Bool) → length u ≡ length v → packed u ≡ packed v → u ≡ v
packed-injective u v e h = ext_get_or false u v e (λ k _. sym (unit_bit-packed u k) ∙ ap (λ bs. unit_bit 8 bs k) h ∙ unit_bit-packed v k)

-- ---- worked: 0001, and nine coordinates of which the first and the last are 1

worked_four : packed (false ∷ false ∷ false ∷ true ∷ []) ≡ 8 ∷ []
unfolding packed
worked_four = refl

worked_nine : packed (true ∷ false ∷ false ∷ false ∷ false ∷ false ∷ false ∷ false ∷ true ∷ []) ≡ 1 ∷ 1 ∷ []
unfolding packed
worked_nine = refl
