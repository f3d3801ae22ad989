-- The bits of bytes past the last coordinate, and the vectors that have given bytes.
use Rattle.std.specs.Int.{bit_at, div_ceil}
use Rattle.std.specs.Prelude.{◌==◌, slice_index_or}
use Rattle.std.proofs.Common.{◌≡◌, ℕ, ◌+◌, ◌-◌, ◌*◌, ◌/◌, ◌%◌, ◌^◌, ◌<◌, ◌≤◌, false, List, length, ap, sym, ◌∙◌, arith, inl, inr}
use Rattle.std.proofs.lemmas.List.{get_or_past}
use Rattle.std.proofs.lemmas.Nat.Bits.{bit_at-zero, bit_at-lt, bit_at_above, same_from_bits}
use Rattle.std.proofs.lemmas.Bool.{cases_eq, cases_lt}
use Rattle.f2_vec.specs.Bytes.{packed, ArePacked}
use Rattle.f2_vec.specs.Inside.Packed.{unit_bit, unit_bits, HasRoom}
use Rattle.f2_vec.proofs.Packed.{unit_bit_zero, length-unit_bits, bit-unit_bits}
use Rattle.f2_vec.proofs.Moved.{shr_bit}
use Rattle.f2_vec.proofs.Bytes.{same_digit, unit_bit_byte, unit_bit-in_byte, unit_bit-packed, packed_from}

-- ---- the spare bits of the last byte

no_byte : (bs : List ℕ) (k : ℕ) → length bs ≤ k / 8 → unit_bit 8 bs k ≡ false
no_byte bs k h = unit_bit_zero 8 bs k (get_or_past bs (k / 8) 0 h)

-- whole bytes have none
pub none_spare : (n : ℕ) (bs : List ℕ) → length bs ≡ div_ceil n 8 → n % 8 ≡ 0 → (k : ℕ) → n ≤ k → unit_bit 8 bs k ≡ false
none_spare n bs l e k h = no_byte bs k (omega arith)

-- they are 0 where nothing of the last byte is left behind the last coordinate ..
pub spare_zero : (n : ℕ) (bs : List ℕ) → length bs ≡ div_ceil n 8 → slice_index_or bs (n / 8) 0 / 2 ^ (n % 8) ≡ 0 → (k : ℕ) → n ≤ k → unit_bit 8 bs k ≡ false
spare_zero n bs l e k h = elim (cases_eq (k / 8) (n / 8)) [
  | inl d ↦
      let x = slice_index_or bs (n / 8) 0 in
      let b = k % 8 - n % 8 in
      let place : n % 8 + b ≡ k % 8 = omega arith in
      unit_bit_byte bs k x (ap (λ q. slice_index_or bs q 0) d)
      ∙ ap (λ z. z == 1) (ap (bit_at x) (sym place) ∙ sym (shr_bit x (n % 8) b) ∙ ap (λ z. bit_at z b) e ∙ bit_at-zero b)
  | inr d ↦ no_byte bs k (omega arith)
]

-- .. and only there
pub zero_spare : (n : ℕ) (bs : List ℕ) → ((i : ℕ) → slice_index_or bs i 0 < 2 ^ 8) → ((k : ℕ) → n ≤ k → unit_bit 8 bs k ≡ false) → slice_index_or bs (n / 8) 0 / 2 ^ (n % 8) ≡ 0
zero_spare n bs below h =
    let x = slice_index_or bs (n / 8) 0 in
    let r = n % 8 in
    same_from_bits (x / 2 ^ r) 0 (λ b. shr_bit x r b ∙ elim (cases_lt (r + b) 8) [
      | inl l ↦ same_digit (bit_at x (r + b)) 0 (bit_at-lt x (r + b)) (omega arith) (sym (unit_bit-in_byte bs (n / 8) (r + b) l) ∙ h (8 * (n / 8) + (r + b)) (omega arith))
      | inr g ↦ bit_at_above x 8 (r + b) (below (n / 8)) g
    ] ∙ sym (bit_at-zero b))

-- ---- the vector with these bytes

-- bytes of a vector have no spare bit that is 1 ..
pub packed_spare : (n : ℕ) (bs : List ℕ) → ArePacked n bs → (k : ℕ) → n ≤ k → unit_bit 8 bs k ≡ false
packed_spare n bs p k h =
    ap (λ z. unit_bit 8 z k) (sym p.bytes_of) ∙ unit_bit-packed p.vector k ∙ get_or_past p.vector k false (omega (arith, p.length_of))

-- .. and others, of the right number, are bytes of a vector
pub are_packed : (n : ℕ) (bs : List ℕ) → length bs ≡ div_ceil n 8 → ((i : ℕ) → slice_index_or bs i 0 < 2 ^ 8) → ((k : ℕ) → n ≤ k → unit_bit 8 bs k ≡ false) → ArePacked n bs
are_packed n bs l below spare =
    let v = unit_bits 8 n bs in
    let room : HasRoom 8 n bs = record {
      enough = omega arith;
      tight = omega arith;
      spare = spare;
    } in
    record {
      vector = v;
      length_of = length-unit_bits 8 n bs;
      bytes_of = packed_from v bs (l ∙ ap (λ m. div_ceil m 8) (sym (length-unit_bits 8 n bs))) below (λ k. sym (bit-unit_bits 8 n bs k room));
    }

-- words with the bits of these bytes keep a vector with these bytes
pub packed_words : (n : ℕ) (bs us : List ℕ) → length bs ≡ div_ceil n 8 → ((i : ℕ) → slice_index_or bs i 0 < 2 ^ 8) → HasRoom 64 n us → ((k : ℕ) → unit_bit 64 us k ≡ unit_bit 8 bs k) → packed (unit_bits 64 n us) ≡ bs
packed_words n bs us l below room h =
    packed_from (unit_bits 64 n us) bs (l ∙ ap (λ m. div_ceil m 8) (sym (length-unit_bits 64 n us))) below (λ k. sym (h k) ∙ sym (bit-unit_bits 64 n us k room))

-- as many words as before, with the bits of these bytes, have room
pub HasRoom-read : (n : ℕ) (bs us ws : List ℕ) → HasRoom 64 n us → length ws ≡ length us → ((k : ℕ) → n ≤ k → unit_bit 8 bs k ≡ false) → ((k : ℕ) → unit_bit 64 ws k ≡ unit_bit 8 bs k) → HasRoom 64 n ws
HasRoom-read n bs us ws r e spare h = record {
  enough = omega (arith, r.enough);
  tight = omega (arith, r.tight);
  spare = λ k l. h k ∙ spare k l;
}

-- bytes written of words that keep a vector have all of its bits
pub bits_of_written : (n : ℕ) (us ws bs : List ℕ) → ws ≡ us → HasRoom 64 n us → n ≤ 8 * length bs → ((k : ℕ) → k < 8 * length bs → unit_bit 8 bs k ≡ unit_bit 64 ws k) → (k : ℕ) → unit_bit 64 us k ≡ unit_bit 8 bs k
bits_of_written n us ws bs e r l h k = elim (cases_lt k (8 * length bs)) [
  | inl c ↦ ap (λ x. unit_bit 64 x k) (sym e) ∙ sym (h k c)
  | inr g ↦ r.spare k (omega arith) ∙ sym (no_byte bs k (omega arith))
]
