-- One word of a vector written.
use Rattle.std.specs.Int.{bit_at}
use Rattle.std.specs.Prelude.{◌==◌}
use Rattle.std.proofs.Common.{◌≡◌, ◌≢◌, ℕ, ◌+◌, ◌-◌, ◌*◌, ◌/◌, ◌%◌, ◌<◌, ◌≤◌, List, length, set, ap, sym, ◌∙◌, arith, inl, inr}
use Rattle.std.proofs.lemmas.List.{length-set, get_or-set_same, get_or-set_other}
use Rattle.std.proofs.lemmas.Bool.{cases_eq}
use Rattle.f2_vec.specs.Vectors.{bit}
use Rattle.f2_vec.specs.Inside.Packed.{unit_bit, unit_bits, HasRoom}
use Rattle.f2_vec.proofs.Packed.{unit_bit-at, bit-unit_bits, bit-unit_bits_within}
use Rattle.f2_vec.proofs.Moved.{unit_bit_same_word}

unit_bit-written : (us : List ℕ) (i y b : ℕ) → i < length us → b < 64 → unit_bit 64 (set us i y) (64 * i + b) ≡ (bit_at y b == 1)
unit_bit-written us i y b l h = unit_bit-at (set us i y) i b h ∙ ap (λ z. bit_at z b == 1) (get_or-set_same us i y 0 l)

unit_bit-elsewhere : (us : List ℕ) (i y k : ℕ) → k / 64 ≢ i → unit_bit 64 (set us i y) k ≡ unit_bit 64 us k
unit_bit-elsewhere us i y k d = unit_bit_same_word (set us i y) us k (get_or-set_other us i (k / 64) y 0 d)

-- a word with no bit past the end leaves the room
pub HasRoom-written : (n : ℕ) (us : List ℕ) (i y : ℕ) → HasRoom 64 n us → i < length us → ((b : ℕ) → b < 64 → n - 64 * i ≤ b → bit_at y b ≡ 0) → HasRoom 64 n (set us i y)
HasRoom-written n us i y r l past = record {
  enough = omega (arith, r.enough, length-set us i y);
  tight = omega (arith, r.tight, length-set us i y);
  spare = λ k h. elim (cases_eq (k / 64) i) [
    | inl e ↦
        let place : k ≡ 64 * i + k % 64 = omega arith in
        ap (unit_bit 64 (set us i y)) place ∙ unit_bit-written us i y (k % 64) l (omega arith) ∙ ap (λ z. z == 1) (past (k % 64) (omega arith) (omega arith))
    | inr d ↦ unit_bit-elsewhere us i y k d ∙ r.spare k h
  ];
}

pub bit-written : (n : ℕ) (us : List ℕ) (i x y b : ℕ) → i < length us → b < 64 → 64 * i + b < n → ((b : ℕ) → b < 64 → b < n - 64 * i → bit_at y b ≡ bit_at x b) → bit (unit_bits 64 n (set us i y)) (64 * i + b) ≡ (bit_at x b == 1)
bit-written n us i x y b l h k within =
    bit-unit_bits_within 64 n (set us i y) (64 * i + b) k ∙ unit_bit-written us i y b l h ∙ ap (λ z. z == 1) (within b h (omega arith))

pub bit-elsewhere : (n : ℕ) (us : List ℕ) (i y k : ℕ) → HasRoom 64 n us → HasRoom 64 n (set us i y) → k / 64 ≢ i → bit (unit_bits 64 n (set us i y)) k ≡ bit (unit_bits 64 n us) k
bit-elsewhere n us i y k r s d = bit-unit_bits 64 n (set us i y) k s ∙ unit_bit-elsewhere us i y k d ∙ sym (bit-unit_bits 64 n us k r)
