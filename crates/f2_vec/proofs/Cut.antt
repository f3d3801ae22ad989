-- Words moved down, and a part of a vector made of them word by word.
use Rattle.std.specs.Int.{bit_at, div_ceil}
use Rattle.std.specs.Int.Bits.{bit_and, bit_or, mask_lt}
use Rattle.std.proofs.Common.{◌≡◌, ℕ, ◌+◌, ◌-◌, ◌*◌, ◌/◌, ◌%◌, ◌^◌, ◌<◌, ◌≤◌, false, List, length, get_or, set, take, drop, ap, sym, ◌∙◌, arith, inl, inr}
use Rattle.std.specs.Prelude.{◌==◌}
use Rattle.std.proofs.lemmas.List.{get_or-take, get_or-drop, length-take-le, length-drop, get_or-set_same, get_or-set_other, length-set}
use Rattle.std.proofs.lemmas.Nat.{and_mask}
use Rattle.std.proofs.lemmas.Nat.Bits.{bit_at_or, bit_at_above}
use Rattle.std.proofs.lemmas.Bool.{cases_eq, cases_lt}
use Rattle.f2_vec.specs.Inside.Packed.{unit_bit, unit_bits, HasRoom}
use Rattle.f2_vec.proofs.Moved.{bit_at-mod, shl_low, shl_high, shr_bit, max_left, max_right, unit_bit_word, unit_bit_same_word}
use Rattle.f2_vec.proofs.Packed.{unit_bit-at, none_past, length-unit_bits, bit-unit_bits_within, unit_bits_from}

-- ---- words moved down

-- the word that `word_from` gives: the lower part alone ..
pub lower_alone : (us : List ℕ) (p x b : ℕ) → b < 64 → p % 64 ≡ 0 → x ≡ get_or us (p / 64) 0 → (bit_at (x / 2 ^ (p % 64)) b == 1) ≡ unit_bit 64 us (p + b)
lower_alone us p x b q z e =
    let place : 64 * (p / 64) + (p % 64 + b) ≡ p + b = omega arith in
    ap (λ y. y == 1) (shr_bit x (p % 64) b) ∙ ap (λ y. bit_at y (p % 64 + b) == 1) e ∙ sym (unit_bit-at us (p / 64) (p % 64 + b) (omega arith)) ∙ ap (unit_bit 64 us) place

-- .. and both parts
pub lower_both : (us : List ℕ) (p x y b : ℕ) → b < 64 → 0 < p % 64 → x ≡ get_or us (p / 64) 0 → y ≡ get_or us (p / 64 + 1) 0 → x < 2 ^ 64 → (bit_at (bit_or (x / 2 ^ (p % 64)) (y * 2 ^ (64 - p % 64) % 2 ^ 64)) b == 1) ≡ unit_bit 64 us (p + b)
lower_both us p x y b q z e f fits =
    let s = p % 64 in
    let i = p / 64 in
    let lo = x / 2 ^ s in
    let hi = y * 2 ^ (64 - s) % 2 ^ 64 in
    ap (λ t. t == 1) (bit_at_or lo hi b) ∙ elim (cases_lt (s + b) 64) [
      | inl l ↦
          let place : 64 * i + (s + b) ≡ p + b = omega arith in
          ap (λ t. t == 1) (max_left (bit_at lo b) (bit_at hi b) (shl_low y (64 - s) b (omega arith) q))
          ∙ ap (λ t. t == 1) (shr_bit x s b)
          ∙ ap (λ t. bit_at t (s + b) == 1) e
          ∙ sym (unit_bit-at us i (s + b) l)
          ∙ ap (unit_bit 64 us) place
      | inr g ↦
          let place : 64 * (i + 1) + (b - (64 - s)) ≡ p + b = omega arith in
          ap (λ t. t == 1) (max_right (bit_at lo b) (bit_at hi b) (shr_bit x s b ∙ bit_at_above x 64 (s + b) fits g))
          ∙ ap (λ t. t == 1) (shl_high y (64 - s) b (omega arith) q)
          ∙ ap (λ t. bit_at t (b - (64 - s)) == 1) f
          ∙ sym (unit_bit-at us (i + 1) (b - (64 - s)) (omega arith))
          ∙ ap (unit_bit 64 us) place
    ]

-- ---- the low bits of a word

pub low_within : (x k b : ℕ) → b < k → bit_at (bit_and x (2 ^ k - 1)) b ≡ bit_at x b
low_within x k b h = ap (λ m. bit_at m b) (and_mask x k) ∙ bit_at-mod x k b h

pub low_past : (x k b : ℕ) → k ≤ b → bit_at (bit_and x (2 ^ k - 1)) b ≡ 0
low_past x k b h = bit_at_above (bit_and x (2 ^ k - 1)) k b (mask_lt x k) h

-- ---- a part, word by word

-- the first i words hold the bits of us from `from` on, cut at n
pub record AreCutUpTo (i from n : ℕ) (us ws : List ℕ) : Type 0 where
  pub bits : (k : ℕ) → k < 64 * i → k < 64 * length ws → k < n → unit_bit 64 ws k ≡ unit_bit 64 us (from + k)
  pub past : (k : ℕ) → k < 64 * i → k < 64 * length ws → n ≤ k → unit_bit 64 ws k ≡ false

-- one word more
pub cut_more : (i from n x y : ℕ) (us ws : List ℕ) → i < length ws → ((b : ℕ) → b < 64 → (bit_at x b == 1) ≡ unit_bit 64 us ((from + 64 * i) + b)) → ((b : ℕ) → b < 64 → b < n - 64 * i → bit_at y b ≡ bit_at x b) → ((b : ℕ) → b < 64 → n - 64 * i ≤ b → bit_at y b ≡ 0) → AreCutUpTo i from n us ws → AreCutUpTo (i + 1) from n us (set ws i y)
cut_more i from n x y us ws h w inside outside s =
    let new = set ws i y in
    let len : length new ≡ length ws = length-set ws i y in
    let here : (k : ℕ) → k / 64 ≡ i → unit_bit 64 new k ≡ (bit_at y (k % 64) == 1) = λ k e. unit_bit_word new k y (ap (λ j. get_or new j 0) e ∙ get_or-set_same ws i y 0 h) in
    let there : (k : ℕ) → (k / 64 ≡ i → ⊥) → unit_bit 64 new k ≡ unit_bit 64 ws k = λ k d. unit_bit_same_word new ws k (get_or-set_other ws i (k / 64) y 0 d) in
    record {
      bits = λ k l m c. elim (cases_eq (k / 64) i) [
        | inl e ↦
            let place : (from + 64 * i) + k % 64 ≡ from + k = omega arith in
            here k e ∙ ap (λ t. t == 1) (inside (k % 64) (omega arith) (omega arith)) ∙ w (k % 64) (omega arith) ∙ ap (unit_bit 64 us) place
        | inr d ↦ there k d ∙ s.bits k (omega arith) (omega arith) c
      ];
      past = λ k l m c. elim (cases_eq (k / 64) i) [
        | inl e ↦ here k e ∙ ap (λ t. t == 1) (outside (k % 64) (omega arith) (omega arith))
        | inr d ↦ there k d ∙ s.past k (omega arith) (omega arith) c
      ];
    }

-- at the end of the loop the words have room for n bits
pub HasRoom-cut : (i from n : ℕ) (us ws : List ℕ) → length ws ≡ div_ceil n 64 → length ws ≤ i → AreCutUpTo i from n us ws → HasRoom 64 n ws
HasRoom-cut i from n us ws e l s = record {
  enough = omega arith;
  tight = omega arith;
  spare = λ k h. elim (cases_lt k (64 * length ws)) [
    | inl m ↦ s.past k (omega arith) m h
    | inr m ↦ none_past ws k m
  ];
}

-- the words hold the part of n coordinates from place `from` on
pub unit_bits-cut : (i from n m : ℕ) (us ws : List ℕ) → length ws ≡ div_ceil n 64 → length ws ≤ i → from + n ≤ m → AreCutUpTo i from n us ws → unit_bits 64 n ws ≡ take n (drop from (unit_bits 64 m us))
unit_bits-cut i from n m us ws e l h s =
    let v = unit_bits 64 m us in
    let lv : length v ≡ m = length-unit_bits 64 m us in
    unit_bits_from 64 n ws (take n (drop from v)) (length-take-le n (drop from v) (omega (arith, length-drop from v))) (λ k c.
    get_or-take n (drop from v) k false c
    ∙ get_or-drop from v k false
    ∙ bit-unit_bits_within 64 m us (from + k) (omega arith)
    ∙ sym (s.bits k (omega arith) (omega arith) c))
