-- Sums with four vectors at once.
use Rattle.std.specs.Int.{bit_at}
use Rattle.std.specs.Int.Bits.{bit_xor}
use Rattle.std.proofs.Common.{◌≡◌, inl, inr, ℕ, ◌*◌, ◌/◌, ◌%◌, ◌<◌, ◌≤◌, Bool, true, false, List, length, get_or, refl, ap, sym, ◌∙◌, arith}
use Rattle.std.specs.Prelude.{◌==◌}
use Rattle.std.proofs.lemmas.Bool.{cases_lt}
use Rattle.f2_vec.specs.Vectors.{plus, sum_of, bit, IsWithinWords}
use Rattle.f2_vec.specs.Inside.Packed.{unit_bit, unit_bits, HasRoom}
use Rattle.f2_vec.proofs.Sums.{bit-sum_of, length-sum_of, plus-assoc}
use Rattle.f2_vec.proofs.Packed.{length-unit_bits, bit-unit_bits, bit-unit_bits_within, unit_bits_from, bit_at-plus, none_past}

-- the word of the sums
abbrev pub xor_four : ℕ → ℕ → ℕ → ℕ → ℕ → ℕ
xor_four u a b c d = bit_xor u (bit_xor (bit_xor (bit_xor a b) c) d)

abbrev pub plus_four : Bool → Bool → Bool → Bool → Bool → Bool
plus_four u a b c d = plus (plus (plus (plus u a) b) c) d

plus-regroup : (u a b c d : Bool) → plus u (plus (plus (plus a b) c) d) ≡ plus_four u a b c d
plus-regroup u a b c d =
    sym (plus-assoc u (plus (plus a b) c) d)
    ∙ ap (λ x. plus x d) (sym (plus-assoc u (plus a b) c))
    ∙ ap (λ x. plus (plus x c) d) (sym (plus-assoc u a b))

bit_at-four : (u a b c d i : ℕ) → (bit_at (xor_four u a b c d) i == 1) ≡ plus_four (bit_at u i == 1) (bit_at a i == 1) (bit_at b i == 1) (bit_at c i == 1) (bit_at d i == 1)
bit_at-four u a b c d i =
    let t = λ (x : ℕ). bit_at x i == 1 in
    bit_at-plus u (bit_xor (bit_xor (bit_xor a b) c) d) i
    ∙ ap (plus (t u)) (bit_at-plus (bit_xor (bit_xor a b) c) d i ∙ ap (λ x. plus x (t d)) (bit_at-plus (bit_xor a b) c i ∙ ap (λ x. plus x (t c)) (bit_at-plus a b i)))
    ∙ plus-regroup (t u) (t a) (t b) (t c) (t d)

-- the bits outside of words `start` up to `end` are 0
pub record IsZeroOutside (start end : ℕ) (xs : List ℕ) : Type 0 where
  pub before : (k : ℕ) → k / 64 < start → unit_bit 64 xs k ≡ false
  pub behind : (k : ℕ) → end ≤ k / 64 → unit_bit 64 xs k ≡ false

-- so are those of a vector that is zero outside of other words, as far as there are such
pub IsZeroOutside-from : (n from to start end : ℕ) (xs : List ℕ) (v : List Bool) → HasRoom 64 n xs → unit_bits 64 n xs ≡ v → IsWithinWords from to v → start ≤ from → ((q : ℕ) → end ≤ q → q < to → length xs ≤ q) → IsZeroOutside start end xs
IsZeroOutside-from n from to start end xs v r e h less cut = record {
  before = λ k l. at k ∙ h.before k (omega arith);
  behind = λ k l. elim (cases_lt (k / 64) to) [
    | inl m ↦ none_past xs k (let q = cut (k / 64) l m in omega arith)
    | inr m ↦ at k ∙ h.behind k (omega arith)
  ];
}
  where
    at : (k : ℕ) → unit_bit 64 xs k ≡ bit v k
    at k = sym (bit-unit_bits 64 n xs k r) ∙ ap (λ u. bit u k) e

-- each bit of ws is the sum of those of the five
pub record AreSumsOfFive (us xs ys zs ts ws : List ℕ) : Type 0 where
  pub as_many : length ws ≡ length us
  pub bits : (k : ℕ) → unit_bit 64 ws k ≡ plus_four (unit_bit 64 us k) (unit_bit 64 xs k) (unit_bit 64 ys k) (unit_bit 64 zs k) (unit_bit 64 ts k)

-- outside of the words that are summed the four are zero
pub AreSumsOfFive-words : (us xs ys zs ts ws : List ℕ) (start end : ℕ) → length ws ≡ length us
    → ((k : ℕ) → start ≤ k → k < end → get_or ws k 0 ≡ xor_four (get_or us k 0) (get_or xs k 0) (get_or ys k 0) (get_or zs k 0) (get_or ts k 0))
    → ((k : ℕ) → k < start → get_or ws k 0 ≡ get_or us k 0) → ((k : ℕ) → end ≤ k → get_or ws k 0 ≡ get_or us k 0)
    → IsZeroOutside start end xs → IsZeroOutside start end ys → IsZeroOutside start end zs → IsZeroOutside start end ts → AreSumsOfFive us xs ys zs ts ws
unfolding unit_bit
AreSumsOfFive-words us xs ys zs ts ws start end e sums before behind x y z t = record {
  as_many = e;
  bits = λ k. elim (cases_lt (k / 64) start) [
    | inl l ↦ apart k (before (k / 64) l) (x.before k l) (y.before k l) (z.before k l) (t.before k l)
    | inr l ↦ elim (cases_lt (k / 64) end) [
      | inl h ↦
          ap (λ w. bit_at w (k % 64) == 1) (sums (k / 64) l h) ∙ bit_at-four (get_or us (k / 64) 0) (get_or xs (k / 64) 0) (get_or ys (k / 64) 0) (get_or zs (k / 64) 0) (get_or ts (k / 64) 0) (k % 64)
      | inr h ↦ apart k (behind (k / 64) h) (x.behind k h) (y.behind k h) (z.behind k h) (t.behind k h)
    ]
  ];
}
  where
    none : (u : Bool) → u ≡ plus_four u false false false false
    none true = refl
    none false = refl

    apart : (k : ℕ) → get_or ws (k / 64) 0 ≡ get_or us (k / 64) 0 → unit_bit 64 xs k ≡ false → unit_bit 64 ys k ≡ false → unit_bit 64 zs k ≡ false → unit_bit 64 ts k ≡ false
        → unit_bit 64 ws k ≡ plus_four (unit_bit 64 us k) (unit_bit 64 xs k) (unit_bit 64 ys k) (unit_bit 64 zs k) (unit_bit 64 ts k)
    apart k same p q r s = ap (λ w. bit_at w (k % 64) == 1) same ∙ none (unit_bit 64 us k) ∙ sym (cc (p, q, r, s))

pub HasRoom-five : (n : ℕ) (us xs ys zs ts ws : List ℕ) → HasRoom 64 n us → HasRoom 64 n xs → HasRoom 64 n ys → HasRoom 64 n zs → HasRoom 64 n ts → AreSumsOfFive us xs ys zs ts ws → HasRoom 64 n ws
HasRoom-five n us xs ys zs ts ws u x y z t s = record {
  enough = omega (arith, u.enough, s.as_many);
  tight = omega (arith, u.tight, s.as_many);
  spare = λ k l. s.bits k ∙ cc (u.spare k l, x.spare k l, y.spare k l, z.spare k l, t.spare k l);
}

pub unit_bits-five : (n : ℕ) (us xs ys zs ts ws : List ℕ) → AreSumsOfFive us xs ys zs ts ws → unit_bits 64 n ws ≡ sum_of (sum_of (sum_of (sum_of (unit_bits 64 n us) (unit_bits 64 n xs)) (unit_bits 64 n ys)) (unit_bits 64 n zs)) (unit_bits 64 n ts)
unit_bits-five n us xs ys zs ts ws s =
    let u = unit_bits 64 n us in
    let x = unit_bits 64 n xs in
    let y = unit_bits 64 n ys in
    let z = unit_bits 64 n zs in
    let t = unit_bits 64 n ts in
    let lu : length u ≡ n = length-unit_bits 64 n us in
    let l1 : length (sum_of u x) ≡ n = length-sum_of u x (lu ∙ sym (length-unit_bits 64 n xs)) ∙ lu in
    let l2 : length (sum_of (sum_of u x) y) ≡ n = length-sum_of (sum_of u x) y (l1 ∙ sym (length-unit_bits 64 n ys)) ∙ l1 in
    let l3 : length (sum_of (sum_of (sum_of u x) y) z) ≡ n = length-sum_of (sum_of (sum_of u x) y) z (l2 ∙ sym (length-unit_bits 64 n zs)) ∙ l2 in
    let l4 = length-sum_of (sum_of (sum_of (sum_of u x) y) z) t (l3 ∙ sym (length-unit_bits 64 n ts)) ∙ l3 in
    unit_bits_from 64 n ws (sum_of (sum_of (sum_of (sum_of u x) y) z) t) l4 (λ k m.
    bit-sum_of (sum_of (sum_of (sum_of u x) y) z) t k (l3 ∙ sym (length-unit_bits 64 n ts))
    ∙ ap (λ b. plus b (bit t k)) (bit-sum_of (sum_of (sum_of u x) y) z k (l2 ∙ sym (length-unit_bits 64 n zs)))
    ∙ ap (λ b. plus (plus b (bit z k)) (bit t k)) (bit-sum_of (sum_of u x) y k (l1 ∙ sym (length-unit_bits 64 n ys)))
    ∙ ap (λ b. plus (plus (plus b (bit y k)) (bit z k)) (bit t k)) (bit-sum_of u x k (lu ∙ sym (length-unit_bits 64 n xs)))
    ∙ cc (bit-unit_bits_within 64 n us k m, bit-unit_bits_within 64 n xs k m, bit-unit_bits_within 64 n ys k m, bit-unit_bits_within 64 n zs k m, bit-unit_bits_within 64 n ts k m)
    ∙ sym (s.bits k))
