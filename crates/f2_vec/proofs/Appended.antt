-- A vector behind another: words of zeros are added, and the other vector is added to them.
use Rattle.std.specs.Int.{bit_at, div_ceil}
use Rattle.std.specs.Prelude.{◌==◌}
use Rattle.std.proofs.Common.{◌≡◌, ℕ, ◌+◌, ◌-◌, ◌/◌, ◌%◌, ◌≤◌, Bool, false, List, ◌++◌, length, get_or, replicate, take, refl, ap, sym, ◌∙◌, arith, inl, inr}
use Rattle.std.proofs.lemmas.List.{get_or_past, length-append, get_or_append_left, get_or-append_right, take_all, append-nil}
use Rattle.std.proofs.lemmas.Bool.{cases_lt}
use Rattle.f2_vec.specs.Vectors.{sum_of, zeros, placed}
use Rattle.f2_vec.specs.Inside.Packed.{unit_bit, unit_bits, HasRoom}
use Rattle.f2_vec.proofs.Sums.{length-zeros, bit-zeros}
use Rattle.f2_vec.proofs.Combinations.{sum_of-padded}
use Rattle.f2_vec.proofs.Packed.{length-unit_bits, bit-unit_bits_within, unit_bits_from, get_or_zeros}

-- ws are the words us with some words of zeros behind them
pub record HasZerosBehind (us ws : List ℕ) : Type 0 where
  pub bits : (k : ℕ) → unit_bit 64 ws k ≡ unit_bit 64 us k

word_behind : (us : List ℕ) (z i : ℕ) → get_or (us ++ replicate {A = ℕ} z 0) i 0 ≡ get_or us i 0
word_behind us z i = elim (cases_lt i (length us)) [
  | inl h ↦ get_or_append_left us (replicate {A = ℕ} z 0) 0 i h
  | inr h ↦ get_or-append_right us (replicate {A = ℕ} z 0) (length us) i 0 refl h ∙ get_or_zeros z (i - length us) ∙ sym (get_or_past us i 0 h)
]

-- what `resize` gives
pub HasZerosBehind-resized : (us ws : List ℕ) (m z : ℕ) → length us ≤ m → ws ≡ take m us ++ replicate {A = ℕ} z 0 → HasZerosBehind us ws
unfolding unit_bit
HasZerosBehind-resized us ws m z h e = record {
  bits = λ k. ap (λ w. bit_at (get_or w (k / 64) 0) (k % 64) == 1) (e ∙ ap (λ w. w ++ replicate {A = ℕ} z 0) (take_all m us h)) ∙ ap (λ x. bit_at x (k % 64) == 1) (word_behind us z (k / 64));
}

pub HasRoom-behind : (n m : ℕ) (us ws : List ℕ) → HasRoom 64 n us → length ws ≡ div_ceil (n + m) 64 → HasZerosBehind us ws → HasRoom 64 (n + m) ws
HasRoom-behind n m us ws r e s = record {
  enough = omega arith;
  tight = omega arith;
  spare = λ k h. s.bits k ∙ r.spare k (omega arith);
}

pub unit_bits-behind : (n m : ℕ) (us ws : List ℕ) → HasRoom 64 n us → HasZerosBehind us ws → unit_bits 64 (n + m) ws ≡ unit_bits 64 n us ++ zeros m
unit_bits-behind n m us ws r s =
    let v = unit_bits 64 n us in
    let l : length v ≡ n = length-unit_bits 64 n us in
    unit_bits_from 64 (n + m) ws (v ++ zeros m) (length-append v (zeros m) ∙ omega (arith, length-zeros m)) (λ k h. elim (cases_lt k n) [
      | inl b ↦ get_or_append_left v (zeros m) false k (omega arith) ∙ bit-unit_bits_within 64 n us k b ∙ sym (s.bits k)
      | inr b ↦ get_or-append_right v (zeros m) n k false l b ∙ bit-zeros m (k - n) ∙ sym (s.bits k ∙ r.spare k b)
    ])

-- the other vector, moved behind the first, is added to these zeros
pub sum_behind : (u v w : List Bool) (n m : ℕ) → length u ≡ n → length v ≡ m → w ≡ u ++ zeros m → sum_of w (placed (length w) n v) ≡ u ++ v
sum_behind u v w n m lu lv e =
    let lw : length w ≡ n + m = ap length e ∙ length-append u (zeros m) ∙ omega (arith, length-zeros m) in
    let none : length w - (n + length v) ≡ 0 = omega arith in
    ap (λ k. sum_of w ((zeros n ++ v) ++ zeros k)) none
    ∙ ap (sum_of w) (append-nil (zeros n ++ v))
    ∙ ap (λ x. sum_of x (zeros n ++ v)) e
    ∙ sum_of-padded n m u v lu lv
