-- One bit turned over.
use Rattle.std.specs.Int.{bit_at}
use Rattle.std.specs.Int.Bits.{bit_xor}
use Rattle.std.proofs.Common.{◌≡◌, ◌≢◌, ℕ, ◌*◌, ◌/◌, ◌%◌, ◌^◌, ◌<◌, Bool, true, false, List, length, get_or, set, ap, sym, ◌∙◌, arith, inl, inr}
use Rattle.std.specs.Prelude.{◌==◌}
use Rattle.std.proofs.lemmas.List.{ext_get_or, get_or_read, length-set, get_or-set_same, get_or-set_other}
use Rattle.std.proofs.lemmas.Nat.{one_shl}
use Rattle.std.proofs.lemmas.Nat.Bits.{bit_at_xor, bit_at-lt, bit_at-pow_same, bit_at-pow_other}
use Rattle.std.proofs.lemmas.Bool.{cases_eq}
use Rattle.f2_vec.specs.Vectors.{plus, sum_of, zeros, bit}
use Rattle.f2_vec.specs.Spans.{unit_vector}
use Rattle.f2_vec.specs.Inside.Packed.{unit_bit}
use Rattle.f2_vec.proofs.Sums.{bit-sum_of, length-sum_of, length-zeros, bit-zeros, plus-false}
use Rattle.f2_vec.proofs.Packed.{HasBitSet, HasBitSet-word, bit_at-plus}

-- the word of bit i, and what `word ^ (1 << s)` is
pub one_turned : (us : List ℕ) (i x : ℕ) → i / 64 < length us → x ≡ get_or us (i / 64) x → HasBitSet us (set us (i / 64) (bit_xor x (1 * 2 ^ (i % 64) % 2 ^ 64))) i (plus (unit_bit 64 us i) true)
unfolding unit_bit
one_turned us i x h r =
    let s = i % 64 in
    let m = 1 * 2 ^ s % 2 ^ 64 in
    let em : m ≡ 2 ^ s = one_shl s 64 (omega arith) in
    let here : (bit_at (bit_xor x m) s == 1) ≡ plus (unit_bit 64 us i) true =
    bit_at-plus x m s
    ∙ ap (λ y. plus (bit_at y s == 1) (bit_at m s == 1)) (get_or_read us (i / 64) x h r 0)
    ∙ ap (λ y. plus (bit_at (get_or us (i / 64) 0) s == 1) (bit_at y s == 1)) em
    ∙ ap (λ y. plus (bit_at (get_or us (i / 64) 0) s == 1) (y == 1)) (bit_at-pow_same s) in
    HasBitSet-word us i x (bit_xor x m) (plus (unit_bit 64 us i) true) h r here (λ j l d.
    let z : bit_at m j ≡ 0 = ap (λ y. bit_at y j) em ∙ bit_at-pow_other s j d in
    bit_at_xor x m j ∙ omega (arith, z, bit_at-lt x j))

bit-unit_same : (n i : ℕ) → i < n → bit (unit_vector n i) i ≡ true
bit-unit_same n i h = get_or-set_same (zeros n) i true false (omega (arith, length-zeros n))

bit-unit_other : (n i k : ℕ) → k ≢ i → bit (unit_vector n i) k ≡ false
bit-unit_other n i k d = get_or-set_other (zeros n) i k true false d ∙ bit-zeros n k

-- the sum with a unit vector
pub sum_with_unit : (n i : ℕ) (v : List Bool) → length v ≡ n → i < n → set v i (plus (bit v i) true) ≡ sum_of v (unit_vector n i)
sum_with_unit n i v e h =
    let u = unit_vector n i in
    let lu : length v ≡ length u = e ∙ sym (length-set (zeros n) i true ∙ length-zeros n) in
    ext_get_or false (set v i (plus (bit v i) true)) (sum_of v u) (length-set v i (plus (bit v i) true) ∙ sym (length-sum_of v u lu)) (λ k _.
    elim (cases_eq k i) [
      | inl s ↦
          ap (bit (set v i (plus (bit v i) true))) s
          ∙ get_or-set_same v i (plus (bit v i) true) false (omega arith)
          ∙ ap (plus (bit v i)) (sym (bit-unit_same n i h))
          ∙ sym (bit-sum_of v u i lu)
          ∙ ap (bit (sum_of v u)) (sym s)
      | inr d ↦
          get_or-set_other v i k (plus (bit v i) true) false d
          ∙ sym (plus-false (bit v k))
          ∙ ap (plus (bit v k)) (sym (bit-unit_other n i k d))
          ∙ sym (bit-sum_of v u k lu)
    ])
