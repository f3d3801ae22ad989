-- The next place that holds a 1, word by word.
use Rattle.std.specs.Int.{bit_at, trailing_zeros, w64}
use Rattle.std.specs.List.{range_with_len, items_where_true}
use Rattle.std.proofs.Common.{◌≡◌, ℕ, zero, suc, ◌+◌, ◌-◌, ◌*◌, ◌/◌, ◌%◌, ◌^◌, ◌<◌, ◌≤◌, Bool, true, false, List, [], ◌∷◌, ◌++◌, length, take, ap, sym, ◌∙◌, arith, inl, inr, append-nil}
use Rattle.std.specs.Prelude.{◌==◌}
use Rattle.std.proofs.lemmas.List.{take_all}
use Rattle.std.proofs.lemmas.Bool.{cases_lt, false≢true}
use Rattle.std.proofs.lemmas.Nat.Bits.{bit_at-trailing_zeros, bit_at-zero}
use Rattle.f2_vec.specs.Vectors.{bit, IsZeroFrom, IsNextOne}
use Rattle.f2_vec.specs.Inside.Packed.{unit_bit, unit_bits, HasRoom}
use Rattle.f2_vec.proofs.Packed.{bit-unit_bits, none_past}
use Rattle.f2_vec.proofs.Moved.{shl_low, shl_high, shr_bit}
use Rattle.f2_vec.proofs.Ones.{ones_more}

-- x is the word at place i without its bits before bit `from`
pub record IsWordWithout (us : List ℕ) (i from x : ℕ) : Type 0 where
  pub before : (b : ℕ) → b < 64 → 64 * i + b < from → bit_at x b ≡ 0
  pub others : (b : ℕ) → b < 64 → from ≤ 64 * i + b → (bit_at x b == 1) ≡ unit_bit 64 us (64 * i + b)

-- the two shifts leave the bits from s on
pub shifted_before : (x s b : ℕ) → b < s → b < 64 → bit_at (x / 2 ^ s * 2 ^ s % 2 ^ 64) b ≡ 0
shifted_before x s b h l = shl_low (x / 2 ^ s) s b h l

pub shifted_others : (x s b : ℕ) → s ≤ b → b < 64 → bit_at (x / 2 ^ s * 2 ^ s % 2 ^ 64) b ≡ bit_at x b
shifted_others x s b h l = shl_high (x / 2 ^ s) s b h l ∙ shr_bit x s (b - s) ∙ ap (bit_at x) (omega arith)

-- the place p of the first bit from `from` on
pub record IsNextBit (n : ℕ) (us : List ℕ) (from p : ℕ) : Type 0 where
  pub within : p < n
  pub reached : from ≤ p
  pub here : unit_bit 64 us p ≡ true
  pub between : (k : ℕ) → from ≤ k → k < p → unit_bit 64 us k ≡ false

-- a place from 64 i on and below 64 (i + 1) by its place in the word
in_word_at : (i k : ℕ) → 64 * i ≤ k → 64 * i + (k - 64 * i) ≡ k
in_word_at i k h = omega arith

pub next_here : (n : ℕ) (us : List ℕ) (i from x : ℕ) → HasRoom 64 n us → IsWordWithout us i from x → (x ≡ 0 → ⊥) → x < 2 ^ 64 → ((k : ℕ) → from ≤ k → k < 64 * i → unit_bit 64 us k ≡ false) → IsNextBit n us from (64 * i + trailing_zeros w64 x)
next_here n us i from x r w d f before =
    let t = trailing_zeros w64 x in
    let z = bit_at-trailing_zeros w64 x (omega arith) f in
    let z64 : t < 64 = z.0 in
    let reached : from ≤ 64 * i + t = elim (cases_lt (64 * i + t) from) [
      | inl l ↦ absurd (let e = sym z.1 ∙ w.before t z64 l in omega arith)
      | inr l ↦ l
    ] in
    let here : unit_bit 64 us (64 * i + t) ≡ true = sym (w.others t z64 reached) ∙ ap (λ y. y == 1) z.1 in
    record {
      within = elim (cases_lt (64 * i + t) n) [
        | inl l ↦ l
        | inr l ↦ absurd (false≢true (sym (r.spare (64 * i + t) l) ∙ here))
      ];
      reached = reached;
      here = here;
      between = λ k a b. elim (cases_lt k (64 * i)) [
        | inl l ↦ before k a l
        | inr l ↦
            let j = k - 64 * i in
            let g : 64 * i + j ≡ k = in_word_at i k l in
            let jt : j < t = omega arith in
            let j64 : j < 64 = omega (arith, z.0) in
            ap (unit_bit 64 us) (sym g) ∙ sym (w.others j j64 (omega arith)) ∙ ap (λ y. y == 1) (z.2 j jt)
      ];
    }

-- a word that is 0 goes by
pub none_here : (us : List ℕ) (i from x : ℕ) → IsWordWithout us i from x → x ≡ 0 → ((k : ℕ) → from ≤ k → k < 64 * i → unit_bit 64 us k ≡ false) → (k : ℕ) → from ≤ k → k < 64 * (i + 1) → unit_bit 64 us k ≡ false
none_here us i from x w e before k a h = elim (cases_lt k (64 * i)) [
  | inl l ↦ before k a l
  | inr l ↦
      let j = k - 64 * i in
      let g : 64 * i + j ≡ k = in_word_at i k l in
      ap (unit_bit 64 us) (sym g) ∙ sym (w.others j (omega arith) (omega arith)) ∙ ap (λ y. bit_at y j == 1) e ∙ ap (λ y. y == 1) (bit_at-zero j)
]

-- what the next bit says of the vector
pub next_of : (n : ℕ) (us : List ℕ) (v : List Bool) (from p : ℕ) → HasRoom 64 n us → unit_bits 64 n us ≡ v → IsNextBit n us from p → IsNextOne v from p
next_of n us v from p r e f = record {
  reached = f.reached;
  one = ap (λ w. bit w p) (sym e) ∙ bit-unit_bits 64 n us p r ∙ f.here;
  zeros_between = λ k a b. ap (λ w. bit w k) (sym e) ∙ bit-unit_bits 64 n us k r ∙ f.between k a b;
}

pub none_of : (n i : ℕ) (us : List ℕ) (v : List Bool) (from : ℕ) → HasRoom 64 n us → unit_bits 64 n us ≡ v → length us ≤ i → ((k : ℕ) → from ≤ k → k < 64 * i → unit_bit 64 us k ≡ false) → IsZeroFrom v from
none_of n i us v from r e h before k a =
    ap (λ w. bit w k) (sym e)
    ∙ bit-unit_bits 64 n us k r
    ∙ elim (cases_lt k (64 * i)) [
      | inl l ↦ before k a l
      | inr l ↦ none_past us k (omega arith)
    ]

-- ---- the list of the ones

-- the ones of the first i coordinates
abbrev pub ones_below : List Bool → ℕ → List ℕ
ones_below v i = items_where_true (take i v) (range_with_len 0 i)

-- zeros between add nothing
pub ones_over_zeros : (v : List Bool) (i d : ℕ) → i + d ≤ length v → ((k : ℕ) → i ≤ k → k < i + d → bit v k ≡ false) → ones_below v (i + d) ≡ ones_below v i
ones_over_zeros v i zero h z = ap (ones_below v) (omega arith)
ones_over_zeros v i (suc d) h z =
    let same = ones_over_zeros v i d (omega arith) (λ k a b. z k a (omega arith)) in
    let e : i + suc d ≡ (i + d) + 1 = omega arith in
    ap (ones_below v) e
    ∙ sym (ones_more v (i + d) (ones_below v i) false (omega arith) (sym same) (sym (z (i + d) (omega arith) (omega arith))))
    ∙ append-nil (ones_below v i)

-- the 1 at place p, after zeros from i on
pub ones_next : (v : List Bool) (i p : ℕ) (ones : List ℕ) → p < length v → IsNextOne v i p → ones ≡ ones_below v i → ones ++ p ∷ [] ≡ ones_below v (p + 1)
ones_next v i p ones h f e =
    let r = f.reached in
    let g : i + (p - i) ≡ p = omega arith in
    let same : ones_below v p ≡ ones_below v i = ap (ones_below v) (sym g) ∙ ones_over_zeros v i (p - i) (omega arith) (λ k a b. f.zeros_between k a (omega arith)) in
    ones_more v p ones true h (e ∙ sym same) (sym f.one)

-- no 1 from i on
pub ones_end : (v : List Bool) (i n : ℕ) (ones : List ℕ) → n ≡ length v → i ≤ n → IsZeroFrom v i → ones ≡ ones_below v i → ones ≡ items_where_true v (range_with_len 0 n)
ones_end v i n ones l h z e =
    let g : i + (n - i) ≡ n = omega arith in
    let all : take n v ≡ v = take_all n v (omega arith) in
    e ∙ sym (ones_over_zeros v i (n - i) (omega arith) (λ k a b. z k a)) ∙ ap (ones_below v) g ∙ ap (λ w. items_where_true w (range_with_len 0 n)) all

-- ---- the last word that is not zero

-- past the words there is no coordinate
pub zero_past : (n end : ℕ) (us : List ℕ) (v : List Bool) → HasRoom 64 n us → unit_bits 64 n us ≡ v → end ≡ length us → IsZeroFrom v (64 * end)
zero_past n end us v r e h = λ k l. ap (λ u. bit u k) (sym e) ∙ bit-unit_bits 64 n us k r ∙ none_past us k (omega arith)

-- a word more that is zero
pub zero_before : (end x : ℕ) (v : List Bool) → 0 < end → ((b : ℕ) → b < 64 → (bit_at x b == 1) ≡ bit v (64 * (end - 1) + b)) → x ≡ 0 → IsZeroFrom v (64 * end) → IsZeroFrom v (64 * (end - 1))
zero_before end x v some word none behind = λ k l. elim (cases_lt k (64 * end)) [
  | inr m ↦ behind k m
  | inl m ↦
      let b = k - 64 * (end - 1) in
      let place : 64 * (end - 1) + b ≡ k = omega arith in
      ap (bit v) (sym place) ∙ sym (word b (omega arith)) ∙ ap (λ y. bit_at y b == 1) none ∙ ap (λ y. y == 1) (bit_at-zero b)
]

-- a word with a 1, so that no fewer words hold all ones
pub least_end : (end m x : ℕ) (v : List Bool) → 0 < end → ((b : ℕ) → b < 64 → (bit_at x b == 1) ≡ bit v (64 * (end - 1) + b)) → (x ≡ 0 → ⊥) → x < 2 ^ 64 → IsZeroFrom v (64 * m) → end ≤ m
least_end end m x v at_least word some fits z =
    elim (cases_lt m end) [
      | inr l ↦ l
      | inl l ↦
          let t = bit_at-trailing_zeros w64 x (omega (arith, some)) fits in
          let b = trailing_zeros w64 x in
          let one : bit v (64 * (end - 1) + b) ≡ true = sym (word b t.0) ∙ ap (λ y. y == 1) t.1 in
          absurd (false≢true (sym (z (64 * (end - 1) + b) (omega arith)) ∙ one))
    ]
