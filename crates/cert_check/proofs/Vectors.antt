-- Vectors that agree word by word, and unit vectors.
use Rattle.std.proofs.Common.{◌≡◌, ◌↔◌, inl, inr, ℕ, ◌+◌, ◌*◌, ◌-◌, ◌<◌, ◌≤◌, ◌^◌, Bool, true, false, not, nat_eq, List, [], length, Option, Some, None, IsTrue, refl, sym, ap, subst, ◌∙◌, arith}
use Rattle.std.specs.Prelude.{is_some, IsNone}
use Rattle.std.specs.Bool.{◌==◌}
use Rattle.std.specs.Int.{bit_at}
use Rattle.std.proofs.lemmas.Bool.{cases_lt, both_ways, false≢true}
use Rattle.std.proofs.lemmas.Bool.Decides.{eqb_tells, nat_tests}
use Rattle.std.proofs.lemmas.List.{ext_get_or}
use Rattle.std.proofs.lemmas.Nat.Bits.{bit_at-lt, same_from_bits_below}
use Rattle.f2_vec.proofs.Bytes.{same_digit}
use Rattle.f2_vec.specs.Vectors.{bit, IsZero, IsFirstOne, IsZeroFrom}
use Rattle.f2_vec.specs.Spans.{row, unit_vector}
use Rattle.f2_vec.proofs.Split.{bit-unit_vector, length-unit_vector}

-- ---- words

-- word i of two vectors that are equal
pub same_word : (u v : List Bool) (i x y : ℕ) → x < 2 ^ 64 → y < 2 ^ 64 → ((b : ℕ) → b < 64 → (bit_at x b == 1) ≡ bit u (64 * i + b)) → ((b : ℕ) → b < 64 → (bit_at y b == 1) ≡ bit v (64 * i + b)) → u ≡ v → x ≡ y
same_word u v i x y l h p q e =
    same_from_bits_below 64 x y l h (λ b w. same_digit (bit_at x b) (bit_at y b) (bit_at-lt x b) (bit_at-lt y b) (p b w ∙ (ap (λ (z : List Bool). bit z (64 * i + b)) e ∙ sym (q b w))))

-- where word i agrees and those before it do
pub words_more : (u v : List Bool) (i x y : ℕ) → x ≡ y → ((b : ℕ) → b < 64 → (bit_at x b == 1) ≡ bit u (64 * i + b)) → ((b : ℕ) → b < 64 → (bit_at y b == 1) ≡ bit v (64 * i + b)) → ((k : ℕ) → k < 64 * i → bit u k ≡ bit v k) → (k : ℕ) → k < 64 * (i + 1) → bit u k ≡ bit v k
words_more u v i x y e p q before k l =
    elim (cases_lt k (64 * i)) [
      | inl less ↦ before k less
      | inr more ↦
          let b = k - 64 * i in
          let w : b < 64 = omega arith in
          let at : 64 * i + b ≡ k = omega arith in
          ap (bit u) (sym at) ∙ (sym (p b w) ∙ (ap (λ z. bit_at z b == 1) e ∙ (q b w ∙ ap (bit v) at)))
    ]

pub all_words : (u v : List Bool) (n : ℕ) → length u ≡ length v → length u ≤ 64 * n → ((k : ℕ) → k < 64 * n → bit u k ≡ bit v k) → u ≡ v
all_words u v n e l same = ext_get_or false u v e (λ k h. same k (omega arith))

-- ---- unit vectors

pub unit_one_at : (n i p : ℕ) → i < n → bit (unit_vector n i) p ≡ true → p ≡ i
unit_one_at n i p l one =
    let at : nat_eq p i ≡ true = sym (bit-unit_vector n i p l) ∙ one in
    elim (eqb_tells p i) [ inl q ↦ q.1 | inr q ↦ absurd (both_ways (nat_eq p i) q.0 at) ]

pub unit_one_is : (n i p : ℕ) → i < n → p ≡ i → bit (unit_vector n i) p ≡ true
unit_one_is n i p l e = bit-unit_vector n i p l ∙ grind (arith, nat_tests)

pub unit_past : (n i : ℕ) → i < n → IsZeroFrom (unit_vector n i) (i + 1)
unit_past n i l k h = bit-unit_vector n i k l ∙ grind (arith, nat_tests)

-- a vector with its first 1 at place i and zeros behind it
pub is_unit_vector : (v : List Bool) (n i : ℕ) → i < n → length v ≡ n → IsFirstOne v i → IsZeroFrom v (i + 1) → v ≡ unit_vector n i
is_unit_vector v n i l e first past =
    ext_get_or false v (unit_vector n i) (e ∙ sym (length-unit_vector n i)) (λ k h. elim (cases_lt k i) [
      | inl less ↦ first.zeros_before k less ∙ sym (bit-unit_vector n i k l ∙ grind (arith, nat_tests))
      | inr more ↦ elim (cases_lt i k) [
        | inl past_it ↦ past k (omega arith) ∙ sym (unit_past n i l k (omega arith))
        | inr here ↦
            let same : i ≡ k = omega arith in
            ap (bit v) (sym same) ∙ (first.one ∙ sym (unit_one_is n i k l (sym same)))
      ]
    ])

pub unit_first : (v : List Bool) (n i p : ℕ) → i < n → v ≡ unit_vector n i → IsFirstOne v p → p ≡ i
unit_first v n i p l e first = unit_one_at n i p l (ap (λ (z : List Bool). bit z p) (sym e) ∙ first.one)

pub unit_not_zero : (v : List Bool) (n i : ℕ) → i < n → v ≡ unit_vector n i → IsZero v → ⊥
unit_not_zero v n i l e none = both_ways (bit v i) (none i) (ap (λ (z : List Bool). bit z i) e ∙ unit_one_is n i i l refl)

-- ---- lists

pub one_row_more : (xs ys : List (List Bool)) (i : ℕ) → row xs i ≡ row ys i → ((k : ℕ) → k < i → row xs k ≡ row ys k) → (k : ℕ) → k < i + 1 → row xs k ≡ row ys k
one_row_more xs ys i here before k l =
    elim (cases_lt k i) [
      | inl less ↦ before k less
      | inr more ↦ let same : i ≡ k = omega arith in subst (λ (z : ℕ). row xs z ≡ row ys z) same here
    ]

pub all_rows : (xs ys : List (List Bool)) (n : ℕ) → length xs ≡ length ys → length xs ≤ n → ((k : ℕ) → k < n → row xs k ≡ row ys k) → xs ≡ ys
all_rows xs ys n e l same = ext_get_or [] xs ys e (λ k h. same k (omega arith))

-- that an option holds nothing, as it is told
pub none_told : (o : Option ℕ) (r : Bool) → is_some o ≡ not r → IsTrue r ↔ IsNone o
none_told None true e = (λ h. refl, λ h. refl)
none_told None false e = absurd (false≢true e)
none_told (Some x) true e = absurd (false≢true (sym e))
none_told (Some x) false e = (λ h. absurd (false≢true h), λ h. absurd (false≢true (sym h)))

pub some_is_not_none : (o : Option ℕ) (r : Bool) → r ≡ is_some o → r ≡ true → IsNone o → ⊥
some_is_not_none None r e t none = false≢true (sym e ∙ t)
some_is_not_none (Some x) r e t none = false≢true (sym none)
