-- The bits of a degree's basis.
use Rattle.std.proofs.Common.{◌≡◌, ℕ, zero, suc, ◌+◌, ◌-◌, ◌*◌, ◌<◌, ◌≤◌, ◌^◌, ◌≢◌, inl, inr, Bool, true, false, nat_eq, nat_le, Some, List, [], ◌∷◌, take, length, refl, sym, ◌∙◌, ap, arith, slice_get}
use Rattle.std.specs.Cmp.Lexicographic.{pointwise, same_text, other_text}
use Rattle.std.proofs.lemmas.Option.{get_or_from_slice_get, slice_get_within}
use Rattle.std.proofs.lemmas.Bool.{eqb-true, eqb-false, eq-eqb, ne_eqb, leb-true, leb-false, cases_Bool, cases_eq}
use Rattle.std.proofs.Math.Nat.{mul-le-mul_right}
use Rattle.std.proofs.Math.Pow.{pow_mono}
use Rattle.f2_vec.specs.Vectors.{plus, sum_of, bit}
use Rattle.f2_vec.specs.Spans.{unit_vector}
use Rattle.f2_vec.proofs.Sums.{bit-sum_of, plus-comm}
use Rattle.f2_vec.proofs.Split.{length-unit_vector, bit-unit_vector}
use Rattle.milnor_basis.specs.Exponents.{entry, degree_of, put_before, trimmed, IsTrimmed}
use Rattle.milnor_basis.specs.Basis.{basis_of}
use Rattle.milnor_basis.specs.Inside.Walk.{TurnsOverEqual}
use Rattle.milnor_basis.specs.Inside.FreeRows.{element}
use Rattle.milnor_basis.proofs.ExponentLemmas.{trimmed-zeros, entry-trimmed, entry_last, entry_within, length_above}
use Rattle.milnor_basis.proofs.Places.{basis_of-once, basis_of-member}

-- an element of a degree up to 255 has at most 8 exponents
pub short : (t : List ℕ) → IsTrimmed t → degree_of t ≤ 255 → length t ≤ 8
short t trim small = elim (cases_Bool (nat_le (length t) 8)) [
  | inl f ↦ leb-true (length t) 8 f
  | inr f ↦ let more : 8 < length t = leb-false (length t) 8 f in
      let j = length t - 1 in
      let last : entry t j ≢ 0 = entry_last t j trim (omega arith) in
      let weight : entry t j * (2 ^ (1 + j) - 1) ≤ degree_of t = entry_within 1 t j in
      let past : 9 ≤ 1 + j = omega arith in let grows : 2 ^ 9 ≤ 2 ^ (1 + j) = pow_mono past in
      let some : 1 ≤ entry t j = omega arith in
      let one : 1 * (2 ^ (1 + j) - 1) ≤ entry t j * (2 ^ (1 + j) - 1) = mul-le-mul_right (2 ^ (1 + j) - 1) some in
      absurd (omega arith)
]

pub same_exponents : (xs ys : List ℕ) → xs ≡ ys → pointwise nat_eq xs ys ≡ true
same_exponents xs ys e = elim (cases_Bool (pointwise nat_eq xs ys)) [ inl t ↦ t | inr f ↦ absurd (other_text xs ys (sym f) e) ]

pub other_exponents : (xs ys : List ℕ) → xs ≢ ys → pointwise nat_eq xs ys ≡ false
other_exponents xs ys e = elim (cases_Bool (pointwise nat_eq xs ys)) [ inl t ↦ absurd (e (same_text xs ys (sym t))) | inr f ↦ f ]

pub trimmed_take : (n : ℕ) (xs : List ℕ) → ((i : ℕ) → n ≤ i → entry xs i ≡ 0) → trimmed (take n xs) ≡ trimmed xs
trimmed_take zero xs z = sym (trimmed-zeros xs (λ i. z i (omega arith)))
trimmed_take (suc n) [] z = refl
trimmed_take (suc n) (x ∷ xs) z = ap (put_before x) (trimmed_take n xs (λ i l. z (suc i) (omega arith)))

-- a list of exponents that is an element of a degree up to 255 has none past the eighth
pub no_more_exponents : (xs : List ℕ) (degree k : ℕ) → degree ≤ 255 → k < length (basis_of degree) → trimmed xs ≡ element degree k → (i : ℕ) → 8 ≤ i → entry xs i ≡ 0
no_more_exponents xs degree k small l e i p =
    let at = basis_of-member degree k l in
    let d = at.1 in
    let few : length (element degree k) ≤ 8 = short (element degree k) at.0 (omega arith) in
    elim (cases_Bool (nat_eq (entry xs i) 0)) [
      | inl z ↦ eqb-true (entry xs i) 0 z
      | inr f ↦ let more : entry (element degree k) i ≢ 0 = (λ z. eqb-false (entry xs i) 0 f (sym (entry-trimmed xs i) ∙ ap (λ r. entry r i) e ∙ z)) in
          let above = length_above (element degree k) i more in absurd (omega arith)
    ]

-- the bits with the one at a place turned over
pub flipped : (bits : List Bool) (at k : ℕ) (b : Bool) → at < length bits → nat_eq k at ≡ b → bit (sum_of bits (unit_vector (length bits) at)) k ≡ plus b (bit bits k)
flipped bits at k b l e =
    bit-sum_of bits (unit_vector (length bits) at) k (sym (length-unit_vector (length bits) at))
    ∙ ap (plus (bit bits k)) (bit-unit_vector (length bits) at k l ∙ e)
    ∙ plus-comm (bit bits k) b

-- the bit of the element at `place` is turned over
pub turns_one : (degree place : ℕ) (xs : List ℕ) (bits : List Bool) → length bits ≡ length (basis_of degree) → slice_get (basis_of degree) place ≡ Some (trimmed xs) → TurnsOverEqual degree xs bits (sum_of bits (unit_vector (length bits) place))
turns_one degree place xs bits e at k l =
    let here : element degree place ≡ trimmed xs = get_or_from_slice_get (basis_of degree) place (trimmed xs) [] at in
    let within = slice_get_within (basis_of degree) place (trimmed xs) at in
    flipped bits place k (pointwise nat_eq (trimmed xs) (element degree k)) (omega arith) (elim (cases_eq k place) [
      | inl same ↦ eq-eqb k place same ∙ sym (same_exponents (trimmed xs) (element degree k) (sym here ∙ ap (element degree) (sym same)))
      | inr other ↦ ne_eqb k place other ∙ sym (other_exponents (trimmed xs) (element degree k) (λ f. other (basis_of-once degree k place (omega arith) within (sym f ∙ sym here))))
    ])
