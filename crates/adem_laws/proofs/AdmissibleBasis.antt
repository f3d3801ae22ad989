-- The values of the admissible monomials of a degree are a basis.
use Rattle.std.specs.List.{range_with_len}
use Rattle.std.proofs.Common.{◌≡◌, ℕ, ◌<◌, Bool, true, false, ◌&&◌, List, [], length, map, get_or, refl, sym, ◌∙◌, ap, arith}
use Rattle.std.proofs.lemmas.Bool.{false_from_ne_true}
use Rattle.std.proofs.lemmas.List.{ext_get_or, get_or-map, length-map}
use Rattle.std.proofs.lemmas.List.FromFn.{length-map-range_with_len, get_or-map-range_with_len}
use Rattle.f2_vec.specs.Vectors.{bit}
use Rattle.f2_vec.specs.Spans.{row, HaveWidth, combination}
use Rattle.f2_vec.proofs.Spans.{length-combination}
use Rattle.milnor_basis.specs.Exponents.{entry}
use Rattle.milnor_basis.specs.Basis.{basis_of}
use Rattle.milnor_basis.specs.Inside.Walk.{is_odd_below}
use Rattle.milnor_basis.proofs.BasisLemmas.{basis_is_milnors}
use Rattle.milnor_basis.proofs.Parity.{is_odd_below-same}
use Rattle.milnor_basis.proofs.Places.{basis_of-member}
use Rattle.adem_laws.specs.Admissible.{value, monomial_of, admissible_of, ValuesLead, IsAdmissibleSum, AdmissiblesAreBasis}
use Rattle.adem_laws.proofs.Leading.{IsBelow, below_not_same, below_at_most}
use Rattle.adem_laws.proofs.Monomials.{sum-monomial_of, length-admissible_of, admissible_at}
use Rattle.adem_laws.proofs.Triangular.{IsTriangular, equation, solution, one_solution, bit-combination}
use Rattle.adem_laws.proofs.Values.{has_term, value_is, has_term_at_most, has_leading_term}

module _ (n : ℕ) where
  abbrev width : ℕ
  width = length (basis_of n)

  abbrev element : ℕ → List ℕ
  element i = get_or (basis_of n) i []

  abbrev values : List (List Bool)
  values = map value (admissible_of n)

  -- the coefficient of element j in the value of monomial i
  abbrev coefficient_at : ℕ → ℕ → Bool
  coefficient_at i j = has_term (monomial_of (element i)) (element j)

  value_at : (i : ℕ) → i < width → value (get_or (admissible_of n) i []) ≡ map (has_term (monomial_of (element i))) (basis_of n)
  value_at i l =
      ap value (admissible_at n i l)
      ∙ value_is (monomial_of (element i))
      ∙ ap (λ k. map (has_term (monomial_of (element i))) (basis_of k)) (sum-monomial_of (element i) ∙ (basis_of-member n i l).1)

  bit_at : (i j : ℕ) → i < width → j < width → bit (value (get_or (admissible_of n) i [])) j ≡ coefficient_at i j
  bit_at i j l k = ap (λ v. bit v j) (value_at i l) ∙ get_or-map (has_term (monomial_of (element i))) (basis_of n) j [] false k

  own : (i : ℕ) → i < width → coefficient_at i i ≡ true
  own i l = has_leading_term (element i) (basis_of-member n i l).0

  later : (i j : ℕ) → i < j → j < width → coefficient_at i j ≡ false
  later i j l k = false_from_ne_true (coefficient_at i j) (λ e.
      let order = (basis_is_milnors n).in_order i j l k in
      let below : IsBelow (entry (element i)) (entry (element j)) = record { place = order.place; smaller = order.smaller; same_after = order.same_after } in
      below_not_same (entry (element j)) (entry (element j))
      (below_at_most (entry (element j)) (entry (element i)) (entry (element j)) (has_term_at_most (element i) (basis_of-member n i (omega arith)).0 (element j) e) below)
      (λ m. refl))

  triangular : IsTriangular width coefficient_at
  triangular = record { own = own; later = later }

  length-values : length values ≡ width
  length-values = length-map (admissible_of n) value ∙ length-admissible_of n

  row-values : (i : ℕ) → i < width → row values i ≡ value (get_or (admissible_of n) i [])
  row-values i l = get_or-map value (admissible_of n) i [] [] (omega (arith, length-admissible_of n))

  HaveWidth-values : HaveWidth width values
  HaveWidth-values i l =
      let k : i < width = omega (arith, length-values) in
      ap length (row-values i k ∙ value_at i k) ∙ length-map (basis_of n) (has_term (monomial_of (element i)))

  sum_at : (c : List Bool) (j : ℕ) → length c ≡ length (admissible_of n) → j < width → bit (combination width c values) j ≡ equation width coefficient_at (bit c) j
  sum_at c j e l =
      bit-combination width c values j HaveWidth-values (e ∙ sym (length-map (admissible_of n) value))
      ∙ ap (is_odd_below (λ i. bit c i && bit (row values i) j)) length-values
      ∙ is_odd_below-same (λ i. bit c i && bit (row values i) j) (λ i. bit c i && coefficient_at i j) width (λ i k. ap (λ b. bit c i && b) (ap (λ v. bit v j) (row-values i k) ∙ bit_at i j k l))

  module _ (v : List Bool) (fits : length v ≡ width) where
    solved : (c : ℕ → Bool) × ((j : ℕ) → j < width → equation width coefficient_at c j ≡ bit v j)
    solved = solution width coefficient_at triangular (bit v)

    chosen : List Bool
    chosen = map solved.0 (range_with_len 0 width)

    length-chosen : length chosen ≡ length (admissible_of n)
    unfolding chosen
    length-chosen = length-map-range_with_len solved.0 0 width ∙ sym (length-admissible_of n)

    bit-chosen : (i : ℕ) → i < width → bit chosen i ≡ solved.0 i
    unfolding chosen
    bit-chosen i l = get_or-map-range_with_len solved.0 0 width i i false l (omega arith)

    chosen-sum : combination width chosen values ≡ v
    chosen-sum =
        let wide : length (combination width chosen values) ≡ width = length-combination width chosen values HaveWidth-values in
        ext_get_or false (combination width chosen values) v (wide ∙ sym fits) (λ j l.
        let k : j < width = omega arith in
        sum_at chosen j length-chosen k
        ∙ is_odd_below-same (λ i. bit chosen i && coefficient_at i j) (λ i. solved.0 i && coefficient_at i j) width (λ i m. ap (λ b. b && coefficient_at i j) (bit-chosen i m))
        ∙ solved.1 j k)

    alone : (d : List Bool) → IsAdmissibleSum n d v → d ≡ chosen
    alone d s =
        ext_get_or false d chosen (s.one_each ∙ sym length-chosen) (λ i l.
        let k : i < width = omega (arith, s.one_each, length-admissible_of n) in
        one_solution width coefficient_at triangular (bit d) (bit chosen) (λ j m.
        sym (sum_at d j s.one_each m) ∙ ap (λ x. bit x j) (s.sum_is ∙ sym chosen-sum) ∙ sum_at chosen j length-chosen m) i k)

pub values_lead : ValuesLead
values_lead n i l = (bit_at n i i l l ∙ own n i l, λ j m k. bit_at n i j l k ∙ later n i j m k)

pub admissibles_are_basis : AdmissiblesAreBasis
admissibles_are_basis n v fits =
    (chosen n v fits, record { one_each = length-chosen n v fits; sum_is = chosen-sum n v fits }, alone n v fits)
