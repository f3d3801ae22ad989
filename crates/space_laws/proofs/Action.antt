-- The action on the cells, as operators, is that of a module.
use Rattle.std.specs.List.{range_with_len}
use Rattle.std.proofs.Common.{◌≡◌, ℕ, ◌+◌, ◌<◌, ℤ, pos, ◌+ℤ◌, Bool, true, false, ◌&&◌, Option, Some, None, option_map, slice_get, get_or, List, [], ◌∷◌, length, map, take, refl, sym, subst, ◌∙◌, ap, inl, inr, arith, zero-add}
use Rattle.std.proofs.lemmas.Bool.{cases_lt}
use Rattle.std.proofs.lemmas.Int.{ints}
use Rattle.std.proofs.lemmas.List.{length-map}
use Rattle.std.proofs.lemmas.List.Elements.{All-get_or}
use Rattle.std.proofs.lemmas.List.FromFn.{length-range_with_len, get_or-range_with_len, length-map-range_with_len}
use Rattle.std.proofs.lemmas.Option.{slice_get-map, slice_get-get_or, slice_get_past, slice_get_within, get_or_from_slice_get}
use Rattle.f2_vec.specs.Vectors.{sum_of, zeros}
use Rattle.f2_vec.specs.Spans.{unit_vector, combination}
use Rattle.f2_vec.proofs.Sums.{length-zeros}
use Rattle.f2_vec.proofs.Combinations.{map_same_all}
use Rattle.milnor_basis.specs.Exponents.{degree_of, IsTrimmed}
use Rattle.milnor_basis.specs.Basis.{basis_of}
use Rattle.milnor_basis.specs.Product.{product_terms, odd_by}
use Rattle.milnor_basis.proofs.BasisLemmas.{All-basis_of}
use Rattle.milnor_basis.proofs.Parity.{is_odd-count_by}
use Rattle.projective_laws.specs.Powers.{power_coefficient}
use Rattle.projective_laws.proofs.Multinomials.{powers_act}
use Rattle.module_spec.specs.Spec.{Generator, degree_at}
use Rattle.module_json.specs.ModuleFile.{cells}
use Rattle.module_json.proofs.Cells.{length-cells, degree-cells}
use Rattle.finite_module.specs.Module.{Module, generators_in, width, unit, or_zeros, value, act_on, total, place_of, elements_below}
use Rattle.finite_module.specs.ModuleLaws.{numbers_from-member}
use Rattle.finite_module.specs.Operators.{HaveWidths}
use Rattle.finite_module.specs.Axioms.{IsModule, one_by_one, by_their_product}
use Rattle.finite_module.specs.DerivedAction.{elements}
use Rattle.finite_module.proofs.Elements.{elements_at, length-elements, place_is, place_past}
use Rattle.finite_module.proofs.Values.{both_empty, by_place, value_at_some, value_none, width_of}
use Rattle.finite_module.proofs.Widths.{terms_of_degree}
use Rattle.generator_laws.proofs.OnGenerators.{length-one_by_one, length-by_their_product}
use Rattle.generator_laws.proofs.Order.{number, placed_at}
use Rattle.space_laws.proofs.Places.{one_cell, no_cell}

module _ (min : ℤ) (count base : ℕ) where
  abbrev pub gs : List Generator
  gs = cells min count

  -- the coefficient of Sq(R) on the class of cell i
  abbrev pub coefficient_on : List ℕ → ℕ → Bool
  coefficient_on r i = power_coefficient (base + i) r

  abbrev wanted : List ℕ → ℕ → List Bool
  wanted r i = map (λ j. coefficient_on r i) (generators_in gs (degree_at gs i +ℤ pos (degree_of r)))

  abbrev pub operators : List (List (List Bool))
  operators = map (λ r. map (wanted r) (range_with_len 0 count)) (elements count)

  up : (i n : ℕ) → i < count → degree_at gs i +ℤ pos n ≡ min +ℤ pos (i + n)
  up i n l = let d = degree-cells min count i l in omega (arith, ints)

  value_is : (r : List ℕ) (i : ℕ) → IsTrimmed r → degree_of r < count → i < count → value gs operators r i ≡ wanted r i
  value_is r i h l k =
      let p = number r h in
      let f : List ℕ → List (List Bool) = λ s. map (wanted s) (range_with_len 0 count) in
      let there : slice_get operators p ≡ Some (f r) = slice_get-map f (elements count) p ∙ ap (option_map f) (elements_at count r p (place_is r p (placed_at r h)) l) in
      let inside : i < length (range_with_len 0 count) = omega (arith, length-range_with_len 0 count) in
      let at : slice_get (f r) i ≡ Some (wanted r i) = slice_get-map (wanted r) (range_with_len 0 count) i ∙ ap (option_map (wanted r)) (slice_get-get_or (range_with_len 0 count) i 0 inside ∙ ap Some (get_or-range_with_len 0 count i 0 k ∙ zero-add i)) in
      by_place gs operators r i p (placed_at r h) ∙ ap (or_zeros (width_of gs r i)) (value_at_some operators (f r) i p there ∙ at)

  -- on one cell
  pub value_one : (r : List ℕ) (i : ℕ) → IsTrimmed r → i + degree_of r < count → value gs operators r i ≡ coefficient_on r i ∷ []
  value_one r i h l =
      value_is r i h (omega arith) (omega arith)
      ∙ ap (λ t. map (λ j. coefficient_on r i) (generators_in gs t)) (up i (degree_of r) (omega arith))
      ∙ ap (map (λ j. coefficient_on r i)) (one_cell min count (i + degree_of r) l)

  widths : HaveWidths gs operators
  widths r i = by (place_of r) refl
    where
      zero_there : value gs operators r i ≡ zeros (width_of gs r i) → length (value gs operators r i) ≡ width_of gs r i
      zero_there e = ap length e ∙ length-zeros (width_of gs r i)

      long : length operators ≡ elements_below count
      long = length-map (elements count) (λ s. map (wanted s) (range_with_len 0 count)) ∙ length-elements count

      by : (o : Option ℕ) → place_of r ≡ o → length (value gs operators r i) ≡ width_of gs r i
      by None e = zero_there (value_none gs operators r i (λ p f. cc))
      by (Some p) e = elim (cases_lt (degree_of r) count) [
        | inr past ↦ zero_there (value_none gs operators r i (λ q f. omega (arith, place_past count q r f past, long)))
        | inl low ↦
            let place = place_is r p e in
            let h : IsTrimmed r = subst IsTrimmed (get_or_from_slice_get (basis_of (degree_of r)) place.inner r [] place.there) (All-get_or (λ s. IsTrimmed s × (degree_of s ≡ degree_of r)) (basis_of (degree_of r)) place.inner [] (slice_get_within (basis_of (degree_of r)) place.inner r place.there) (All-basis_of (degree_of r))).0 in
            elim (cases_lt i count) [
              | inl k ↦ ap length (value_is r i h low k) ∙ length-map (generators_in gs (degree_at gs i +ℤ pos (degree_of r))) (λ j. coefficient_on r i)
              | inr k ↦
                  let f : List ℕ → List (List Bool) = λ s. map (wanted s) (range_with_len 0 count) in
                  let q = number r h in
                  let there : slice_get operators q ≡ Some (f r) = slice_get-map f (elements count) q ∙ ap (option_map f) (elements_at count r q (place_is r q (placed_at r h)) low) in
                  zero_there (by_place gs operators r i q (placed_at r h) ∙ ap (or_zeros (width_of gs r i)) (value_at_some operators (f r) i q there ∙ slice_get_past (f r) i (omega (arith, length-map-range_with_len (wanted r) 0 count))))
            ]
      ]

  identity : (i : ℕ) → i < count → value gs operators [] i ≡ unit gs i
  identity i l =
      let t = degree_at gs i in
      let alone : generators_in gs t ≡ i ∷ [] = ap (generators_in gs) (degree-cells min count i l) ∙ one_cell min count i l in
      let one : width gs t ≡ 1 = ap length alone in
      let m = numbers_from-member 0 gs t 0 (omega arith) in
      let own : m.place ≡ i = (let e : get_or (generators_in gs t) 0 0 ≡ i = ap (λ ns. get_or ns 0 0) alone in omega (arith, m.number)) in
      value_one [] i refl (omega arith)
      ∙ sym (ap (λ k. unit_vector (width gs t) (width (take k gs) t)) (sym own) ∙ ap (unit_vector (width gs t)) m.before ∙ ap (λ n. unit_vector n 0) one)

  -- a sum of vectors of length 1
  total_one : (c : List ℕ → Bool) (ts : List (List ℕ)) → total 1 (map (λ t. c t ∷ []) ts) ≡ odd_by c ts ∷ []
  total_one c [] = refl
  total_one c (t ∷ ts) = ap (sum_of (c t ∷ [])) (total_one c ts)

  one_row : (c d : Bool) → combination 1 (c ∷ []) ((d ∷ []) ∷ []) ≡ (c && d) ∷ []
  one_row true true = refl
  one_row true false = refl
  one_row false d = refl

  relations : (r s : List ℕ) (i : ℕ) → IsTrimmed r → IsTrimmed s → 0 < degree_of r → 0 < degree_of s → i < length gs → one_by_one (record { generators = gs; operators = operators }) r s i ≡ by_their_product (record { generators = gs; operators = operators }) r s i
  relations r s i hr hs pr ps inside =
      let m : Module = record { generators = gs; operators = operators } in
      let n = degree_of r + degree_of s in
      let k : i < count = omega (arith, length-cells min count) in
      elim (cases_lt (i + n) count) [
        | inr past ↦
            let none : width gs (degree_at gs i +ℤ pos n) ≡ 0 = ap (width gs) (up i n k) ∙ ap length (no_cell min count (i + n) past) in
            both_empty (one_by_one m r s i) (by_their_product m r s i) (length-one_by_one m r s i n widths refl ∙ none) (length-by_their_product m r s i n widths refl ∙ none)
        | inl low ↦
            let j = i + degree_of s in
            let t = degree_at gs i +ℤ pos (degree_of s) in
            let tj : t ≡ min +ℤ pos j = up i (degree_of s) k in
            let one : generators_in gs t ≡ j ∷ [] = ap (generators_in gs) tj ∙ one_cell min count j (omega arith) in
            let top : t +ℤ pos (degree_of r) ≡ min +ℤ pos (i + n) = omega (arith, ints) in
            let w1 : width gs (t +ℤ pos (degree_of r)) ≡ 1 = ap (width gs) top ∙ ap length (one_cell min count (i + n) low) in
            let w2 : width gs (degree_at gs i +ℤ pos n) ≡ 1 = ap (width gs) (up i n k) ∙ ap length (one_cell min count (i + n) low) in
            let vs : value gs operators s i ≡ coefficient_on s i ∷ [] = value_one s i hs (omega arith) in
            let vr : value gs operators r j ≡ coefficient_on r j ∷ [] = value_one r j hr (omega arith) in
            let bj : base + j ≡ base + i + degree_of s = omega arith in
            let law : (coefficient_on s i && coefficient_on r j) ≡ odd_by (λ x. coefficient_on x i) (product_terms r s) =
            ap (λ x. coefficient_on s i && power_coefficient x r) bj ∙ powers_act (base + i) r s hr hs ∙ is_odd-count_by (power_coefficient (base + i)) (product_terms r s) in
            ap (act_on gs operators r t) vs
            ∙ ap (λ ns. combination (width gs (t +ℤ pos (degree_of r))) (coefficient_on s i ∷ []) (map (value gs operators r) ns)) one
            ∙ ap (λ v. combination (width gs (t +ℤ pos (degree_of r))) (coefficient_on s i ∷ []) (v ∷ [])) vr
            ∙ ap (λ w. combination w (coefficient_on s i ∷ []) ((coefficient_on r j ∷ []) ∷ [])) w1
            ∙ one_row (coefficient_on s i) (coefficient_on r j)
            ∙ ap (λ b. b ∷ []) law
            ∙ sym (total_one (λ x. coefficient_on x i) (product_terms r s))
            ∙ ap (λ w. total w (map (λ x. coefficient_on x i ∷ []) (product_terms r s))) (sym w2)
            ∙ ap (total (width gs (degree_at gs i +ℤ pos n))) (map_same_all (λ x. IsTrimmed x × (degree_of x ≡ n)) (λ x. coefficient_on x i ∷ []) (λ x. value gs operators x i) (product_terms r s) (terms_of_degree r s) (λ x own. let d = own.1 in sym (value_one x i own.0 (omega arith))))
      ]

  pub cells_are_module : IsModule (record { generators = gs; operators = operators })
  cells_are_module = record {
    identity = λ i l. identity i (omega (arith, length-cells min count));
    widths = λ r i. widths r i;
    relations = relations;
  }
