-- The module that a file of plain actions describes.
use Rattle.std.proofs.Common.{◌≡◌, ◌⊎◌, ℕ, suc, ◌+◌, ◌<◌, ◌≤◌, pos, ◌+ℤ◌, Bool, true, List, [], ◌∷◌, ◌++◌, length, map, take, drop, get_or, All, slice_get, Option, Some, None, option_map, refl, ap, sym, subst, ◌∙◌, inl, inr, arith, length-append}
use Rattle.std.specs.List.{range_with_len}
use Rattle.std.proofs.Math.Path.{fun_ext}
use Rattle.std.proofs.Math.Seq.{get_or-append_seam}
use Rattle.std.proofs.lemmas.Bool.{cases_lt, cases_eq}
use Rattle.std.proofs.lemmas.Int.{ints}
use Rattle.std.proofs.lemmas.List.{length_push, append-nil, append_assoc, take-append-drop}
use Rattle.std.proofs.lemmas.List.Elements.{All-weaker, filter_passes}
use Rattle.std.proofs.lemmas.List.FromFn.{length-map-range_with_len}
use Rattle.std.proofs.lemmas.Option.{slice_get-map, slice_get-get_or, slice_get_past, none-some}
use Rattle.f2_vec.specs.Vectors.{zeros}
use Rattle.milnor_basis.specs.Exponents.{degree_of, IsTrimmed}
use Rattle.milnor_basis.specs.Basis.{basis_of}
use Rattle.milnor_basis.specs.Product.{coefficient, product_terms}
use Rattle.module_spec.specs.Spec.{Generator, Entry, File, degree_at}
use Rattle.finite_module.specs.Module.{width, value, place_of, or_zeros}
use Rattle.finite_module.specs.DerivedAction.{derived_operator, derived_from, elements, span, derived_module}
use Rattle.finite_module.specs.Axioms.{IsModule, one_by_one, by_their_product}
use Rattle.finite_module.specs.Inside.Plain.{plain_value}
use Rattle.finite_module.proofs.Elements.{element_at_place, elements_more, slice_get-append_right}
use Rattle.finite_module.proofs.Values.{width_of, value_none, value_before, value_at_none, value_at_some, by_place, slice_get-range}
use Rattle.finite_module.proofs.Derived.{All-elements, derived_widths, derived_identity}
use Rattle.finite_module.proofs.Derivation.{derived_to}
use Rattle.finite_module.proofs.Widths.{terms_of_degree}
use Rattle.finite_module.proofs.Plain.{ArePlain, IsPart, All-both, All-map_where, total-none, no_more, value_term, derived_plain}

abbrev pub plain_operator : List Generator → List Entry → List ℕ → List (List Bool)
plain_operator gs entries r = map (plain_value gs entries r) (range_with_len 0 (length gs))

-- ---- the operators one behind the other

part_nil : (gs : List Generator) (entries : List Entry) → IsPart gs entries []
part_nil gs entries r i = inl (value_none gs [] r i (λ p e. omega arith))

part_more : (gs : List Generator) (entries : List Entry) (operators : List (List (List Bool))) (n : ℕ) (r : List ℕ) → slice_get (elements n) (length operators) ≡ Some r → IsPart gs entries operators → IsPart gs entries (operators ++ plain_operator gs entries r ∷ [])
part_more gs entries operators n r next part s i = by (place_of s) refl
  where
    all : List (List (List Bool))
    all = operators ++ plain_operator gs entries r ∷ []

    Is : Type 0
    Is = (value gs all s i ≡ zeros (width_of gs s i)) ⊎ (value gs all s i ≡ plain_value gs entries s i)

    last_value : place_of s ≡ Some (length operators) → value gs all s i ≡ or_zeros (width_of gs s i) (slice_get (plain_operator gs entries r) i)
    last_value here =
        by_place gs all s i (length operators) here
        ∙ ap (or_zeros (width_of gs s i)) (value_at_some all (plain_operator gs entries r) i (length operators) (slice_get-append_right operators (plain_operator gs entries r ∷ []) (length operators) 0 (omega arith)))

    at_last : s ≡ r → place_of s ≡ Some (length operators) → Is
    at_last same here = elim (cases_lt i (length gs)) [
      | inl l ↦ inr (last_value here ∙ ap (or_zeros (width_of gs s i)) (slice_get-map (plain_value gs entries r) (range_with_len 0 (length gs)) i ∙ ap (option_map (plain_value gs entries r)) (slice_get-range (length gs) i l)) ∙ ap (λ t. plain_value gs entries t i) (sym same))
      | inr l ↦ inl (last_value here ∙ ap (or_zeros (width_of gs s i)) (slice_get_past (plain_operator gs entries r) i (omega (arith, length-map-range_with_len (plain_value gs entries r) 0 (length gs)))))
    ]

    placed : (p : ℕ) → place_of s ≡ Some p → Is
    placed p e = elim (cases_lt p (length operators)) [
      | inl a ↦ subst (λ v. (v ≡ zeros (width_of gs s i)) ⊎ (v ≡ plain_value gs entries s i)) (sym (value_before gs operators (plain_operator gs entries r) s i p e a)) (part s i)
      | inr b ↦ elim (cases_eq p (length operators)) [
        | inl same ↦ let here : place_of s ≡ Some (length operators) = e ∙ ap Some same in at_last (sym (element_at_place n s r (length operators) here next)) here
        | inr differ ↦
            let past : length all ≤ p = omega (arith, length_push operators (plain_operator gs entries r)) in
            inl (by_place gs all s i p e ∙ ap (or_zeros (width_of gs s i)) (value_at_none all i p past))
      ]
    ]

    by : (o : Option ℕ) → place_of s ≡ o → Is
    by None e = inl (value_none gs all s i (λ p h. absurd (none-some p (sym e ∙ h))))
    by (Some p) e = placed p e

module _ (f : File) (is_end : ℕ → Bool) (plain : ArePlain is_end f.entries) where
  operator_plain : (operators : List (List (List Bool))) (r : List ℕ) → IsPart f.generators f.entries operators → IsTrimmed r → derived_operator f operators r ≡ plain_operator f.generators f.entries r
  operator_plain operators r part tight =
      ap (λ g. map g (range_with_len 0 (length f.generators))) (fun_ext (λ i. derived_plain f is_end plain operators part r i tight))

  part_derived : (n : ℕ) (done rs rest : List (List ℕ)) (operators : List (List (List Bool))) → elements n ≡ done ++ (rs ++ rest) → length done ≡ length operators → IsPart f.generators f.entries operators → IsPart f.generators f.entries (derived_from f operators rs)
  part_derived n done [] rest operators e l part = part
  part_derived n done (r ∷ rs) rest operators e l part =
      let here : get_or (elements n) (length operators) [] ≡ r = ap (λ xs. get_or xs (length operators) []) e ∙ subst (λ k. get_or (done ++ r ∷ (rs ++ rest)) k [] ≡ r) l (get_or-append_seam done r (rs ++ rest) []) in
      let within : length operators < length (elements n) = omega (arith, ap length e, length-append done (r ∷ (rs ++ rest))) in
      let next : slice_get (elements n) (length operators) ≡ Some r = slice_get-get_or (elements n) (length operators) [] within ∙ ap Some here in
      let tight : IsTrimmed r = subst IsTrimmed here (All-elements n (length operators) [] within) in
      let is : derived_operator f operators r ≡ plain_operator f.generators f.entries r = operator_plain operators r part tight in
      let more : IsPart f.generators f.entries (operators ++ derived_operator f operators r ∷ []) = subst (λ o. IsPart f.generators f.entries (operators ++ o ∷ [])) (sym is) (part_more f.generators f.entries operators n r next part) in
      part_derived n (done ++ r ∷ []) rs rest (operators ++ derived_operator f operators r ∷ []) (e ∙ sym (append_assoc done (r ∷ []) (rs ++ rest))) (omega (arith, length_push done r, length_push operators (derived_operator f operators r))) more

  -- the next operator is as here
  pub next_plain : (n k : ℕ) (r : List ℕ) (operators : List (List (List Bool))) → operators ≡ derived_to f n k → IsTrimmed r → plain_operator f.generators f.entries r ≡ derived_operator f operators r
  next_plain n k r operators e tight =
      let first : List (List ℕ) = elements n ++ take k (basis_of n) in
      let split : elements (suc n) ≡ first ++ drop k (basis_of n) = elements_more n ∙ ap (λ xs. elements n ++ xs) (sym (take-append-drop k (basis_of n))) ∙ sym (append_assoc (elements n) (take k (basis_of n)) (drop k (basis_of n))) in
      let part : IsPart f.generators f.entries (derived_to f n k) = part_derived (suc n) [] first (drop k (basis_of n)) [] split refl (part_nil f.generators f.entries) in
      sym (operator_plain operators r (subst (IsPart f.generators f.entries) (sym e) part) tight)

  pub plain_is_module : IsModule (derived_module f)
  plain_is_module =
      record {
        identity = λ i l. derived_identity f i l;
        widths = λ r i. derived_widths f r i;
        relations = λ r s i tr ts pr ps l. none_first r s i pr ps ∙ sym (none_together r s i pr ps);
      }
    where
      gs : List Generator
      gs = f.generators

      operators : List (List (List Bool))
      operators = (derived_module f).operators

      part : IsPart f.generators f.entries (derived_from f [] (elements (span f.generators + 1)))
      part = part_derived (span f.generators + 1) [] (elements (span f.generators + 1)) [] [] (sym (append-nil (elements (span f.generators + 1)))) refl (part_nil f.generators f.entries)

      none_first : (r s : List ℕ) (i : ℕ) → 0 < degree_of r → 0 < degree_of s → one_by_one (derived_module f) r s i ≡ zeros (width f.generators (degree_at f.generators i +ℤ pos (degree_of r + degree_of s)))
      none_first r s i pr ps =
          let up : (degree_at f.generators i +ℤ pos (degree_of s)) +ℤ pos (degree_of r) ≡ degree_at f.generators i +ℤ pos (degree_of r + degree_of s) = omega (arith, ints) in
          no_more f.generators f.entries is_end plain (derived_module f).operators part r s (degree_at f.generators i +ℤ pos (degree_of s)) i pr ps refl ∙ ap (λ d. zeros (width f.generators d)) up

      none_together : (r s : List ℕ) (i : ℕ) → 0 < degree_of r → 0 < degree_of s → by_their_product (derived_module f) r s i ≡ zeros (width f.generators (degree_at f.generators i +ℤ pos (degree_of r + degree_of s)))
      none_together r s i pr ps =
          let w : ℕ = width f.generators (degree_at f.generators i +ℤ pos (degree_of r + degree_of s)) in
          let IsOne : List ℕ → Type 0 = λ t. (coefficient r s t ≡ true) × (degree_of t ≡ degree_of r + degree_of s) in
          let terms : All IsOne (product_terms r s) =
          All-both (λ t. coefficient r s t ≡ true) (λ t. degree_of t ≡ degree_of r + degree_of s) (product_terms r s) (filter_passes (coefficient r s) (basis_of (degree_of r + degree_of s)))
          (All-weaker (λ t. IsTrimmed t × (degree_of t ≡ degree_of r + degree_of s)) (λ t. degree_of t ≡ degree_of r + degree_of s) (λ t h. h.1) (product_terms r s) (terms_of_degree r s)) in
          total-none w (map (λ t. value f.generators (derived_module f).operators t i) (product_terms r s))
          (All-map_where IsOne (λ x. x ≡ zeros w) (λ t. value f.generators (derived_module f).operators t i) (product_terms r s) terms
          (λ t h. value_term f.generators f.entries is_end plain (derived_module f).operators part r s t i pr ps h.1 h.0 ∙ ap (λ k. zeros (width f.generators (degree_at f.generators i +ℤ pos k))) h.1))
