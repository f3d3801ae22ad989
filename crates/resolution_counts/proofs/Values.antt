-- A cochain of a free module is given by its values on the generators of its degree, which may be any.
use Rattle.std.proofs.Common.{◌≡◌, inl, inr, ℕ, ◌<◌, ℤ, pos, ◌+ℤ◌, Bool, true, false, if◌then◌else◌, List, [], ◌∷◌, length, map, refl, sym, ◌∙◌, ap, subst, arith}
use Rattle.std.specs.List.{range_with_len}
use Rattle.std.specs.Ordering.{int_eq}
use Rattle.std.proofs.lemmas.Bool.{cases_Bool}
use Rattle.std.proofs.lemmas.Bool.Decides.{Decides-int_eq}
use Rattle.std.proofs.lemmas.Int.{ints}
use Rattle.std.proofs.lemmas.List.{get_or-map, length-map}
use Rattle.std.proofs.lemmas.List.FromFn.{length-map-range_with_len, get_or-map-range_with_len}
use Rattle.f2_vec.specs.Spans.{row, combination, unit_vector, unit_vectors}
use Rattle.f2_vec.proofs.Combinations.{map_same, combination-unit_vector}
use Rattle.f2_vec.proofs.Split.{HaveWidth-unit_vectors, combination-unit_vectors, length-unit_vectors, row-unit_vectors}
use Rattle.milnor_basis.specs.Exponents.{degree_of}
use Rattle.free_module.specs.FreeBasis.{element}
use Rattle.free_module.specs.FreeModule.{degree_at, free_basis, free_width, acted}
use Rattle.free_module.specs.Graded.{free_graded}
use Rattle.free_module.specs.LinearMap.{AreImages, image_of, map_rows, mapped}
use Rattle.free_module.proofs.MapRows.{HaveWidth-map_rows}
use Rattle.resolution_laws.proofs.Generators.{element-IsOfDegree}
use Rattle.resolution_counts.specs.Cochains.{IsModuleMap, field_width, field_in, generator_vector, CochainsAreGivenByValues}
use Rattle.resolution_counts.proofs.Bare.{IsPlaceOf, place_of_generator, acted_on_generator}
use Rattle.resolution_counts.proofs.Cochains.{element_vanishes, elsewhere}
use Rattle.resolution_counts.proofs.Maps.{field_is_module, mapped_is_map}

module _ (ds : List ℤ) (t : ℤ) where
  -- ---- cochains with the same values

  module _ (f e : ℤ → List Bool → List Bool) (p : IsModuleMap (free_graded ds) (field_in t) f) (q : IsModuleMap (free_graded ds) (field_in t) e) (same : (g : ℕ) → g < length ds → degree_at ds g ≡ t → f t (generator_vector ds g) ≡ e t (generator_vector ds g)) where
    -- on a basis element, which is Sq(R) on generator g
    element_same : (j : ℕ) → j < free_width ds t → (g : ℕ) (r : List ℕ) → element (free_basis ds t) j ≡ (g, r) → f t (unit_vector (free_width ds t) j) ≡ e t (unit_vector (free_width ds t) j)
    element_same j l g [] is =
        let o = element-IsOfDegree ds t j l in
        let there : g < length ds = subst (λ (x : ℕ × List ℕ). x.0 < length ds) is o.generator in
        let sum : degree_at ds g +ℤ pos (degree_of []) ≡ t = subst (λ (x : ℕ × List ℕ). degree_at ds x.0 +ℤ pos (degree_of x.1) ≡ t) is o.degree in
        let degree : degree_at ds g ≡ t = omega (sum, arith, ints) in
        let vector : generator_vector ds g ≡ unit_vector (free_width ds t) j = ap (λ (z : ℤ). acted ds [] z (g, [])) degree ∙ acted_on_generator ds t g j [] l is in
        ap (f t) (sym vector) ∙ (same g there degree ∙ ap (e t) vector)
    element_same j l g (x ∷ r) is =
        let some : (element (free_basis ds t) j).1 ≡ [] → ⊥ = λ nil. let no : x ∷ r ≡ [] = ap (λ (z : ℕ × List ℕ). z.1) (sym is) ∙ nil in absurd (omega (arith, ap length no)) in
        element_vanishes ds t f p j l some ∙ sym (element_vanishes ds t e q j l some)

    same_here : (v : List Bool) → length v ≡ free_width ds t → f t v ≡ e t v
    same_here v len =
        let n = free_width ds t in
        let N = field_width t t in
        let units = unit_vectors n in
        let rows : map (f t) units ≡ map (e t) units = map_same [] (f t) (e t) units (λ j l.
        let within : j < n = omega (arith, length-unit_vectors n) in
        ap (f t) (row-unit_vectors n j within) ∙ (element_same j within (element (free_basis ds t) j).0 (element (free_basis ds t) j).1 refl ∙ ap (e t) (sym (row-unit_vectors n j within)))) in
        let whole = combination-unit_vectors n v len in
        ap (f t) (sym whole) ∙ (p.linear t v units (HaveWidth-unit_vectors n) ∙ (ap (combination N v) rows ∙ (sym (q.linear t v units (HaveWidth-unit_vectors n)) ∙ ap (e t) whole)))

    pub same_values : (d : ℤ) (v : List Bool) → length v ≡ free_width ds d → f d v ≡ e d v
    same_values d v len =
        elim (cases_Bool (int_eq d t)) [
          | inl at_t ↦
              let P : ℤ → Type 0 = λ z. (v : List Bool) → length v ≡ free_width ds z → f z v ≡ e z v in
              subst P (sym ((Decides-int_eq d t).0 at_t)) same_here v len
          | inr off ↦ elsewhere t d (f d v) off (p.fits d v len) ∙ sym (elsewhere t d (e d v) off (q.fits d v len))
        ]

  -- ---- the cochain with given values

  module _ (values : ℕ → Bool) where
    abbrev image : ℕ → List Bool
    image g = if int_eq (degree_at ds g) t then values g ∷ [] else []

    abbrev images : List (List Bool)
    images = map image (range_with_len 0 (length ds))

    image_at : (g : ℕ) → g < length ds → row images g ≡ image g
    image_at g l = get_or-map-range_with_len image 0 (length ds) g g [] l (omega arith)

    image_length : (g : ℕ) (b : Bool) → length (if b then values g ∷ [] else []) ≡ (if b then 1 else 0)
    image_length g true = refl
    image_length g false = refl

    images_fit : AreImages (field_in t) ds images
    images_fit = record { one_each = length-map-range_with_len image 0 (length ds); widths = λ g l. ap length (image_at g l) ∙ image_length g (int_eq (degree_at ds g) t) }

    abbrev given : ℤ → List Bool → List Bool
    given d v = mapped (field_in t) ds images d v

    pub given_is_map : IsModuleMap (free_graded ds) (field_in t) given
    given_is_map = mapped_is_map (field_in t) ds images (field_is_module t) images_fit

    -- on Sq() of a generator
    given_at : (g p : ℕ) → g < length ds → degree_at ds g ≡ t → IsPlaceOf ds g p → given (degree_at ds g) (generator_vector ds g) ≡ values g ∷ []
    given_at g p l degree at =
        let d = degree_at ds g in
        let n = free_width ds d in
        let rows = map_rows (field_in t) ds images d in
        let fit = images_fit in
        let vector : generator_vector ds g ≡ unit_vector n p = acted_on_generator ds d g p [] at.within at.is in
        let one : combination (field_width t d) (unit_vector n p) rows ≡ row rows p = combination-unit_vector (field_width t d) n p rows (HaveWidth-map_rows (field_in t) ds images d (field_is_module t).widths fit) (length-map (free_basis ds d) (image_of (field_in t) ds images)) at.within in
        let here : row rows p ≡ row images g = get_or-map (image_of (field_in t) ds images) (free_basis ds d) p (0, []) [] at.within ∙ (ap (image_of (field_in t) ds images) at.is ∙ (field_is_module t).unit d (row images g) (fit.widths g l)) in
        let value : image g ≡ values g ∷ [] = ap (λ b. if b then values g ∷ [] else []) ((Decides-int_eq d t).1 degree) in
        ap (given d) vector ∙ (one ∙ (here ∙ (image_at g l ∙ value)))

    pub given_value : (g : ℕ) → g < length ds → degree_at ds g ≡ t → given t (generator_vector ds g) ≡ values g ∷ []
    given_value g l degree =
        let at = place_of_generator ds g l in
        subst (λ (z : ℤ). given z (generator_vector ds g) ≡ values g ∷ []) degree (given_at g at.0 l degree at.1)

pub given_by_values : CochainsAreGivenByValues
given_by_values ds t = record {
  each = λ values. (mapped (field_in t) ds (map (λ g. if int_eq (degree_at ds g) t then values g ∷ [] else []) (range_with_len 0 (length ds))), given_is_map ds t values, given_value ds t values);
  one = λ f e p q same. same_values ds t f e p q same;
}
