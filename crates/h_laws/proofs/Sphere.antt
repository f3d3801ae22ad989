-- Rows 0 and 1 of the sphere: d_0 reads the coefficient of the one generator of row 0, and d_1 has Sq(2^v) where its argument has the
-- generator of degree 2^v.
use Rattle.std.specs.Cmp.Lexicographic.{bytes_decides, pointwise}
use Rattle.std.proofs.Common.{◌≡◌, inl, inr, ℕ, ◌+◌, ◌^◌, ◌<◌, ◌≤◌, ℤ, pos, ◌+ℤ◌, Bool, true, false, ◌&&◌, nat_eq, None, List, [], ◌∷◌, length, map, take, refl, ap, sym, subst, ◌∙◌, arith}
use Rattle.std.proofs.lemmas.Int.{ints}
use Rattle.std.proofs.lemmas.Bool.{and_right, cases_eq, cases_lt, eq-eqb, ne_eqb, true≢false}
use Rattle.std.proofs.lemmas.List.{get_or_default, length-take-le}
use Rattle.f2_vec.specs.Vectors.{bit}
use Rattle.f2_vec.proofs.Split.{length-unit_vectors, HaveWidth-unit_vectors}
use Rattle.f2_vec.proofs.Combinations.{map-map}
use Rattle.milnor_basis.specs.Exponents.{degree_of, IsTrimmed}
use Rattle.milnor_basis.proofs.ExponentLemmas.{of_degree_zero}
use Rattle.free_module.specs.FreeModule.{free_basis, free_width, free_action}
use Rattle.free_module.specs.FreeBasis.{element, IsOfDegree}
use Rattle.free_module.specs.Graded.{free_graded}
use Rattle.free_module.specs.LinearMap.{image_of}
use Rattle.free_module.proofs.FreeBasis.{free_basis_is_pairs}
use Rattle.finite_module.proofs.Widths.{degree_of-single}
use Rattle.milnor_laws.proofs.FreeModules.{free_modules_are_modules}
use Rattle.resolution_laws.specs.Resolution.{row_of, square_in, images_of}
use Rattle.resolution_laws.specs.Exactness.{differential}
use Rattle.resolution_laws.proofs.Complex.{HaveWidth-differential}
use Rattle.resolution_laws.proofs.Generators.{generator_at, element-IsOfDegree}
use Rattle.resolution_laws.proofs.Shapes.{step_shape}
use Rattle.resolution_laws.proofs.Squares.{AreImages-all}
use Rattle.lift_laws.specs.Lifts.{Resolution, gens, degree, image, d, IsSphere}
use Rattle.lift_laws.specs.Products.{first_of, count_of, old_width}
use Rattle.lift_laws.proofs.Coefficients.{is_new, element-new}
use Rattle.lift_laws.proofs.Facts.{HasNoBare, image-HasNoBare}
use Rattle.lift_laws.proofs.Resolved.{IsResolved, table_of}
use Rattle.bracket_laws.specs.Brackets.{dot}
use Rattle.bracket_laws.proofs.Dots.{bit-combination_dot}
use Rattle.bracket_laws.proofs.Vectors.{in_square}
use Rattle.h_laws.specs.Products.{terms_with, image_terms}
use Rattle.h_laws.proofs.Parity.{dot-where, dot-nothing, dot-place}
use Rattle.h_laws.proofs.Squares.{power, power_trimmed, is_bare, bare_part, bare_part-none, bit-action}

pub same_parts : (e f : ℕ × List ℕ) → e.0 ≡ f.0 → e.1 ≡ f.1 → e ≡ f
same_parts e f a b = ap (λ (z : ℕ). let w : ℕ × List ℕ = (z, e.1) in w) a ∙ ap (λ (z : List ℕ). let w : ℕ × List ℕ = (f.0, z) in w) b

module _ (q : Resolution) (qs qt : ℕ) (o : IsResolved q qs qt) (sphere : IsSphere q) where
  abbrev pub lowest : ℤ
  lowest = q.base.bottom +ℤ pos 0

  width_lowest : q.base.graded.width lowest ≡ 1
  width_lowest =
      let b = sphere.bottom in
      let at : lowest ≡ pos 0 = omega (arith, ints) in
      ap q.base.graded.width at ∙ sphere.one

  -- row 0 has one generator, in degree 0: in no degree it has more than the sphere is wide
  pub only_first : (g : ℕ) → g < length (gens q 0) → g ≡ 0
  only_first g l =
      let squares = row_of q.table 0 in
      let all = o.canonical.squares 0 (omega arith) in
      let at = generator_at q.base.bottom squares g l in
      let k = at.k in
      let low = at.square in
      let within = at.within in
      let b = sphere.bottom in
      let before = take k squares in
      let len : length before ≡ k = length-take-le k squares (omega arith) in
      let n = q.base.graded.width (q.base.bottom +ℤ pos (length before)) in
      let units = length-unit_vectors n in
      let shape = step_shape q.base None before (square_in squares k) (record { widths = HaveWidth-unit_vectors n; few = omega arith }) (o.canonical.steps 0 k (omega arith) (omega arith)) in
      let most : count_of q 0 k ≤ q.base.graded.width (q.base.bottom +ℤ pos k) = subst (λ (j : ℕ). count_of q 0 k ≤ q.base.graded.width (q.base.bottom +ℤ pos j)) len shape.images_few in
      elim (cases_eq k 0) [
        | inl e ↦
            let one : count_of q 0 0 ≤ q.base.graded.width lowest = subst (λ (j : ℕ). count_of q 0 j ≤ q.base.graded.width (q.base.bottom +ℤ pos j)) e most in
            let w = width_lowest in
            let x = in_square q 0 0 (omega arith) g l (at.degree ∙ ap (λ (j : ℕ). q.base.bottom +ℤ pos j) e) in
            let below = x.1 in
            let same = x.2 in
            let start : first_of q 0 0 ≡ 0 = refl in
            omega arith
        | inr other ↦
            let none = sphere.none (q.base.bottom +ℤ pos k) (λ e. let z : k ≡ 0 = omega (arith, ints) in other z) in
            absurd (omega arith)
      ]

  -- so the basis there is that generator alone
  pub basis_lowest : (j : ℕ) → j < free_width (gens q 0) lowest → element (free_basis (gens q 0) lowest) j ≡ (0, [])
  basis_lowest j l =
      let e = element (free_basis (gens q 0) lowest) j in
      let is = element-IsOfDegree (gens q 0) lowest j l in
      let at = generator_at q.base.bottom (row_of q.table 0) e.0 is.generator in
      let above = is.degree in
      let here = at.degree in
      same_parts e (0, []) (only_first e.0 is.generator) (of_degree_zero e.1 is.trimmed (omega (arith, ints)))

  in_lowest : (j : ℕ) → j < free_width (gens q 0) lowest → IsOfDegree (gens q 0) lowest (0, [])
  in_lowest j l = subst (IsOfDegree (gens q 0) lowest) (basis_lowest j l) (element-IsOfDegree (gens q 0) lowest j l)

  abbrev value : ℕ × List ℕ → Bool
  value e = bit (image_of q.base.graded (gens q 0) (images_of (row_of q.table 0)) e) 0

  value_is : (j : ℕ) → j < free_width (gens q 0) lowest → value (element (free_basis (gens q 0) lowest) j) ≡ bit (image q 0 0) 0
  value_is j l =
      let fits = (AreImages-all q.base qs qt q.table o.canonical 0 (omega arith)).widths 0 (in_lowest j l).generator in
      ap value (basis_lowest j l) ∙ ap (λ (z : List Bool). bit z 0) (o.steenrod.unit (degree q 0 0) (image q 0 0) fits)

  bit-d_zero : (w : List Bool) → bit (d q 0 lowest w) 0 ≡ dot (map value (free_basis (gens q 0) lowest)) w
  bit-d_zero w =
      bit-combination_dot (q.base.graded.width lowest) w (differential q.base q.table 0 lowest) 0 (HaveWidth-differential q.base qs qt q.table (table_of q qs qt o) 0 lowest (omega arith))
      ∙ ap (λ (z : List Bool). dot z w) (map-map (λ x. bit x 0) (image_of q.base.graded (gens q 0) (images_of (row_of q.table 0))) (free_basis (gens q 0) lowest))

  -- d_0 is onto, so it does not take all of that to zero
  not_all_zero : ((j : ℕ) → j < free_width (gens q 0) lowest → value (element (free_basis (gens q 0) lowest) j) ≡ false) → ⊥
  not_all_zero none =
      let w = width_lowest in
      let x = o.minimal.exact 0 0 (omega arith) (omega arith) (true ∷ []) (sym w) in
      let c = x.coefficients in
      true≢false (sym (ap (λ (z : List Bool). bit z 0) x.sum) ∙ (bit-d_zero c ∙ (dot-where (0, []) value (λ e. false) (free_basis (gens q 0) lowest) c (λ i l. inr (none i l)) ∙ dot-nothing (free_basis (gens q 0) lowest) c)))

  image_one : bit (image q 0 0) 0 ≡ true
  image_one = by (bit (image q 0 0) 0) refl
    where
      by : (b : Bool) → bit (image q 0 0) 0 ≡ b → bit (image q 0 0) 0 ≡ true
      by true e = e
      by false e = absurd (not_all_zero (λ j l. value_is j l ∙ e))

  pub unit_there : IsOfDegree (gens q 0) lowest (0, [])
  unit_there = elim (cases_lt 0 (free_width (gens q 0) lowest)) [
    | inl l ↦ in_lowest 0 l
    | inr l ↦ absurd (not_all_zero (λ j k. absurd (omega arith)))
  ]

  -- d_0 reads the coefficient of the unit
  pub d_zero : (w : List Bool) → bit (d q 0 lowest w) 0 ≡ bare_part (gens q 0) 0 lowest w
  d_zero w =
      bit-d_zero w
      ∙ dot-where (0, []) value (is_bare (gens q 0) 0) (free_basis (gens q 0) lowest) w (λ i l. inr (value_is i l ∙ (image_one ∙ sym (ap (is_bare (gens q 0) 0) (basis_lowest i l)))))

  module _ (v : ℕ) where
    abbrev pub u : ℤ
    u = q.base.bottom +ℤ pos (2 ^ v)

    pub record IsSquarePlace (p : ℕ) : Type 0 where
      pub place : p < free_width (gens q 0) u
      pub square : element (free_basis (gens q 0) u) p ≡ (0, power v)

    -- Sq(2^v) on the unit
    pub square_place : (p : ℕ) × IsSquarePlace p
    square_place =
        let one = unit_there in
        let deg = one.degree in
        let size = degree_of-single (2 ^ v) in
        let c = ((free_basis_is_pairs (gens q 0) u).members (0, power v)).1 (record { generator = one.generator; trimmed = power_trimmed v; degree = omega (arith, ints) }) in
        (c.0, record { place = c.1; square = get_or_default (free_basis (gens q 0) u) c.0 (0, []) (0, power v) c.1 ∙ c.2 })

    module _ (p : ℕ) (at : IsSquarePlace p) where
      -- the coefficient there after an operation of positive degree
      pub bit-value : (r : List ℕ) (t : ℤ) (w : List Bool) → IsTrimmed r → 0 < degree_of r → t +ℤ pos (degree_of r) ≡ u → bit (free_action (gens q 0) r t w) p ≡ (pointwise nat_eq r (power v) && bare_part (gens q 0) 0 t w)
      bit-value r t w h positive e =
          bit-action (gens q 0) 0 v r t w p h positive (subst (λ (z : ℤ). p < free_width (gens q 0) z) (sym e) at.place) (subst (λ (z : ℤ). element (free_basis (gens q 0) z) p ≡ (0, power v)) (sym e) at.square)

      -- it is where Sq(2^v) is, on whatever generator
      is_square : (i : ℕ) → i < free_width (gens q 0) u → pointwise nat_eq (element (free_basis (gens q 0) u) i).1 (power v) ≡ nat_eq p i
      is_square i l = by (pointwise nat_eq e.1 (power v)) refl
        where
          e : ℕ × List ℕ
          e = element (free_basis (gens q 0) u) i

          by : (b : Bool) → pointwise nat_eq e.1 (power v) ≡ b → pointwise nat_eq e.1 (power v) ≡ nat_eq p i
          by true one =
              let is = element-IsOfDegree (gens q 0) u i l in
              let list : e.1 ≡ power v = (bytes_decides e.1 (power v)).0 one in
              let size : degree_of e.1 ≡ 2 ^ v = ap degree_of list ∙ degree_of-single (2 ^ v) in
              let deg = is.degree in
              let first : e.0 ≡ 0 = only_first e.0 is.generator in
              let same : p ≡ i = (free_basis_is_pairs (gens q 0) u).once p i at.place l (at.square ∙ sym (same_parts e (0, power v) first list)) in
              one ∙ sym (eq-eqb p i same)
          by false none = none ∙ sym (ne_eqb p i (λ same. true≢false (sym ((bytes_decides e.1 (power v)).1 (ap (λ (z : ℕ). (element (free_basis (gens q 0) u) z).1) (sym same) ∙ ap (λ (z : ℕ × List ℕ). z.1) at.square)) ∙ none)))

      module _ (rows : 1 ≤ qs) where
        abbrev pub value_one : ℕ × List ℕ → Bool
        value_one e = bit (image_of (free_graded (gens q 0)) (gens q 1) (images_of (row_of q.table 1)) e) p

        pub bit-d_one : (w : List Bool) → bit (d q 1 u w) p ≡ dot (map value_one (free_basis (gens q 1) u)) w
        bit-d_one w =
            bit-combination_dot (free_width (gens q 0) u) w (differential q.base q.table 1 u) p (HaveWidth-differential q.base qs qt q.table (table_of q qs qt o) 1 u rows)
            ∙ ap (λ (z : List Bool). dot z w) (map-map (λ x. bit x p) (image_of (free_graded (gens q 0)) (gens q 1) (images_of (row_of q.table 1))) (free_basis (gens q 1) u))

        -- an operation of positive degree on a generator is taken to a vector without Sq(2^v)
        value_positive : (j : ℕ) → j < free_width (gens q 1) u → 0 < degree_of (element (free_basis (gens q 1) u) j).1 → value_one (element (free_basis (gens q 1) u) j) ≡ false
        value_positive j l positive =
            let e = element (free_basis (gens q 1) u) j in
            let is = element-IsOfDegree (gens q 1) u j l in
            let none = bare_part-none (gens q 0) 0 (degree q 1 e.0) (image q 1 e.0) (image-HasNoBare q qs qt o 0 e.0 rows is.generator) in
            bit-value e.1 (degree q 1 e.0) (image q 1 e.0) is.trimmed positive is.degree ∙ (ap (λ (b : Bool). pointwise nat_eq e.1 (power v) && b) none ∙ and_right (pointwise nat_eq e.1 (power v)) false refl)

        -- so is a vector that has no generator without an operation
        pub d_bare : (w : List Bool) → HasNoBare (gens q 1) u w → bit (d q 1 u w) p ≡ false
        d_bare w none =
            bit-d_one w
            ∙ dot-where (0, []) value_one (λ e. false) (free_basis (gens q 1) u) w (λ j l. elim (cases_lt 0 (degree_of (element (free_basis (gens q 1) u) j).1)) [
              | inl positive ↦ inr (value_positive j l positive)
              | inr zero_degree ↦ inl (none j l (of_degree_zero (element (free_basis (gens q 1) u) j).1 (element-IsOfDegree (gens q 1) u j l).trimmed (omega arith)))
            ])
            ∙ dot-nothing (free_basis (gens q 1) u) w

      module _ (rows : 1 ≤ qs) (reach : 2 ^ v ≤ qt) (one : count_of q 1 (2 ^ v) ≡ 1) where
        abbrev pub first : ℕ
        first = first_of q 1 (2 ^ v)

        abbrev pub old : ℕ
        old = old_width q 1 (2 ^ v)

        there : 2 ^ v < length (row_of q.table 1)
        there = let all = o.canonical.squares 1 rows in omega arith

        -- the generator, and its place in the basis of its degree
        pub record IsLast : Type 0 where
          pub generator : first < length (gens q 1)
          pub degree_is : degree q 1 first ≡ u
          pub place : old < free_width (gens q 1) u
          pub element_is : element (free_basis (gens q 1) u) old ≡ (first, [])

        pub is_last : IsLast
        is_last =
            let new = is_new q 1 (2 ^ v) there 0 (omega arith) in
            let a : first + 0 ≡ first = omega arith in
            let b : old + 0 ≡ old = omega arith in
            let e : element (free_basis (gens q 1) u) (old + 0) ≡ (first + 0, []) = element-new q 1 (2 ^ v) there 0 (omega arith) in
            record {
              generator = subst (λ (g : ℕ). g < length (gens q 1)) a new.generator;
              degree_is = subst (λ (g : ℕ). degree q 1 g ≡ u) a new.degree_is;
              place = subst (λ (j : ℕ). j < free_width (gens q 1) u) b new.place;
              element_is = ap (λ (j : ℕ). element (free_basis (gens q 1) u) j) (sym b) ∙ (e ∙ ap (λ (g : ℕ). let w : ℕ × List ℕ = (g, []) in w) a);
            }

        image_width : length (image q 1 first) ≡ free_width (gens q 0) (degree q 1 first)
        image_width = (AreImages-all q.base qs qt q.table o.canonical 1 rows).widths first is_last.generator

        pub square_bit : image_terms q 0 (2 ^ v) (λ g. true ∷ []) first ≡ bit (image q 1 first) p
        square_bit =
            let w = image q 1 first in
            let P : ℤ → Type 0 = λ t. length w ≡ free_width (gens q 0) t → terms_with (gens q 0) (2 ^ v) (λ g. true ∷ []) t w ≡ bit w p in
            let here : P u = λ fits. dot-place (0, []) (λ e. true && pointwise nat_eq e.1 (power v)) (free_basis (gens q 0) u) w p fits at.place is_square in
            subst P (sym is_last.degree_is) here image_width

        -- of the basis of the degree that generator alone is taken to a vector with Sq(2^v)
        value_at : bit (image q 1 first) p ≡ true → (j : ℕ) → j < free_width (gens q 1) u → value_one rows (element (free_basis (gens q 1) u) j) ≡ nat_eq old j
        value_at square j l =
            let e = element (free_basis (gens q 1) u) j in
            let is = element-IsOfDegree (gens q 1) u j l in
            let deg = is.degree in
            let last = is_last in
            elim (cases_lt 0 (degree_of e.1)) [
              | inl positive ↦
                  let apart : ¬ (old ≡ j) = λ same.
                  let bare : e.1 ≡ [] = ap (λ (z : ℕ). (element (free_basis (gens q 1) u) z).1) (sym same) ∙ ap (λ (z : ℕ × List ℕ). z.1) last.element_is in
                  let empty : degree_of e.1 ≡ 0 = ap degree_of bare in
                  omega arith in
                  value_positive rows j l positive ∙ sym (ne_eqb old j apart)
              | inr zero_degree ↦
                  let bare = of_degree_zero e.1 is.trimmed (omega arith) in
                  let x = in_square q 1 (2 ^ v) there e.0 is.generator (omega (arith, ints)) in
                  let within = x.1 in
                  let number = x.2 in
                  let same : e ≡ (first, []) = same_parts e (first, []) (omega arith) bare in
                  let place : old ≡ j = (free_basis_is_pairs (gens q 1) u).once old j last.place l (last.element_is ∙ sym same) in
                  let unit = (free_modules_are_modules (gens q 0)).unit (degree q 1 first) (image q 1 first) image_width in
                  ap (value_one rows) same ∙ (ap (λ (z : List Bool). bit z p) unit ∙ (square ∙ sym (eq-eqb old j place)))
            ]

        -- d_1 has Sq(2^v) where its argument has that generator
        pub d_one : bit (image q 1 first) p ≡ true → (w : List Bool) → length w ≡ free_width (gens q 1) u → bit (d q 1 u w) p ≡ bit w old
        d_one square w fits = bit-d_one rows w ∙ dot-place (0, []) (value_one rows) (free_basis (gens q 1) u) w old fits is_last.place (value_at square)
