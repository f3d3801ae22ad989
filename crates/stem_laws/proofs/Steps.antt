-- Each square in stems is the step over the rows in stems.
use Rattle.std.proofs.Common.{◌≡◌, ◌↔◌, inl, inr, ℕ, zero, suc, ◌+◌, ◌<◌, ◌≤◌, Bool, false, ℤ, pos, ◌+ℤ◌, List, [], ◌++◌, length, map, take, drop, refl, sym, ◌∙◌, ap, subst, arith}
use Rattle.std.proofs.lemmas.Int.{ints}
use Rattle.std.proofs.lemmas.Bool.{cases_lt}
use Rattle.std.proofs.lemmas.List.{map-append, get_or-drop, get_or_append_left, length-append, length-drop, length-map, take_all}
use Rattle.f2_vec.specs.Vectors.{zeros}
use Rattle.f2_vec.specs.Spans.{row, HaveWidth, IsInSpan, IsInKernel}
use Rattle.f2_vec.proofs.Sums.{zeros_from_bits}
use Rattle.f2_vec.proofs.Spans.{HaveWidth-append, row-IsInSpan}
use Rattle.f2_vec.proofs.Split.{length-unit_vectors, combination-unit_vectors}
use Rattle.f2_matrix.specs.Choice.{IsChosen}
use Rattle.f2_matrix.specs.Echelon.{IsKernelBasis, KernelBasisIsUnique}
use Rattle.f2_matrix.specs.Reduction.{Rows}
use Rattle.free_module.specs.FreeModule.{free_basis, free_width}
use Rattle.free_module.specs.Graded.{IsSteenrodModule, FreeModulesAreModules}
use Rattle.free_module.specs.LinearMap.{image_of, map_rows, MapsCommute}
use Rattle.free_module.proofs.MapRows.{HaveWidth-map_rows}
use Rattle.resolution_laws.specs.Resolution.{Module, Content, square_in, degrees_from, images_of, row_of}
use Rattle.resolution_laws.specs.Exactness.{IsMinimalResolution, CanonicalTableIsMinimalResolution, degrees_in, target_of, differential}
use Rattle.resolution_laws.proofs.NewGenerators.{IsStepOver_from_choice}
use Rattle.resolution_laws.proofs.Generators.{map_rows-take}
use Rattle.resolution_laws.proofs.Squares.{IsResolved, old_rows, candidates_of, square_at, image_widths}
use Rattle.resolution_laws.proofs.Complex.{length-differential, HaveWidth-differential}
use Rattle.resolution_laws.proofs.TableIsUnique.{step_is_unique}
use Rattle.stem_laws.specs.Stems.{first_new, in_stems, target_in_stems, degrees_in_stems, images_in_stems, differential_in_stems, AreToCover, IsStepInStems, IsCanonicalResolution, SquaresInStemsAreSteps, RowsInStemsAreCovered, KernelsInStemsAreToCover}
use Rattle.stem_laws.proofs.Padded.{padded, row-padded, HaveWidth-unpadded, nothing_padded, padded-IsKernelBasis, unpadded-IsInSpan, unpadded-IsKernelBasis, unpadded-IsChosen, kernel_behind}
use Rattle.stem_laws.proofs.NotMet.{not_met}
use Rattle.stem_laws.proofs.InStems.{minimal_of, length-in_stems, same_degrees, square_kernel, square_fits, part_at, part_zero, images_fit, matrix_first}

same_choice : (n k : ℕ) (old rows candidates given chosen taken : List (List Bool)) → n ≡ k → old ≡ rows → candidates ≡ given → chosen ≡ taken → IsChosen n old candidates chosen → IsChosen k rows given taken
same_choice n k old rows candidates given chosen taken a b c d p =
    let P : List (List Bool) → Type 0 = λ x. IsChosen n old candidates x in
    let Q : List (List Bool) → Type 0 = λ x. IsChosen n old x taken in
    let R : List (List Bool) → Type 0 = λ x. IsChosen n x given taken in
    let S : ℕ → Type 0 = λ x. IsChosen x rows given taken in
    subst S a (subst R b (subst Q c (subst P d p)))

same_kernel : (n k : ℕ) (rows others kernel basis : List (List Bool)) → n ≡ k → rows ≡ others → kernel ≡ basis → IsKernelBasis n rows kernel → IsKernelBasis k others basis
same_kernel n k rows others kernel basis a b c p =
    let P : List (List Bool) → Type 0 = λ x. IsKernelBasis n rows x in
    let Q : List (List Bool) → Type 0 = λ x. IsKernelBasis n x basis in
    let R : ℕ → Type 0 = λ x. IsKernelBasis x others basis in
    subst R a (subst Q b (subst P c p))

module _ (m : Module) (s n : ℕ) (table : List (List Content)) (p : IsResolved m s (n + s) table) (r : IsMinimalResolution m s (n + s) table) where
  target_is_good : (i k : ℕ) → IsSteenrodModule (target_in_stems m n table i k)
  target_is_good zero k = p.steenrod
  target_is_good (suc i) k = p.free (degrees_in_stems m n table i (suc k))

  matrix_widths : (i q k : ℕ) → i ≤ s → q ≤ suc k → HaveWidth ((target_in_stems m n table i k).width (m.bottom +ℤ pos k)) (differential_in_stems m n table i q k)
  matrix_widths i q k h l = HaveWidth-map_rows (target_in_stems m n table i k) (degrees_in_stems m n table i q) (images_in_stems m n table i q) (m.bottom +ℤ pos k) (target_is_good i k).widths (images_fit m s n table r i q k h l)

  -- the kernel of a square is that of the row in stems, also on the edge
  kernel_in_stems : (i k : ℕ) → i ≤ s → k ≤ n + i → IsKernelBasis ((target_in_stems m n table i k).width (m.bottom +ℤ pos k)) (differential_in_stems m n table i (suc k) k) (square_in (row_of table i) k).kernel
  kernel_in_stems i k h l =
      let u = m.bottom +ℤ pos k in
      let here = part_at m s n table r i k h in
      let rows = differential_in_stems m n table i (suc k) k in
      let kernel = (square_in (row_of table i) k).kernel in
      let width = (target_in_stems m n table i k).width u in
      let whole : differential m table i u ≡ map (padded (here.w u)) rows = map_rows-take (target_of m table i) m.bottom (row_of table i) (suc k) u (omega (arith, ints)) ∙ matrix_first m s n table r i (suc k) k u h (omega arith) (omega arith) in
      unpadded-IsKernelBasis width (here.w u) rows kernel (matrix_widths i (suc k) k h (omega arith))
      (same_kernel ((target_of m table i).width u) (width + here.w u) (differential m table i u) (map (padded (here.w u)) rows) kernel kernel (here.part.width u) whole refl (square_at m s (n + s) table p i k h (omega arith)).kernel)

module _ (kernels : KernelBasisIsUnique) (m : Module) (s n : ℕ) (table : List (List Content)) (p : IsResolved m s (n + s) table) (r : IsMinimalResolution m s (n + s) table) where
  -- on the edge, the kernel below is that of the row in stems with zeros behind
  module _ (i k : ℕ) (h : suc i ≤ s) (edge : n + suc i ≡ k) (candidates : List (List Bool)) (cover : AreToCover m n table (suc i) k candidates) where
    below : i ≤ s
    below = omega arith

    within : k ≤ n + s
    within = omega arith

    abbrev new : List (List Bool)
    new = (square_in (row_of table i) k).images

    no_more : take (suc k) (in_stems m n table i) ≡ take k (in_stems m n table i)
    no_more =
        let len = length-in_stems m s n table r i below in
        take_all (suc k) (in_stems m n table i) (omega arith) ∙ sym (take_all k (in_stems m n table i) (omega arith))

    cover_old : IsKernelBasis ((target_of m table i).width (m.bottom +ℤ pos k)) (old_rows m table i k) candidates
    cover_old =
        let u = m.bottom +ℤ pos k in
        let here = part_at m s n table r i k below in
        let rows = differential_in_stems m n table i k k in
        let width = (target_in_stems m n table i k).width u in
        let fewer : IsKernelBasis width rows candidates = subst (λ (z : List Content). IsKernelBasis width (map_rows (target_in_stems m n table i k) (degrees_from m.bottom z) (images_of z) u) candidates) no_more cover in
        same_kernel (width + here.w u) ((target_of m table i).width u) (map (padded (here.w u)) rows) (old_rows m table i k) candidates candidates (sym (here.part.width u)) (sym (matrix_first m s n table r i k k u below (omega arith) (omega arith))) refl
        (padded-IsKernelBasis width (here.w u) rows candidates (matrix_widths m s n table p r i k k below (omega arith)) fewer)

    length-old : length (old_rows m table i k) ≡ first_new m table i k
    length-old =
        let before = take k (row_of table i) in
        length-map (free_basis (degrees_from m.bottom before) (m.bottom +ℤ pos k)) (image_of (target_of m table i) (degrees_from m.bottom before) (images_of before))

    none_new : (c : List Bool) → IsInKernel ((target_of m table i).width (m.bottom +ℤ pos k)) (old_rows m table i k ++ new) c → drop (length (old_rows m table i k)) c ≡ zeros (length new)
    none_new c relation =
        let u = m.bottom +ℤ pos k in
        let square = square_at m s (n + s) table p i k below within in
        let old = old_rows m table i k in
        let whole : IsInKernel ((target_of m table i).width u) (differential m table i u) c = subst (λ (z : List (List Bool)). IsInKernel ((target_of m table i).width u) z c) (sym square.rows) relation in
        let zero_from = (not_met m s (n + s) table r i k below within).kernel c whole in
        let left : length (drop (length old) c) ≡ length new = omega (arith, length-drop (length old) c, relation.one_each, length-append old new) in
        zeros_from_bits (length new) (drop (length old) c) left (λ j. get_or-drop (length old) c j false ∙ zero_from (length old + j) (omega (arith, length-old)))

    cover_edge : (square_in (row_of table i) k).kernel ≡ map (padded (length new)) candidates
    cover_edge =
        let u = m.bottom +ℤ pos k in
        let width = (target_of m table i).width u in
        let square = square_at m s (n + s) table p i k below within in
        let old = old_rows m table i k in
        let is : IsKernelBasis width (old ++ new) (square_in (row_of table i) k).kernel = subst (λ (z : List (List Bool)). IsKernelBasis width z (square_in (row_of table i) k).kernel) square.rows square.kernel in
        kernels width (old ++ new) (square_in (row_of table i) k).kernel (map (padded (length new)) candidates) is
        (kernel_behind width old new candidates square.old_widths (image_widths m s (n + s) table p i k below within) cover_old none_new)

    zeros_edge : (part_at m s n table r (suc i) k h).w (m.bottom +ℤ pos k) ≡ length new
    zeros_edge =
        let u = m.bottom +ℤ pos k in
        let here = part_at m s n table r (suc i) k h in
        let square = square_at m s (n + s) table p i k below within in
        let old = old_rows m table i k in
        let short : (target_in_stems m n table (suc i) k).width u ≡ first_new m table i k =
        ap (λ (z : List Content). free_width (degrees_from m.bottom z) u) no_more ∙ ap (λ (ds : List ℤ). free_width ds u) (same_degrees m s n table r i k below (omega arith)) in
        let all : free_width (degrees_in m table i) u ≡ length old + length new = sym (length-differential m table i u) ∙ (ap length square.rows ∙ length-append old new) in
        let whole : free_width (degrees_in m table i) u ≡ (target_in_stems m n table (suc i) k).width u + here.w u = here.part.width u in
        omega (arith, length-old)

  -- what a square has to cover in stems is what it has to cover in the table, but for zeros behind
  cover_at : (i k : ℕ) (h : i ≤ s) → k ≤ n + i → (candidates : List (List Bool)) → AreToCover m n table i k candidates → candidates_of m table i k ≡ map (padded ((part_at m s n table r i k h).w (m.bottom +ℤ pos k))) candidates
  cover_at zero k h l candidates cover =
      sym (ap (λ (x : ℕ). map (padded x) candidates) (part_zero m s n table r k (m.bottom +ℤ pos k) h) ∙ (nothing_padded candidates ∙ cover))
  cover_at (suc i) k h l candidates cover =
      elim (cases_lt k (n + suc i)) [
        | inl b ↦
            let same : candidates ≡ (square_in (row_of table i) k).kernel = kernels ((target_in_stems m n table i k).width (m.bottom +ℤ pos k)) (differential_in_stems m n table i (suc k) k) candidates (square_in (row_of table i) k).kernel cover (kernel_in_stems m s n table p r i k (omega arith) (omega arith)) in
            let none = (part_at m s n table r (suc i) k h).none k (omega arith) b in
            sym (ap (λ (x : ℕ). map (padded x) candidates) none ∙ (nothing_padded candidates ∙ same))
        | inr b ↦
            let edge : n + suc i ≡ k = omega arith in
            cover_edge i k h edge candidates cover ∙ ap (λ (x : ℕ). map (padded x) candidates) (sym (zeros_edge i k h edge candidates cover))
      ]

  module _ (i k : ℕ) (h : i ≤ s) (l : k ≤ n + i) (candidates : List (List Bool)) (cover : AreToCover m n table i k candidates) where
    cover_widths : HaveWidth ((target_in_stems m n table i k).width (m.bottom +ℤ pos k)) candidates
    cover_widths =
        let u = m.bottom +ℤ pos k in
        let here = part_at m s n table r i k h in
        let width = (target_in_stems m n table i k).width u in
        let square = square_at m s (n + s) table p i k h (omega arith) in
        let wide : HaveWidth ((target_of m table i).width u) (map (padded (here.w u)) candidates) = subst (λ (z : List (List Bool)). HaveWidth ((target_of m table i).width u) z) (cover_at i k h l candidates cover) square.candidate_widths in
        HaveWidth-unpadded width (here.w u) candidates (subst (λ (x : ℕ). HaveWidth x (map (padded (here.w u)) candidates)) (here.part.width u) wide)

    step_in_stems : IsStepInStems m n table i k candidates (square_in (in_stems m n table i) k)
    step_in_stems =
        let u = m.bottom +ℤ pos k in
        let here = part_at m s n table r i k h in
        let w = here.w u in
        let target = target_in_stems m n table i k in
        let width = target.width u in
        let whole = (target_of m table i).width u in
        let square = square_at m s (n + s) table p i k h (omega arith) in
        let content = square_in (in_stems m n table i) k in
        let images = (square_in (row_of table i) k).images in
        let rows = differential_in_stems m n table i k k in
        let row_widths = matrix_widths m s n table p r i k k h (omega arith) in
        let image_fits = square_fits m s n table r i k k h (omega arith) l in
        let wide : whole ≡ width + w = here.part.width u in
        let old : old_rows m table i k ≡ map (padded w) rows = matrix_first m s n table r i k k u h (omega arith) (omega arith) in
        let made : images ≡ map (padded w) content.images = here.images k (omega arith) l in
        let chosen : IsChosen width rows candidates content.images = unpadded-IsChosen width w rows candidates content.images row_widths cover_widths image_fits
        (same_choice whole (width + w) (old_rows m table i k) (map (padded w) rows) (candidates_of m table i k) (map (padded w) candidates) images (map (padded w) content.images) wide old (cover_at i k h l candidates cover) made square.chosen) in
        let all : differential m table i u ≡ map (padded w) (rows ++ content.images) =
        square.rows ∙ (ap (λ (z : List (List Bool)). z ++ images) old ∙ (ap (λ (z : List (List Bool)). map (padded w) rows ++ z) made ∙ sym (map-append (padded w) rows content.images))) in
        let kernel : IsKernelBasis width (rows ++ content.images) content.kernel = unpadded-IsKernelBasis width w (rows ++ content.images) content.kernel (HaveWidth-append width rows content.images row_widths image_fits)
        (same_kernel whole (width + w) (differential m table i u) (map (padded w) (rows ++ content.images)) (square_in (row_of table i) k).kernel content.kernel wide all (sym (square_kernel m s n table r i k h l)) square.kernel) in
        let matrix : Rows = record { cols = width; rows = rows } in
        IsStepOver_from_choice target (degrees_in_stems m n table i k) (images_in_stems m n table i k) candidates u matrix content (target_is_good m s n table p r i k).unit (images_fit m s n table r i k k h (omega arith)).one_each cover_widths refl refl chosen kernel

    only_step : (content : Content) → IsStepInStems m n table i k candidates content ↔ (content ≡ square_in (in_stems m n table i) k)
    only_step content = (
      λ q. step_is_unique kernels (target_in_stems m n table i k) (degrees_in_stems m n table i k) (images_in_stems m n table i k) candidates (m.bottom +ℤ pos k) content (square_in (in_stems m n table i) k) q step_in_stems,
      λ e. subst (IsStepInStems m n table i k candidates) (sym e) step_in_stems,
    )

  -- a row of the matrix of the table on the generators before a square is a sum of the square's candidates
  old_covered : (i k j : ℕ) → i ≤ s → k ≤ n + s → j < length (old_rows m table i k) → IsInSpan ((target_of m table i).width (m.bottom +ℤ pos k)) (candidates_of m table i k) (row (old_rows m table i k) j)
  old_covered zero k j h l b =
      let u = m.bottom +ℤ pos k in
      let width = m.graded.width u in
      let v = row (old_rows m table 0 k) j in
      let e : length v ≡ width = (square_at m s (n + s) table p 0 k h l).old_widths j b in
      record { coefficients = v; one_each = e ∙ sym (length-unit_vectors width); sum = combination-unit_vectors width v e }
  old_covered (suc i) k j h l b =
      let u = m.bottom +ℤ pos k in
      let width = free_width (degrees_in m table i) u in
      let square = square_at m s (n + s) table p (suc i) k h l in
      let below = square_at m s (n + s) table p i k (omega arith) l in
      let all = differential m table (suc i) u in
      let old = old_rows m table (suc i) k in
      let new = (square_in (row_of table (suc i)) k).images in
      let v = row old j in
      let same : row all j ≡ v = ap (λ (z : List (List Bool)). row z j) square.rows ∙ get_or_append_left old new [] j b in
      let there : j < length all = omega (arith, ap length square.rows, length-append old new) in
      let spanned : IsInSpan width all v = subst (IsInSpan width all) same (row-IsInSpan width all j (HaveWidth-differential m s (n + s) table p (suc i) u h) there) in
      let inside : IsInKernel ((target_of m table i).width u) (differential m table i u) v = (r.exact (suc i) k h l v).1 spanned in
      subst (λ (x : ℕ). IsInSpan x (square_in (row_of table i) k).kernel v) (length-differential m table i u) ((below.kernel.spans_kernel v).0 inside)

  covered : (i k : ℕ) (h : i ≤ s) (l : k ≤ n + i) (candidates : List (List Bool)) → AreToCover m n table i k candidates → (j : ℕ) → j < length (differential_in_stems m n table i k k) → IsInSpan ((target_in_stems m n table i k).width (m.bottom +ℤ pos k)) candidates (row (differential_in_stems m n table i k k) j)
  covered i k h l candidates cover j b =
      let u = m.bottom +ℤ pos k in
      let here = part_at m s n table r i k h in
      let w = here.w u in
      let width = (target_in_stems m n table i k).width u in
      let rows = differential_in_stems m n table i k k in
      let v = row rows j in
      let old : old_rows m table i k ≡ map (padded w) rows = matrix_first m s n table r i k k u h (omega arith) (omega arith) in
      let there : j < length (old_rows m table i k) = omega (arith, ap length old, length-map rows (padded w)) in
      let same : row (old_rows m table i k) j ≡ padded w v = ap (λ (z : List (List Bool)). row z j) old ∙ row-padded w rows j b in
      let whole = old_covered i k j h (omega arith) there in
      let first : IsInSpan ((target_of m table i).width u) (candidates_of m table i k) (padded w v) = subst (IsInSpan ((target_of m table i).width u) (candidates_of m table i k)) same whole in
      let second : IsInSpan ((target_of m table i).width u) (map (padded w) candidates) (padded w v) = subst (λ (z : List (List Bool)). IsInSpan ((target_of m table i).width u) z (padded w v)) (cover_at i k h l candidates cover) first in
      let third : IsInSpan (width + w) (map (padded w) candidates) (padded w v) = subst (λ (x : ℕ). IsInSpan x (map (padded w) candidates) (padded w v)) (here.part.width u) second in
      unpadded-IsInSpan width w candidates v (cover_widths i k h l candidates cover) (matrix_widths m s n table p r i k k h (omega arith) j b) third

-- ---- the laws

resolved : FreeModulesAreModules → MapsCommute → (m : Module) (s t : ℕ) (table : List (List Content)) → IsCanonicalResolution m s t table → IsResolved m s t table
resolved free commute m s t table p = record { free = free; commute = commute; steenrod = p.steenrod; bounded = p.bounded; canonical = p.canonical }

pub squares_are_steps : CanonicalTableIsMinimalResolution → FreeModulesAreModules → MapsCommute → KernelBasisIsUnique → SquaresInStemsAreSteps
squares_are_steps minimal free commute kernels m s n table p i k h l candidates cover content =
    only_step kernels m s n table (resolved free commute m s (n + s) table p) (minimal_of minimal m s (n + s) table p) i k h l candidates cover content

pub rows_are_covered : CanonicalTableIsMinimalResolution → FreeModulesAreModules → MapsCommute → KernelBasisIsUnique → RowsInStemsAreCovered
rows_are_covered minimal free commute kernels m s n table p i k h l candidates cover j b =
    covered kernels m s n table (resolved free commute m s (n + s) table p) (minimal_of minimal m s (n + s) table p) i k h l candidates cover j b

pub kernels_are_to_cover : CanonicalTableIsMinimalResolution → FreeModulesAreModules → MapsCommute → KernelsInStemsAreToCover
kernels_are_to_cover minimal free commute m s n table p i k h l =
    let r = minimal_of minimal m s (n + s) table p in
    let width = (target_in_stems m n table i k).width (m.bottom +ℤ pos k) in
    subst (IsKernelBasis width (differential_in_stems m n table i (suc k) k)) (sym (square_kernel m s n table r i k h l)) (kernel_in_stems m s n table (resolved free commute m s (n + s) table p) r i k h l)
