-- The matrix of a square: the rows on the generators before it, and behind them the images of its own, which stand last in the basis.
-- It speaks of the squares of its row through its degree, and of those below it, alone.
use Rattle.std.proofs.Common.{◌≡◌, inl, inr, ℕ, zero, suc, ◌+◌, ◌-◌, ◌<◌, ◌≤◌, Bool, ℤ, pos, ◌+ℤ◌, List, [], ◌++◌, length, map, take, replicate, refl, sym, ◌∙◌, ap, subst, arith, add-one}
use Rattle.std.proofs.lemmas.Int.{ints}
use Rattle.std.proofs.lemmas.Bool.{cases_lt}
use Rattle.std.proofs.lemmas.List.{take_more, get_or-take, length-take-le, get_or_append_left, get_or-append_right, length-map}
use Rattle.f2_vec.specs.Spans.{HaveWidth}
use Rattle.milnor_basis.specs.Exponents.{degree_of}
use Rattle.milnor_product.specs.Times.{basis_at}
use Rattle.free_module.specs.FreeBasis.{element}
use Rattle.free_module.specs.FreeModule.{free_basis_from, free_basis, free_width}
use Rattle.free_module.specs.Graded.{GradedModule, IsSteenrodModule}
use Rattle.free_module.specs.LinearMap.{AreImages, image_of, map_rows}
use Rattle.free_module.proofs.FreeBasis.{free_basis_from-append}
use Rattle.free_module.proofs.MapRows.{HaveWidth-map_rows}
use Rattle.milnor_laws.proofs.FreeModules.{free_modules_are_modules}
use Rattle.resolution_laws.specs.Resolution.{Module, Content, no_content, square_in, degrees_from, images_of, row_of, below_of, target_over}
use Rattle.resolution_laws.specs.Exactness.{target_of, differential, IsTable}
use Rattle.resolution_laws.proofs.Generators.{AreImages-row, AgreeIn, AgreeIn-take, map_rows-agree, map_rows-take, element-IsOfDegree}
use Rattle.resolution_laws.proofs.NewGenerators.{map_rows-new, minus_self}
use Rattle.resolution_laws.proofs.Rows.{images_of-push, degrees_from-between, free_basis-take}
use Rattle.resolution_laws.proofs.Squares.{target_is_module, old_rows}
use Rattle.resolution_counts.proofs.Counts.{degrees_more, width_here}
use Rattle.certificate_laws.specs.Certificates.{GeneratorsStandLast}

-- ---- a row through a square

-- the basis in the degree of square k: on the generators before it, and on its own
basis_parts : (b : ℤ) (squares : List Content) (k : ℕ) → k < length squares → free_basis (degrees_from b squares) (b +ℤ pos k) ≡ free_basis (degrees_from b (take k squares)) (b +ℤ pos k) ++ free_basis_from (length (degrees_from b (take k squares))) (replicate (length (square_in squares k).images) (b +ℤ pos k)) (b +ℤ pos k)
basis_parts b squares k l =
    let u = b +ℤ pos k in
    let before = degrees_from b (take k squares) in
    let new = replicate (length (square_in squares k).images) u in
    let start : 0 + length before ≡ length before = omega arith in
    free_basis-take b squares (suc k) u (omega (arith, ints))
    ∙ (ap (λ (ds : List ℤ). free_basis ds u) (degrees_more b squares k l)
    ∙ (free_basis_from-append 0 before new u ∙ ap (λ (g : ℕ). free_basis before u ++ free_basis_from g new u) start))

-- on generators of degree u there is Sq() alone in that degree
own_element : (g n h : ℕ) (u : ℤ) → h < n → (element (free_basis_from g (replicate n u) u) h).1 ≡ []
own_element g zero h u l = absurd (omega arith)
own_element g (suc n) zero u l = ap (λ (z : ℤ). (element (map (λ r. (g, r)) (basis_at z) ++ free_basis_from (suc g) (replicate n u) u) 0).1) (minus_self u)
own_element g (suc n) (suc h) u l = ap (λ (z : ℤ). (element (map (λ r. (g, r)) (basis_at z) ++ free_basis_from (suc g) (replicate n u) u) (suc h)).1) (minus_self u) ∙ own_element (suc g) n h u (omega arith)

-- before them there is none without an operation
early_element : (b : ℤ) (squares : List Content) (k j : ℕ) → k ≤ length squares → j < free_width (degrees_from b (take k squares)) (b +ℤ pos k) → (element (free_basis (degrees_from b (take k squares)) (b +ℤ pos k)) j).1 ≡ [] → ⊥
early_element b squares k j h l bare =
    let ds = degrees_from b (take k squares) in
    let e = element (free_basis ds (b +ℤ pos k)) j in
    let o = element-IsOfDegree ds (b +ℤ pos k) j l in
    let none : degree_of e.1 ≡ 0 = ap degree_of bare in
    let below = (degrees_from-between b (take k squares) e.0 o.generator).below in
    let len = length-take-le k squares h in
    let at = o.degree in
    absurd (omega (arith, ints))

pub stand_last : GeneratorsStandLast
stand_last m table s k l j within =
    let b = m.bottom in
    let squares = row_of table s in
    let u = b +ℤ pos k in
    let before = degrees_from b (take k squares) in
    let old = free_basis before u in
    let n = length (square_in squares k).images in
    let new = free_basis_from (length before) (replicate n u) u in
    let parts = basis_parts b squares k l in
    let width = width_here b squares k l in
    elim (cases_lt j (length old)) [
      | inl early ↦
          let same : element (free_basis (degrees_from b squares) u) j ≡ element old j = ap (λ (z : List (ℕ × List ℕ)). element z j) parts ∙ get_or_append_left old new (0, []) j early in
          (λ bare. absurd (early_element b squares k j (omega arith) early (ap (λ (z : ℕ × List ℕ). z.1) (sym same) ∙ bare)), λ last. absurd (omega arith))
      | inr late ↦
          let same : element (free_basis (degrees_from b squares) u) j ≡ element new (j - length old) = ap (λ (z : List (ℕ × List ℕ)). element z j) parts ∙ get_or-append_right old new (length old) j (0, []) refl late in
          let own = own_element (length before) n (j - length old) u (omega arith) in
          (λ bare. omega arith, λ last. ap (λ (z : ℕ × List ℕ). z.1) same ∙ own)
    ]

-- ---- the matrix

-- of a map on the generators through square k
rows_through : (target : GradedModule) (b : ℤ) (squares : List Content) (k : ℕ) → k < length squares → map_rows target (degrees_from b squares) (images_of squares) (b +ℤ pos k) ≡ map_rows target (degrees_from b (take k squares) ++ replicate (length (square_in squares k).images) (b +ℤ pos k)) (images_of (take k squares) ++ (square_in squares k).images) (b +ℤ pos k)
rows_through target b squares k l =
    let u = b +ℤ pos k in
    let c = square_in squares k in
    let images : images_of (take (suc k) squares) ≡ images_of (take k squares) ++ c.images = ap (λ n. images_of (take n squares)) (sym (add-one k)) ∙ (ap images_of (take_more squares k no_content l) ∙ images_of-push (take k squares) c) in
    map_rows-take target b squares (suc k) u (omega (arith, ints))
    ∙ (ap (λ (ds : List ℤ). map_rows target ds (images_of (take (suc k) squares)) u) (degrees_more b squares k l)
    ∙ ap (λ (vs : List (List Bool)). map_rows target (degrees_from b (take k squares) ++ replicate (length c.images) u) vs u) images)

-- the target over the squares of the row below through degree k, in that degree
pub target_agrees : (m : Module) (table : List (List Content)) (s k : ℕ) → AgreeIn (m.bottom +ℤ pos k) (target_over m (below_of table s k)) (target_of m table s)
target_agrees m table zero k = record { width = refl; action = λ r d v e. refl }
target_agrees m table (suc i) k = AgreeIn-take m.bottom (row_of table i) (suc k) (m.bottom +ℤ pos k) (omega (arith, ints))

-- the matrix over the squares that the square stands on, with its own generators, is that of d_s
pub matrix_through : (m : Module) (table : List (List Content)) (s k : ℕ) → k < length (row_of table s) → let squares = take k (row_of table s) in let c = square_in (row_of table s) k in let u = m.bottom +ℤ pos (length squares) in
    map_rows (target_over m (below_of table s k)) (degrees_from m.bottom squares ++ replicate (length c.images) u) (images_of squares ++ c.images) u ≡ differential m table s (m.bottom +ℤ pos k)
matrix_through m table s k l =
    let squares = take k (row_of table s) in
    let c = square_in (row_of table s) k in
    let len : length squares ≡ k = length-take-le k (row_of table s) (omega arith) in
    let ds : ℤ → List ℤ = λ u. degrees_from m.bottom squares ++ replicate (length c.images) u in
    let vs = images_of squares ++ c.images in
    let u = m.bottom +ℤ pos k in
    ap (λ (n : ℕ). map_rows (target_over m (below_of table s k)) (ds (m.bottom +ℤ pos n)) vs (m.bottom +ℤ pos n)) len
    ∙ (map_rows-agree u (target_over m (below_of table s k)) (target_of m table s) (ds u) vs (target_agrees m table s k)
    ∙ sym (rows_through (target_of m table s) m.bottom (row_of table s) k l))

-- ---- of a table

-- generators before the square have images of their degrees
pub before_fit : (m : Module) (s t : ℕ) (table : List (List Content)) → IsTable m s t table → (i k : ℕ) → i ≤ s → k ≤ t → AreImages (target_of m table i) (degrees_from m.bottom (take k (row_of table i))) (images_of (take k (row_of table i)))
before_fit m s t table p i k h c =
    let squares = row_of table i in
    let n = p.squares i h in
    let len : length (take k squares) ≡ k = length-take-le k squares (omega arith) in
    AreImages-row (target_of m table i) m.bottom (take k squares) (λ j b.
    let same : square_in (take k squares) j ≡ square_in squares j = get_or-take k squares j no_content (omega arith) in
    subst (λ (x : Content). HaveWidth ((target_of m table i).width (m.bottom +ℤ pos j)) x.images) (sym same) (p.widths i j h (omega arith)))

pub before_widths : (m : Module) (s t : ℕ) (table : List (List Content)) → IsSteenrodModule m.graded → IsTable m s t table → (i k : ℕ) → i ≤ s → k ≤ t → HaveWidth ((target_of m table i).width (m.bottom +ℤ pos k)) (old_rows m table i k)
before_widths m s t table steenrod p i k h c = HaveWidth-map_rows (target_of m table i) (degrees_from m.bottom (take k (row_of table i))) (images_of (take k (row_of table i))) (m.bottom +ℤ pos k) (target_is_module free_modules_are_modules m table i steenrod).widths (before_fit m s t table p i k h c)

pub length-old_rows : (m : Module) (table : List (List Content)) (i k : ℕ) → length (old_rows m table i k) ≡ free_width (degrees_from m.bottom (take k (row_of table i))) (m.bottom +ℤ pos k)
length-old_rows m table i k = length-map (free_basis (degrees_from m.bottom (take k (row_of table i))) (m.bottom +ℤ pos k)) (image_of (target_of m table i) (degrees_from m.bottom (take k (row_of table i))) (images_of (take k (row_of table i))))

-- the images of the square stand behind the rows on the generators before it
pub square_rows : (m : Module) (s t : ℕ) (table : List (List Content)) → IsSteenrodModule m.graded → IsTable m s t table → (i k : ℕ) → i ≤ s → k ≤ t → differential m table i (m.bottom +ℤ pos k) ≡ old_rows m table i k ++ (square_in (row_of table i) k).images
square_rows m s t table steenrod p i k h c =
    let n = p.squares i h in
    let squares = row_of table i in
    let target = target_of m table i in
    let fit = before_fit m s t table p i k h c in
    rows_through target m.bottom squares k (omega arith)
    ∙ map_rows-new target (degrees_from m.bottom (take k squares)) (images_of (take k squares)) (square_in squares k).images (m.bottom +ℤ pos k) (target_is_module free_modules_are_modules m table i steenrod).unit fit.one_each (p.widths i k h c)
