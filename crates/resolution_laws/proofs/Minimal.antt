-- The table is minimal: the new generators stand last in the matrix of d_s, and no relation has a coefficient at one of them.
-- In row 0, what operations make is in the span of the generators of lower degrees.
use Rattle.std.proofs.Common.{◌≡◌, inl, inr, ℕ, zero, suc, ◌+◌, ◌-◌, ◌<◌, ◌≤◌, Bool, false, ℤ, pos, ◌+ℤ◌, ◌<ℤ◌, List, [], ◌++◌, length, take, drop, sym, ◌∙◌, ap, subst, arith}
use Rattle.std.proofs.lemmas.Int.{ints}
use Rattle.std.proofs.lemmas.Bool.{cases_lt}
use Rattle.std.proofs.lemmas.List.{nil_from_length, get_or_append_left, get_or-drop, length-map, length-take-le}
use Rattle.f2_vec.specs.Vectors.{bit, zeros}
use Rattle.f2_vec.specs.Spans.{row, combination, IsInSpan, IsInKernel}
use Rattle.f2_vec.proofs.Sums.{bit-zeros}
use Rattle.f2_vec.proofs.Spans.{zeros-IsInSpan, row-IsInSpan, combination-IsInSpan, span_within}
use Rattle.milnor_basis.specs.Exponents.{degree_of}
use Rattle.free_module.specs.FreeModule.{free_basis_from, free_basis, free_width, free_action}
use Rattle.free_module.specs.FreeBasis.{element}
use Rattle.free_module.specs.Graded.{IsSteenrodModule}
use Rattle.free_module.specs.LinearMap.{image_of, map_rows, mapped}
use Rattle.free_module.proofs.FreeBasis.{free_basis_from-append}
use Rattle.resolution_laws.specs.Resolution.{Module, Content, square_in, degrees_from, images_of, row_of}
use Rattle.resolution_laws.specs.Exactness.{IsBoundedBelow, target_of, differential, IsOperatedOn, IsMinimalAt, AreNeededAt, IsExactAt}
use Rattle.resolution_laws.proofs.Rows.{degrees_from-between, degrees_from-split}
use Rattle.resolution_laws.proofs.Chosen.{chosen_apart, relation_without_chosen}
use Rattle.resolution_laws.proofs.Generators.{element-IsOfDegree, map_rows-take}
use Rattle.resolution_laws.proofs.Squares.{IsResolved, old_rows, candidates_of, AreImages-before, square_at}
use Rattle.resolution_laws.proofs.Complex.{action-zeros, image-IsInKernel}
use Rattle.resolution_laws.proofs.Exact.{is_exact}

-- a basis element without an operation, in the degree of square k, is not on a generator before that square
bare-IsNew : (b : ℤ) (squares : List Content) (k j : ℕ) → k ≤ length squares → j < length (free_basis (degrees_from b squares) (b +ℤ pos k)) → (element (free_basis (degrees_from b squares) (b +ℤ pos k)) j).1 ≡ [] → free_width (degrees_from b (take k squares)) (b +ℤ pos k) ≤ j
bare-IsNew b squares k j h l bare =
    let u = b +ℤ pos k in
    let ds = degrees_from b (take k squares) in
    let later = degrees_from (b +ℤ pos k) (drop k squares) in
    elim (cases_lt j (free_width ds u)) [
      | inl m ↦
          let parts : free_basis (degrees_from b squares) u ≡ free_basis ds u ++ free_basis_from (0 + length ds) later u = ap (λ (z : List ℤ). free_basis z u) (degrees_from-split b squares k) ∙ free_basis_from-append 0 ds later u in
          let same : element (free_basis (degrees_from b squares) u) j ≡ element (free_basis ds u) j = ap (λ (z : List (ℕ × List ℕ)). element z j) parts ∙ get_or_append_left (free_basis ds u) (free_basis_from (0 + length ds) later u) (0, []) j m in
          let e = element (free_basis ds u) j in
          let o = element-IsOfDegree ds u j m in
          let none : degree_of e.1 ≡ 0 = ap (λ (z : ℕ × List ℕ). degree_of z.1) (sym same) ∙ ap degree_of bare in
          let below = (degrees_from-between b (take k squares) e.0 o.generator).below in
          let len = length-take-le k squares h in
          let at = o.degree in
          absurd (omega (arith, ints))
      | inr m ↦ m
    ]

-- the coefficient at place j of a relation is the one at its place among the chosen
bit-from : (c : List Bool) (n w j : ℕ) → n ≤ j → drop n c ≡ zeros w → bit c j ≡ false
bit-from c n w j h z =
    let at : n + (j - n) ≡ j = omega arith in
    ap (bit c) (sym at) ∙ (sym (get_or-drop n c (j - n) false) ∙ (ap (λ (v : List Bool). bit v (j - n)) z ∙ bit-zeros w (j - n)))

-- no relation has a coefficient at a chosen generator
pub are_needed : (m : Module) (s t : ℕ) (table : List (List Content)) → IsResolved m s t table → (i k : ℕ) → i ≤ s → k ≤ t → AreNeededAt m table i k
are_needed m s t table p i k h l c relation j b bare =
    let u = m.bottom +ℤ pos k in
    let squares = row_of table i in
    let n = (target_of m table i).width u in
    let count = p.canonical.squares i h in
    let square = square_at m s t table p i k h l in
    let old = old_rows m table i k in
    let chosen = (square_in squares k).images in
    let whole : IsInKernel n (old ++ chosen) c = subst (λ (z : List (List Bool)). IsInKernel n z c) square.rows relation in
    let none : drop (length old) c ≡ zeros (length chosen) = relation_without_chosen n old (candidates_of m table i k) chosen square.old_widths square.candidate_widths square.chosen c whole in
    let before = degrees_from m.bottom (take k squares) in
    let len : length old ≡ free_width before u = length-map (free_basis before u) (image_of (target_of m table i) before (images_of (take k squares))) in
    let new = bare-IsNew m.bottom squares k j (omega arith) b bare in
    bit-from c (length old) (length chosen) j (omega arith) none

-- the images of the row above are such relations
minimal_above : (m : Module) (s t : ℕ) (table : List (List Content)) → IsResolved m s t table → (i k : ℕ) → suc i ≤ s → k ≤ t → IsMinimalAt m table (suc i) k
minimal_above m s t table p i k h l g j a b bare = are_needed m s t table p i k (omega arith) l (row (square_in (row_of table (suc i)) k).images g) (image-IsInKernel m s t table p i k g h l a) j b bare

-- Sq(R) on a vector below the bottom is zero
operated-below : (m : Module) → IsSteenrodModule m.graded → IsBoundedBelow m → (u : ℤ) (v : List Bool) (o : IsOperatedOn m.graded u v) → o.degree <ℤ m.bottom → v ≡ zeros (m.graded.width u)
operated-below m steenrod bounded u v o h =
    let act = m.graded.action o.r o.degree in
    let none : m.graded.width o.degree ≡ 0 = bounded o.degree h in
    let x : o.vector ≡ zeros (m.graded.width o.degree) = nil_from_length o.vector (o.fits ∙ none) ∙ ap zeros (sym none) in
    let e : v ≡ act (zeros (m.graded.width o.degree)) = o.is_value ∙ ap act x in
    let f : act (zeros (m.graded.width o.degree)) ≡ zeros (m.graded.width u) = action-zeros m.graded steenrod.linear o.r o.degree ∙ ap (λ (z : ℤ). zeros (m.graded.width z)) o.degrees_add in
    e ∙ f

-- Sq(R) on a vector of the degree of an earlier square is a sum of rows on generators before the square
operated-from : (m : Module) (s t : ℕ) (table : List (List Content)) → IsResolved m s t table → (k : ℕ) → k ≤ t → (v : List Bool) (o : IsOperatedOn m.graded (m.bottom +ℤ pos k) v) (j : ℕ) → j < k → m.bottom +ℤ pos j ≡ o.degree → IsInSpan (m.graded.width (m.bottom +ℤ pos k)) (old_rows m table 0 k) v
operated-from m s t table p k l v o j b at =
    let u = m.bottom +ℤ pos k in
    let n = m.graded.width u in
    let old = old_rows m table 0 k in
    let wide = (square_at m s t table p 0 k (omega arith) l).old_widths in
    let d = o.degree in
    let r = o.r in
    let squares = row_of table 0 in
    let ds = degrees_from m.bottom (take k squares) in
    let images = images_of (take k squares) in
    let lower : IsExactAt m table 0 d = subst (λ (z : ℤ). IsExactAt m table 0 z) at (is_exact m s t table p 0 j (omega arith) (omega arith)) in
    let x = lower o.vector o.fits in
    let rows : differential m table 0 d ≡ map_rows m.graded ds images d = map_rows-take m.graded m.bottom squares k d (omega (arith, ints)) in
    let len : length x.coefficients ≡ free_width ds d = x.one_each ∙ (ap length rows ∙ length-map (free_basis ds d) (image_of m.graded ds images)) in
    let is_map : o.vector ≡ mapped m.graded ds images d x.coefficients = sym x.sum ∙ ap (combination (m.graded.width d) x.coefficients) rows in
    let w = free_action ds r d x.coefficients in
    let through : m.graded.action r d (mapped m.graded ds images d x.coefficients) ≡ mapped m.graded ds images (d +ℤ pos (degree_of r)) w = p.commute m.graded ds images p.steenrod (AreImages-before m s t table p.canonical 0 k (omega arith) l) r d x.coefficients o.trimmed len in
    let value : v ≡ m.graded.action r d (mapped m.graded ds images d x.coefficients) = o.is_value ∙ ap (m.graded.action r d) is_map in
    let sum : mapped m.graded ds images (d +ℤ pos (degree_of r)) w ≡ combination n w old = ap (λ (z : ℤ). mapped m.graded ds images z w) o.degrees_add in
    let whole : v ≡ combination n w old = value ∙ (through ∙ sum) in
    subst (IsInSpan n old) (sym whole) (combination-IsInSpan n w old old wide (λ i a. row-IsInSpan n old i wide a))

operated-IsOld : (m : Module) (s t : ℕ) (table : List (List Content)) → IsResolved m s t table → (k : ℕ) → k ≤ t → (v : List Bool) → IsOperatedOn m.graded (m.bottom +ℤ pos k) v → IsInSpan (m.graded.width (m.bottom +ℤ pos k)) (old_rows m table 0 k) v
operated-IsOld m s t table p k l v o =
    let n = m.graded.width (m.bottom +ℤ pos k) in
    let old = old_rows m table 0 k in
    let positive = o.positive in
    let add = o.degrees_add in
    elim (cases_lt k (degree_of o.r)) [
      | inl f ↦ subst (IsInSpan n old) (sym (operated-below m p.steenrod p.bounded (m.bottom +ℤ pos k) v o (omega (arith, ints)))) (zeros-IsInSpan n old (square_at m s t table p 0 k (omega arith) l).old_widths)
      | inr f ↦ operated-from m s t table p k l v o (k - degree_of o.r) (omega arith) (omega (arith, ints))
    ]

pub is_minimal : (m : Module) (s t : ℕ) (table : List (List Content)) → IsResolved m s t table → (i k : ℕ) → i ≤ s → k ≤ t → IsMinimalAt m table i k
is_minimal m s t table p zero k h l = λ c e d.
    let n = m.graded.width (m.bottom +ℤ pos k) in
    let square = square_at m s t table p 0 k h l in
    let old = old_rows m table 0 k in
    let images = (square_in (row_of table 0) k).images in
    chosen_apart n old (candidates_of m table 0 k) images square.old_widths square.candidate_widths square.chosen c e (span_within n d.terms old square.old_widths (λ i b. operated-IsOld m s t table p k l (row d.terms i) (d.each i b)) (combination n c images) d.is_sum)
is_minimal m s t table p (suc i) k h l = minimal_above m s t table p i k h l
