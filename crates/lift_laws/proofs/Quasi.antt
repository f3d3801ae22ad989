-- The reduction of a square's matrix gives preimages of cycles, in the part of a table that is resolved.
use Rattle.std.proofs.Common.{◌≡◌, ℕ, zero, suc, ◌+◌, ◌<◌, ◌≤◌, ℤ, pos, ◌+ℤ◌, Bool, List, [], ◌∷◌, ◌++◌, length, take, replicate, refl, ap, sym, subst, ◌∙◌, arith}
use Rattle.std.proofs.lemmas.Int.{ints}
use Rattle.std.proofs.lemmas.List.{length-take-le, take_more, take-take}
use Rattle.f2_vec.specs.Vectors.{zeros}
use Rattle.f2_vec.specs.Spans.{IsInSpan}
use Rattle.f2_matrix.specs.Reduction.{Reduction, IsReductionOf}
use Rattle.f2_matrix.specs.Preimages.{quasi_of}
use Rattle.f2_matrix.proofs.Parts.{image_is_row_basis}
use Rattle.f2_matrix.proofs.Preimages.{quasi_is_preimage}
use Rattle.free_module.specs.FreeModule.{free_width}
use Rattle.free_module.specs.Graded.{GradedModule, free_graded}
use Rattle.free_module.specs.LinearMap.{map_rows}
use Rattle.resolution_laws.specs.Resolution.{Module, Content, no_content, square_in, degrees_from, images_of, row_of, below_of, target_over}
use Rattle.resolution_laws.specs.Exactness.{target_of, differential, IsExactAt}
use Rattle.resolution_laws.proofs.Rows.{degrees_from-push, images_of-push}
use Rattle.resolution_laws.proofs.Generators.{AgreeIn, AgreeIn-take, map_rows-take, map_rows-agree}
use Rattle.resolution_laws.proofs.Complex.{length-differential}
use Rattle.lift_laws.specs.Lifts.{Resolution, gens, d}
use Rattle.lift_laws.proofs.Resolved.{IsResolved}

-- the matrix of square n of a row, as it is made over the squares before it
abbrev pub square_matrix_of : Module → GradedModule → List Content → ℕ → List (List Bool)
square_matrix_of m target squares n =
    let c = square_in squares n in
    map_rows target (degrees_from m.bottom (take n squares) ++ replicate (length c.images) (m.bottom +ℤ pos n)) (images_of (take n squares) ++ c.images) (m.bottom +ℤ pos n)

-- is that of the row, and of its first squares
matrix-row : (m : Module) (target : GradedModule) (squares : List Content) (n more : ℕ) → n < length squares → n < more → square_matrix_of m target squares n ≡ map_rows target (degrees_from m.bottom (take more squares)) (images_of (take more squares)) (m.bottom +ℤ pos n)
matrix-row m target squares n more l h =
    let before = take n squares in
    let c = square_in squares n in
    let u = m.bottom +ℤ pos n in
    let ds = degrees_from m.bottom before ++ replicate (length c.images) u in
    let len : length before ≡ n = length-take-le n squares (omega arith) in
    let through : take (n + 1) squares ≡ before ++ c ∷ [] = take_more squares n no_content l in
    let degrees : degrees_from m.bottom (take (n + 1) squares) ≡ ds =
    ap (degrees_from m.bottom) through ∙ (degrees_from-push m.bottom before c ∙ ap (λ (j : ℕ). degrees_from m.bottom before ++ replicate (length c.images) (m.bottom +ℤ pos j)) len) in
    let images : images_of (take (n + 1) squares) ≡ images_of before ++ c.images = ap images_of through ∙ images_of-push before c in
    let less : take (n + 1) (take more squares) ≡ take (n + 1) squares = take-take (n + 1) more squares (omega arith) in
    sym (map_rows-take target m.bottom (take more squares) (n + 1) u (omega (arith, ints))
    ∙ (ap (λ (z : List Content). map_rows target (degrees_from m.bottom z) (images_of z) u) less
    ∙ (ap (λ (z : List ℤ). map_rows target z (images_of (take (n + 1) squares)) u) degrees ∙ ap (λ (vs : List (List Bool)). map_rows target ds vs u) images)))

-- what d_k goes to, over the square below and in the part
target-part : (m : Module) (rows part : List (List Content)) (k n more : ℕ) → n < more → ((i : ℕ) → i < k → row_of part i ≡ take more (row_of rows i)) → AgreeIn (m.bottom +ℤ pos n) (target_over m (below_of rows k n)) (target_of m part k)
target-part m rows part zero n more h same = record { width = refl; action = λ r t v e. refl }
target-part m rows part (suc k) n more h same =
    let row = row_of rows k in
    let u = m.bottom +ℤ pos n in
    let less : take (suc n) (take more row) ≡ take (suc n) row = take-take (suc n) more row (omega arith) in
    let P : List Content → Type 0 = λ z. AgreeIn u (free_graded (degrees_from m.bottom z)) (free_graded (degrees_from m.bottom (take more row))) in
    let Q : List Content → Type 0 = λ z. AgreeIn u (free_graded (degrees_from m.bottom (take (suc n) row))) (free_graded (degrees_from m.bottom z)) in
    subst Q (sym (same k (omega arith))) (subst P less (AgreeIn-take m.bottom (take more row) (suc n) u (omega (arith, ints))))

-- what d_k covers: cycles for k > 0, and all of the module for k = 0
abbrev pub IsCycle : Resolution → ℕ → ℤ → List Bool → Type 0
IsCycle q zero u v = Unit {0}
IsCycle q (suc k) u v = d q k u v ≡ zeros ((target_of q.base q.table k).width u)

is_covered : (q : Resolution) (k : ℕ) (u : ℤ) (v : List Bool) → IsExactAt q.base q.table k u → length v ≡ (target_of q.base q.table k).width u → IsCycle q k u v → IsInSpan ((target_of q.base q.table k).width u) (differential q.base q.table k u) v
is_covered q zero u v exact e c = exact v e
is_covered q (suc k) u v exact e c = (exact v).0 (record { one_each = e ∙ sym (length-differential q.base q.table k u); vanishes = c })

-- the preimage that a reduction chooses
pub record IsPreimageOf (q : Resolution) (k : ℕ) (u : ℤ) (v w : List Bool) : Type 0 where
  pub fits : length w ≡ free_width (gens q k) u
  pub gives : d q k u w ≡ v

-- The rows of q are the first squares of these rows, and the reduction is of the matrix of one of them.
pub quasi-gives : (q : Resolution) (qs qt : ℕ) → IsResolved q qs qt → (rows : List (List Content)) → ((i : ℕ) → i ≤ qs → row_of q.table i ≡ take (qt + 1) (row_of rows i)) → (k n : ℕ) → k ≤ qs → n ≤ qt → n < length (row_of rows k) → (reduction : Reduction)
    → IsReductionOf ((target_over q.base (below_of rows k n)).width (q.base.bottom +ℤ pos n)) (square_matrix_of q.base (target_over q.base (below_of rows k n)) (row_of rows k) n) reduction
    → (v : List Bool) → length v ≡ (target_of q.base q.table k).width (q.base.bottom +ℤ pos n) → IsCycle q k (q.base.bottom +ℤ pos n) v → IsPreimageOf q k (q.base.bottom +ℤ pos n) v (quasi_of reduction.height reduction.image reduction.chosen v)
quasi-gives q qs qt o rows are k n h l there reduction is v e c =
    let m = q.base in
    let u = m.bottom +ℤ pos n in
    let target = target_of m q.table k in
    let cut = target_over m (below_of rows k n) in
    let w = target.width u in
    let matrix = square_matrix_of m cut (row_of rows k) n in
    let agree = target-part m rows q.table k n (qt + 1) (omega arith) (λ i b. are i (omega arith)) in
    let squares = row_of rows k in
    let same : matrix ≡ differential m q.table k u =
    matrix-row m cut squares n (qt + 1) there (omega arith)
    ∙ (map_rows-agree u cut target (degrees_from m.bottom (take (qt + 1) squares)) (images_of (take (qt + 1) squares)) agree
    ∙ ap (λ (z : List Content). map_rows target (degrees_from m.bottom z) (images_of z) u) (sym (are k h))) in
    let P : List (List Bool) → Type 0 = λ z. IsReductionOf (cut.width u) z reduction in
    let Q : ℕ → Type 0 = λ z. IsReductionOf z (differential m q.table k u) reduction in
    let red : IsReductionOf w (differential m q.table k u) reduction = subst Q agree.width (subst P same is) in
    let covered = is_covered q k u v (o.minimal.exact k n h l) e c in
    let basis = image_is_row_basis w (differential m q.table k u) red.form red.widths red.is_form in
    let inside : IsInSpan w reduction.image v = subst (λ (z : List (List Bool)). IsInSpan w z v) (sym red.image) ((basis.same_span v).0 covered) in
    let p = quasi_is_preimage w (differential m q.table k u) reduction v red inside in
    record { fits = p.one_each ∙ length-differential m q.table k u; gives = p.gives }
