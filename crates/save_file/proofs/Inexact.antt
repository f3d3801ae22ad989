-- Why rows are not those of the reduction of a matrix, and what this says of a square of a table.
use Rattle.std.proofs.Common.{◌≡◌, ℕ, suc, ◌<◌, ◌+◌, ℤ, pos, ◌+ℤ◌, Bool, List, Some, slice_get, length, take, refl, sym, ◌∙◌, ap, subst, arith}
use Rattle.std.proofs.lemmas.Int.{ints}
use Rattle.f2_vec.specs.Vectors.{IsZero}
use Rattle.f2_vec.specs.Spans.{row, unit_vector, unit_vectors, combination, HaveWidth, IsInSpan}
use Rattle.f2_vec.proofs.Sums.{bit-zeros, zeros_from_bits}
use Rattle.f2_vec.proofs.Combinations.{combination-unit_vector}
use Rattle.f2_vec.proofs.Spans.{row-IsInSpan}
use Rattle.f2_vec.proofs.Split.{length-unit_vectors}
use Rattle.f2_matrix.specs.Echelon.{IsRowBasis, IsKernelBasis}
use Rattle.f2_matrix.specs.Parts.{PartsAreReduction}
use Rattle.f2_matrix.specs.Reduction.{Rows, Reduction, IsReductionOf}
use Rattle.f2_matrix.proofs.Parts.{image_is_row_basis, kernel_is_kernel_basis}
use Rattle.resolution_laws.specs.Resolution.{Content, row_of, below_of}
use Rattle.square.specs.Squares.{Placed, target_width, square_matrix, over, bottom_of}
use Rattle.square.specs.Tables.{Staircase, row_in, plain_rows, content_at, square_at, IsMatrixAt}
use Rattle.square.proofs.ByDegree.{square_at-above}
use Rattle.square.proofs.Places.{content_at-is}
use Rattle.save_file.specs.Exactness.{covered_at, IsInexactAt}
use Rattle.save_file.specs.Inside.Exactness.{AreOfNone, HasNoRelation, HasOtherRow, HasOtherRelation}

-- ---- witnesses

pub no_relation : (matrix : Rows) (vectors : List (List Bool)) (i : ℕ) (w : List Bool) → i < length vectors → w ≡ combination matrix.cols (row vectors i) matrix.rows → (IsZero w → ⊥) → HasNoRelation matrix vectors
no_relation matrix vectors i w l is some = (i, l, λ kernel. some (subst IsZero (sym (is ∙ kernel.vanishes)) (bit-zeros matrix.cols)))

pub other_row : (matrix : Rows) (image : List (List Bool)) (i : ℕ) (w : List Bool) → HaveWidth matrix.cols matrix.rows → i < length matrix.rows → w ≡ combination matrix.cols (unit_vector (length matrix.rows) i) matrix.rows → (IsInSpan matrix.cols image w → ⊥) → HasOtherRow matrix image
other_row matrix image i w wide l is none =
    let same : w ≡ row matrix.rows i = is ∙ combination-unit_vector matrix.cols (length matrix.rows) i matrix.rows wide refl l in
    (i, l, λ inside. none (subst (IsInSpan matrix.cols image) (sym same) inside))

pub other_relation : (matrix : Rows) (kernel : List (List Bool)) (v w : List Bool) → length v ≡ length matrix.rows → w ≡ combination matrix.cols v matrix.rows → length w ≡ matrix.cols → IsZero w → (IsInSpan (length matrix.rows) kernel v → ⊥) → HasOtherRelation matrix kernel
other_relation matrix kernel v w one_each is width vanishes none = (v, record { one_each = one_each; vanishes = sym is ∙ zeros_from_bits matrix.cols w width vanishes }, none)

kernel_basis : (matrix : Rows) (r : Reduction) (kernel : List (List Bool)) → IsReductionOf matrix.cols matrix.rows r → r.kernel ≡ kernel → IsKernelBasis matrix.cols matrix.rows kernel
kernel_basis matrix r kernel is same = subst (IsKernelBasis matrix.cols matrix.rows) (sym is.kernel ∙ same) (kernel_is_kernel_basis matrix.cols matrix.rows is.form is.widths is.is_form)

pub by_relation : (matrix : Rows) (image kernel : List (List Bool)) → HasNoRelation matrix kernel → AreOfNone matrix image kernel
by_relation matrix image kernel bad r is same_image same_kernel =
    let basis = kernel_basis matrix r kernel is same_kernel in
    bad.2 ((basis.spans_kernel (row kernel bad.0)).1 (row-IsInSpan (length matrix.rows) kernel bad.0 basis.widths bad.1))

pub by_row : (matrix : Rows) (image kernel : List (List Bool)) → HasOtherRow matrix image → AreOfNone matrix image kernel
by_row matrix image kernel bad r is same_image same_kernel =
    let basis : IsRowBasis matrix.cols matrix.rows image = subst (IsRowBasis matrix.cols matrix.rows) (sym is.image ∙ same_image) (image_is_row_basis matrix.cols matrix.rows is.form is.widths is.is_form) in
    bad.2 ((basis.same_span (row matrix.rows bad.0)).0 (row-IsInSpan matrix.cols matrix.rows bad.0 is.widths bad.1))

pub by_other_relation : (matrix : Rows) (image kernel : List (List Bool)) → HasOtherRelation matrix kernel → AreOfNone matrix image kernel
by_other_relation matrix image kernel bad r is same_image same_kernel =
    let basis = kernel_basis matrix r kernel is same_kernel in
    bad.2 ((basis.spans_kernel bad.0).0 bad.1)

pub by_count : PartsAreReduction → (matrix : Rows) (image kernel : List (List Bool)) → (length image + length kernel ≡ length matrix.rows → ⊥) → AreOfNone matrix image kernel
by_count law matrix image kernel differ r is same_image same_kernel =
    let whole : IsReductionOf matrix.cols matrix.rows (record { cols = matrix.cols; height = length matrix.rows; image = r.image; chosen = r.chosen; kernel = r.kernel }) =
    record { widths = is.widths; form = is.form; is_form = is.is_form; cols = refl; height = refl; image = is.image; chosen = is.chosen; kernel = is.kernel } in
    let count = ((law matrix.cols matrix.rows r.image r.chosen r.kernel is.widths).1 whole).rank_and_nullity in
    let a = ap length same_image in
    let b = ap length same_kernel in
    differ (omega arith)

-- ---- a square of a table

pub inexact_from : (table : Staircase) (s n : ℕ) (t : ℤ) (matrix : Rows) (image kernel : List (List Bool)) → IsMatrixAt table s t matrix → t ≡ bottom_of table.resolved +ℤ pos n → kernel ≡ (content_at table.rows s n).kernel → image ≡ covered_at table s n → AreOfNone matrix image kernel → IsInexactAt table s t
inexact_from table s n t matrix image kernel is degree is_kernel is_image none = λ r k at quasi same_kernel same_image.
    let m = over table.resolved in
    let rows = plain_rows table.rows in
    let d = is.degree in
    let e = quasi.degree in
    let here : k ≡ n = omega (arith, ints, degree, at) in
    let place : quasi.above ≡ is.above = omega (arith, ints, d, e) in
    let P : ℕ → Type 0 = λ j. IsReductionOf (target_width m (below_of rows s j) (take j (row_of rows s))) (square_matrix m (below_of rows s j) (take j (row_of rows s)) (content_at table.rows s j)) r in
    let moved : P is.above = subst P place quasi.quasi in
    let square = square_matrix m (below_of rows s is.above) (take is.above (row_of rows s)) (content_at table.rows s is.above) in
    let one : IsReductionOf matrix.cols square r = subst (λ (w : ℕ). IsReductionOf w square r) (sym is.cols) moved in
    let reduction : IsReductionOf matrix.cols matrix.rows r = subst (λ (x : List (List Bool)). IsReductionOf matrix.cols x r) (sym is.rows) one in
    none r reduction (same_image ∙ ap (covered_at table s) here ∙ sym is_image) (same_kernel ∙ ap (λ (j : ℕ). (content_at table.rows s j).kernel) here ∙ sym is_kernel)

-- the kernel rows are those of the square there
pub inexact_there : (table : Staircase) (s : ℕ) (t : ℤ) (q : Placed) (matrix : Rows) (image : List (List Bool)) → square_at table s t ≡ Some q → (is : IsMatrixAt table s t matrix) → image ≡ covered_at table s is.above → AreOfNone matrix image q.content.kernel → IsInexactAt table s t
inexact_there table s t q matrix image found is is_image none =
    let there : slice_get (row_in table.rows s) is.above ≡ Some q = sym (square_at-above table s is.above t is.degree) ∙ found in
    inexact_from table s is.above t matrix image q.content.kernel is is.degree (sym (ap (λ (c : Content). c.kernel) (content_at-is table.rows s is.above q there))) is_image none

-- row 0, where d_s has to cover the module
pub inexact_first : PartsAreReduction → (table : Staircase) (s n : ℕ) (t : ℤ) (q : Placed) (matrix : Rows) → s ≡ 0 → square_at table s t ≡ Some q → IsMatrixAt table s t matrix → n ≡ (over table.resolved).graded.width t → (n + length q.content.kernel ≡ length matrix.rows → ⊥) → IsInexactAt table s t
inexact_first law table s n t q matrix first found is width differ =
    let m = over table.resolved in
    let image : List (List Bool) = unit_vectors (m.graded.width (bottom_of table.resolved +ℤ pos is.above)) in
    let is_image : image ≡ covered_at table s is.above = subst (λ (i : ℕ). image ≡ covered_at table i is.above) (sym first) refl in
    let many : length image ≡ n = length-unit_vectors (m.graded.width (bottom_of table.resolved +ℤ pos is.above)) ∙ ap m.graded.width (sym is.degree) ∙ sym width in
    inexact_there table s t q matrix image found is is_image (by_count law matrix image q.content.kernel (λ sum. differ (ap (λ (x : ℕ). x + length q.content.kernel) (sym many) ∙ sum)))

-- a row behind it, where d_s has to cover the kernel of the square below
pub inexact_behind : (table : Staircase) (s i k : ℕ) (t : ℤ) (q below : Placed) (matrix : Rows) (image : List (List Bool)) → s ≡ suc i → t ≡ bottom_of table.resolved +ℤ pos k → square_at table s t ≡ Some q → slice_get (row_in table.rows i) k ≡ Some below → IsMatrixAt table s t matrix → image ≡ below.content.kernel → AreOfNone matrix image q.content.kernel → IsInexactAt table s t
inexact_behind table s i k t q below matrix image next degree found under is is_image none =
    let d = is.degree in
    let place : k ≡ is.above = omega (arith, ints, d, degree) in
    let covered : (content_at table.rows i k).kernel ≡ below.content.kernel = ap (λ (c : Content). c.kernel) (content_at-is table.rows i k below under) in
    let is_covered : image ≡ covered_at table s is.above =
    subst (λ (j : ℕ). image ≡ covered_at table j is.above) (sym next) (is_image ∙ sym covered ∙ ap (λ (j : ℕ). (content_at table.rows i j).kernel) place) in
    inexact_there table s t q matrix image found is is_covered none
