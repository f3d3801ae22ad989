-- Why rows are not those of the reduction of a matrix.
use Rattle.std.specs.Prelude.{◌≡◌, ℕ, ◌<◌, Bool, List, length}
use Rattle.f2_vec.specs.Spans.{row, IsInSpan, IsInKernel}
use Rattle.f2_matrix.specs.Reduction.{Rows, Reduction, IsReductionOf}

-- no reduction of the matrix has these image rows and these kernel rows
abbrev pub AreOfNone : Rows → (image kernel : List (List Bool)) → Type 0
AreOfNone matrix image kernel = (r : Reduction) → IsReductionOf matrix.cols matrix.rows r → r.image ≡ image →
    r.kernel ≡ kernel → ⊥

-- one of the vectors is no relation between its rows
abbrev pub HasNoRelation : Rows → List (List Bool) → Type 0
HasNoRelation matrix vectors = (i : ℕ) × (i < length vectors) ×
    (IsInKernel matrix.cols matrix.rows (row vectors i) → ⊥)

-- one of its rows is not in the span of these
abbrev pub HasOtherRow : Rows → List (List Bool) → Type 0
HasOtherRow matrix image = (i : ℕ) × (i < length matrix.rows) × (IsInSpan matrix.cols image (row matrix.rows i) → ⊥)

-- a relation between its rows is not in the span of these
abbrev pub HasOtherRelation : Rows → List (List Bool) → Type 0
HasOtherRelation matrix kernel = (v : List Bool) × IsInKernel matrix.cols matrix.rows v ×
    (IsInSpan (length matrix.rows) kernel v → ⊥)
