-- That rows of one width have an echelon form, a reduction and the two reduced bases, and that membership in their span is
-- decidable. (With rows of unequal lengths sums are cut, a kernel need not be a subspace, and it may have no basis.)
use Rattle.std.specs.Prelude.{◌⊎◌, ℕ, Bool, List}
use Rattle.f2_vec.specs.Spans.{HaveWidth, IsInSpan}
use Rattle.f2_matrix.specs.Echelon.{IsEchelonForm, IsRowBasis, IsKernelBasis}
use Rattle.f2_matrix.specs.Reduction.{Reduction, IsReductionOf}

abbrev pub EchelonFormExists : Type 0
EchelonFormExists = (n : ℕ) (xs : List (List Bool)) → HaveWidth n xs →
    (rows : List (List Bool)) × IsEchelonForm n xs rows

abbrev pub ReductionExists : Type 0
ReductionExists = (n : ℕ) (xs : List (List Bool)) → HaveWidth n xs →
    (reduction : Reduction) × IsReductionOf n xs reduction

abbrev pub RowBasisExists : Type 0
RowBasisExists = (n : ℕ) (xs : List (List Bool)) → HaveWidth n xs → (rows : List (List Bool)) × IsRowBasis n xs rows

abbrev pub KernelBasisExists : Type 0
KernelBasisExists = (n : ℕ) (xs : List (List Bool)) → HaveWidth n xs →
    (rows : List (List Bool)) × IsKernelBasis n xs rows

-- a vector, of any length, is in the span, or it is not
abbrev pub SpanIsDecidable : Type 0
SpanIsDecidable = (n : ℕ) (xs : List (List Bool)) (v : List Bool) → HaveWidth n xs →
    IsInSpan n xs v ⊎ (IsInSpan n xs v → ⊥)
