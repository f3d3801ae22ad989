-- To compare rows decides exactness, and to look at them decides need.
use Rattle.std.proofs.Common.{◌≡◌, ◌↔◌, ℕ, zero, suc, ◌≤◌, Bool, pos, ◌+ℤ◌, List, length, take, refl, sym, ◌∙◌, ap, subst, arith}
use Rattle.std.proofs.lemmas.List.{get_or-take}
use Rattle.f2_vec.specs.Vectors.{bit}
use Rattle.f2_vec.specs.Spans.{row, HaveWidth, IsInSpan, IsInKernel, unit_vectors}
use Rattle.f2_vec.proofs.Spans.{length-IsInSpan, row-IsInSpan, bit-combination_zero}
use Rattle.f2_vec.proofs.Split.{length-unit_vectors, HaveWidth-unit_vectors, combination-unit_vectors}
use Rattle.f2_matrix.specs.Echelon.{IsRowBasis, IsKernelBasis}
use Rattle.f2_matrix.specs.Rank.{SpanAll}
use Rattle.f2_matrix.specs.Reduction.{Reduction}
use Rattle.f2_matrix.proofs.Parts.{image_is_row_basis}
use Rattle.f2_matrix.proofs.Unique.{row_basis_unique}
use Rattle.f2_choice.proofs.Step.{reduction_kernel}
use Rattle.f2_choice.proofs.Units.{IsReduced-unit_vectors, HasNoZeroRow-unit_vectors}
use Rattle.free_module.specs.FreeModule.{free_width}
use Rattle.resolution_laws.specs.Resolution.{Module, Content, no_content, square_in, row_of}
use Rattle.resolution_laws.specs.Exactness.{degrees_in, target_of, differential}
use Rattle.resolution_laws.proofs.Complex.{length-differential}
use Rattle.certificate_laws.specs.Certificates.{IsReductionAt, HasKernelAt, RowsDecideExactness, RowsDecideNeed, CertifiedTableIsMinimal}

-- ---- the unit vectors are the reduced basis of all vectors

units_span : (n : ℕ) → SpanAll n (unit_vectors n)
units_span n v e = record { coefficients = v; one_each = e ∙ sym (length-unit_vectors n); sum = combination-unit_vectors n v e }

-- ---- the kernel rows

-- a square with the kernel rows of its reduction has those of its kernel
pub reduction_has_kernel : (m : Module) (table : List (List Content)) (s k : ℕ) (r : Reduction) → IsReductionAt m table s k r → r.kernel ≡ (square_in (row_of table s) k).kernel → HasKernelAt m table s k
reduction_has_kernel m table s k r p same =
    let n = (target_of m table s).width (m.bottom +ℤ pos k) in
    let rows = differential m table s (m.bottom +ℤ pos k) in
    subst (IsKernelBasis n rows) same (reduction_kernel n rows r p)

-- ---- exactness

all_from_units : (n : ℕ) (rows image : List (List Bool)) → IsRowBasis n rows image → image ≡ unit_vectors n → SpanAll n rows
all_from_units n rows image basis e v len = (basis.same_span v).1 (subst (λ (z : List (List Bool)). IsInSpan n z v) (sym e) (units_span n v len))

units_from_all : (n : ℕ) (rows image : List (List Bool)) → HaveWidth n rows → IsRowBasis n rows image → SpanAll n rows → image ≡ unit_vectors n
units_from_all n rows image w basis all =
    row_basis_unique n rows image (unit_vectors n) basis (record {
      widths = HaveWidth-unit_vectors n;
      same_span = λ v. (λ s. units_span n v (length-IsInSpan n rows v w s), λ s. all v (length-IsInSpan n (unit_vectors n) v (HaveWidth-unit_vectors n) s));
      reduced = IsReduced-unit_vectors n;
      nonzero = HasNoZeroRow-unit_vectors n;
    })

-- over a kernel whose vectors are of length w
kernel_over : (n w : ℕ) (below kernel : List (List Bool)) → length below ≡ w → IsKernelBasis n below kernel → (v : List Bool) → IsInKernel n below v ↔ IsInSpan w kernel v
kernel_over n w below kernel e basis v = subst (λ (z : ℕ). IsInKernel n below v ↔ IsInSpan z kernel v) e (basis.spans_kernel v)

exact_from_rows : (n w : ℕ) (below kernel rows image : List (List Bool)) → length below ≡ w → IsKernelBasis n below kernel → IsRowBasis w rows image → image ≡ kernel → (v : List Bool) → IsInKernel n below v ↔ IsInSpan w rows v
exact_from_rows n w below kernel rows image e kb basis same v =
    let over = kernel_over n w below kernel e kb v in
    (λ r. (basis.same_span v).1 (subst (λ (z : List (List Bool)). IsInSpan w z v) (sym same) (over.0 r)), λ s. over.1 (subst (λ (z : List (List Bool)). IsInSpan w z v) same ((basis.same_span v).0 s)))

rows_from_exact : (n w : ℕ) (below kernel rows image : List (List Bool)) → length below ≡ w → IsKernelBasis n below kernel → IsRowBasis w rows image → ((v : List Bool) → IsInKernel n below v ↔ IsInSpan w rows v) → image ≡ kernel
rows_from_exact n w below kernel rows image e kb basis exact =
    row_basis_unique w rows image kernel basis (record {
      widths = subst (λ (z : ℕ). HaveWidth z kernel) e kb.widths;
      same_span = λ v. let over = kernel_over n w below kernel e kb v in (λ s. over.0 ((exact v).1 s), λ s. (exact v).0 (over.1 s));
      reduced = kb.reduced;
      nonzero = kb.nonzero;
    })

pub decide_exactness : RowsDecideExactness
decide_exactness m table zero k r p below =
    let n = m.graded.width (m.bottom +ℤ pos k) in
    let rows = differential m table 0 (m.bottom +ℤ pos k) in
    let basis = subst (IsRowBasis n rows) (sym p.image) (image_is_row_basis n rows p.form p.widths p.is_form) in
    (all_from_units n rows r.image basis, units_from_all n rows r.image p.widths basis)
decide_exactness m table (suc i) k r p below =
    let u = m.bottom +ℤ pos k in
    let n = (target_of m table i).width u in
    let w = free_width (degrees_in m table i) u in
    let under = differential m table i u in
    let rows = differential m table (suc i) u in
    let kernel = (square_in (row_of table i) k).kernel in
    let kb = below i refl in
    let basis = subst (IsRowBasis w rows) (sym p.image) (image_is_row_basis w rows p.form p.widths p.is_form) in
    let len = length-differential m table i u in
    let same : (square_in (take (suc k) (row_of table i)) k).kernel ≡ kernel = ap (λ (c : Content). c.kernel) (get_or-take (suc k) (row_of table i) k no_content (omega arith)) in
    (λ e. exact_from_rows n w under kernel rows r.image len kb basis (e ∙ same), λ x. rows_from_exact n w under kernel rows r.image len kb basis x ∙ sym same)

-- ---- need

pub decide_need : RowsDecideNeed
decide_need m table s k kb =
    let u = m.bottom +ℤ pos k in
    let n = length (differential m table s u) in
    let kernel = (square_in (row_of table s) k).kernel in (
      λ clear v relation j b is.
          let x = (kb.spans_kernel v).0 relation in
          sym (ap (λ (z : List Bool). bit z j) x.sum) ∙ bit-combination_zero n x.coefficients kernel j kb.widths (λ g c. clear g j c b is),
      λ needed i j a b is. needed (row kernel i) ((kb.spans_kernel (row kernel i)).1 (row-IsInSpan n kernel i kb.widths a)) j b is,
    )

-- ---- a whole table

pub certified_is_minimal : CertifiedTableIsMinimal
certified_is_minimal m s t table p each =
    let kernels : (i k : ℕ) → i ≤ s → k ≤ t → HasKernelAt m table i k = λ i k h l. let c = each i k h l in reduction_has_kernel m table i k c.reduction c.is_reduction c.kernel in
    record {
      is_table = p;
      exact = λ i k h l. let c = each i k h l in (decide_exactness m table i k c.reduction c.is_reduction (λ j e. kernels j k (omega arith) l)).0 c.covers;
      needed = λ i k h l. let c = each i k h l in (decide_need m table i k (kernels i k h l)).0 c.clear;
    }
