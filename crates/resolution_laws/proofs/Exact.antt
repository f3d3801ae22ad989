-- The table is exact: the step's candidates span what d_s has to cover, and each is in the span of its rows.
use Rattle.std.proofs.Common.{◌≡◌, ℕ, zero, suc, ◌<◌, ◌≤◌, Bool, pos, ◌+ℤ◌, List, length, sym, ◌∙◌, ap, subst, arith}
use Rattle.f2_vec.specs.Spans.{row, combination, IsInSpan, IsInKernel, unit_vectors}
use Rattle.f2_vec.proofs.Spans.{length-IsInSpan, combination-IsInSpan, span_within}
use Rattle.f2_vec.proofs.Split.{combination-unit_vectors}
use Rattle.free_module.specs.FreeModule.{free_width}
use Rattle.resolution_laws.specs.Resolution.{Module, Content, square_in, row_of}
use Rattle.resolution_laws.specs.Exactness.{degrees_in, target_of, differential, IsExactAt}
use Rattle.resolution_laws.proofs.Chosen.{candidate-IsInSpan}
use Rattle.resolution_laws.proofs.Squares.{IsResolved, old_rows, candidates_of, square_at}
use Rattle.resolution_laws.proofs.Complex.{length-differential, HaveWidth-differential, is_complex}

-- the candidates of a square are in the span of d_s
candidate-IsCovered : (m : Module) (s t : ℕ) (table : List (List Content)) → IsResolved m s t table → (i k : ℕ) → i ≤ s → k ≤ t → (j : ℕ) → j < length (candidates_of m table i k) → IsInSpan ((target_of m table i).width (m.bottom +ℤ pos k)) (differential m table i (m.bottom +ℤ pos k)) (row (candidates_of m table i k) j)
candidate-IsCovered m s t table p i k h l j b =
    let n = (target_of m table i).width (m.bottom +ℤ pos k) in
    let square = square_at m s t table p i k h l in
    subst (λ (z : List (List Bool)). IsInSpan n z (row (candidates_of m table i k) j)) (sym square.rows) (candidate-IsInSpan n (old_rows m table i k) (candidates_of m table i k) (square_in (row_of table i) k).images square.old_widths square.candidate_widths square.chosen j b)

pub is_exact : (m : Module) (s t : ℕ) (table : List (List Content)) → IsResolved m s t table → (i k : ℕ) → i ≤ s → k ≤ t → IsExactAt m table i (m.bottom +ℤ pos k)
is_exact m s t table p zero k h l = λ v e.
    let u = m.bottom +ℤ pos k in
    let n = m.graded.width u in
    let rows = differential m table 0 u in
    subst (IsInSpan n rows) (combination-unit_vectors n v e) (combination-IsInSpan n v (unit_vectors n) rows (HaveWidth-differential m s t table p 0 u h) (candidate-IsCovered m s t table p 0 k h l))
is_exact m s t table p (suc i) k h l = λ v.
    let u = m.bottom +ℤ pos k in
    let n = (target_of m table i).width u in
    let w = free_width (degrees_in m table i) u in
    let below = differential m table i u in
    let rows = differential m table (suc i) u in
    let kernel = candidates_of m table (suc i) k in
    let wide = HaveWidth-differential m s t table p (suc i) u h in
    let len : length below ≡ w = length-differential m table i u in
    let covered : IsInSpan w kernel v → IsInSpan w rows v = span_within w kernel rows wide (candidate-IsCovered m s t table p (suc i) k h l) v in
    let into : IsInKernel n below v → IsInSpan w rows v = λ r. covered (subst (λ (z : ℕ). IsInSpan z kernel v) len (((square_at m s t table p i k (omega arith) l).kernel.spans_kernel v).0 r)) in
    let back : IsInSpan w rows v → IsInKernel n below v = λ r. record {
      one_each = length-IsInSpan w rows v wide r ∙ sym len;
      vanishes = ap (λ (z : List Bool). combination n z below) (sym r.sum) ∙ is_complex m s t table p i u h r.coefficients (r.one_each ∙ length-differential m table (suc i) u);
    } in
    (into, back)
