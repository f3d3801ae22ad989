use Rattle.std.proofs.Common.{◌≡◌, Bool, List, ℕ, length, ap, sym, subst, ◌∙◌, arith, inl, inr}
use Rattle.std.proofs.lemmas.Bool.{cases_lt, eqb-true, eq-eqb}
use Rattle.std.proofs.lemmas.List.{length-map}
use Rattle.f2_matrix.specs.Echelon.{IsKernelBasis}
use Rattle.f2_matrix.specs.Preimages.{pivot_of}
use Rattle.chart_rows.proofs.Looking.{independent_if, dependent_if}
use Rattle.chart_rows.proofs.place.are_independent.Goals as goal

pub returns : goal.returns
returns c =
    let q = c.args.square.now in
    let rows = c.in_ok-kernel.kernel.rows in
    let places = c.pivots.result.now in
    let cols = c.from_rows.ensures.cols ∙ c.width.ensures in
    let images = c.from_rows.ensures.rows ∙ c.in_ok-images.ensures ∙ c.images.ensures.images in
    let basis : IsKernelBasis q.width q.images rows =
    subst (λ (n : ℕ). IsKernelBasis n q.images rows) cols (subst (λ (xs : List (List Bool)). IsKernelBasis c.from_rows.result.cols xs rows) images c.in_ok-kernel.ensures.kernel) in
    let count : length places ≡ length rows = ap length c.pivots.ensures ∙ length-map rows pivot_of in (
      λ y. independent_if q rows basis (sym count ∙ eqb-true (length places) 0 (sym c.is_empty.ensures ∙ y)),
      λ h. elim (cases_lt 0 (length rows)) [
        | inl some ↦ absurd (dependent_if q rows basis some h)
        | inr none ↦ c.is_empty.ensures ∙ eq-eqb (length places) 0 (omega arith)
      ],
    )
