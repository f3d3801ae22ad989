-- The bits begin clear, so those that are set at the end are the odd coefficients.
use Rattle.std.proofs.Common.{◌≡◌, ℕ, length, List, Bool, false, slice_index_or, ap, subst, ◌∙◌}
use Rattle.f2_vec.proofs.Sums.{length-zeros, bit-zeros}
use Rattle.milnor_basis.specs.Basis.{basis_of}
use Rattle.milnor_basis.specs.Inside.Walk.{TurnsOver}
use Rattle.milnor_basis.proofs.ProductTerms.{bits_are}
use Rattle.milnor_basis.proofs.product.coefficients.Goals as goal

pub returns : goal.returns
returns c =
    let r : List ℕ = c.args.r.now in let s : List ℕ = c.args.s.now in
    let before : List Bool = c.in_ok-bits.bits in let after : List Bool = c.fill.new.bits in
    let degree : ℕ = c.product_degree-degree.result in
    let n : ℕ = length c.of_degree.result.now in
    let count : length before ≡ length (basis_of degree) = ap length c.in_ok-bits.ensures ∙ length-zeros n ∙ ap length c.of_degree.ensures in
    let turns_rows : TurnsOver degree (length s) c.len-height.result (length s) c.of.result.rows c.of.result.columns c.of.result.diagonals before after =
    subst (λ (w : ℕ). TurnsOver degree w c.len-height.result w c.of.result.rows c.of.result.columns c.of.result.diagonals before after) c.len-width.ensures.length c.fill.ensures.turned in
    let turns : TurnsOver degree (length s) (length r) (length s) c.of.result.rows c.of.result.columns c.of.result.diagonals before after =
    subst (λ (h : ℕ). TurnsOver degree (length s) h (length s) c.of.result.rows c.of.result.columns c.of.result.diagonals before after) c.len-height.ensures.length turns_rows in
    bits_are r s c.of.result.rows c.of.result.columns c.of.result.diagonals degree before after c.len-height.ensures.short c.len-width.ensures.short
    c.of.ensures.rows c.of.ensures.columns c.of.ensures.diagonals c.product_degree-degree.ensures.sum count c.fill.ensures.size
    (λ k l. ap (λ bits. slice_index_or bits k false) c.in_ok-bits.ensures ∙ bit-zeros n k) turns
