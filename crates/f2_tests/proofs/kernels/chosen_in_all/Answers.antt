use Rattle.std.proofs.Common.{◌≡◌, Bool, List, length, ap, sym, subst, ◌∙◌}
use Rattle.f2_vec.specs.Spans.{row, IsInSpan, unit_vectors}
use Rattle.f2_vec.proofs.Split.{length-unit_vectors, combination-unit_vectors}
use Rattle.f2_tests.proofs.kernels.chosen_in_all.Goals as goal

-- each vector is a sum of unit vectors
pub choose-requires-clause-covered : goal.choose-requires-clause-covered
choose-requires-clause-covered c = λ i l.
    let n = c.args.matrix.now.cols in
    let v = row c.args.matrix.now.rows i in
    let width : length v ≡ n = c.rows-rows.ensures.widths i l in
    let all : c.in_ok-all.all.rows ≡ unit_vectors n = c.in_ok-all.ensures.rows ∙ ap unit_vectors c.cols.ensures in
    subst (λ (z : List (List Bool)). IsInSpan n z v) (sym all) (record { coefficients = v; one_each = width ∙ sym (length-unit_vectors n); sum = combination-unit_vectors n v width })
