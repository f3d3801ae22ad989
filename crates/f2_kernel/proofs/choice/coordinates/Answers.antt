use Rattle.std.proofs.Common.{ℕ, Bool, List, map, reverse, ap, ◌∙◌}
use Rattle.std.proofs.lemmas.Result.{IfOk-weaker}
use Rattle.f2_vec.proofs.Combinations.{map-map}
use Rattle.f2_matrix.specs.Preimages.{pivot_of}
use Rattle.f2_choice.specs.Inside.Columns.{column}
use Rattle.f2_choice.specs.Inside.Columns.{columns_at}
use Rattle.f2_kernel.proofs.choice.coordinates.Goals as goal

pub returns : goal.returns
returns c =
    let cs = c.args.below.now.rows in
    let rows = c.args.matrix.now.rows in
    let f : ℕ → List Bool = λ p. column p (reverse rows) in
    IfOk-weaker c.columns_at.result _ _
    (λ form e.
    e
    ∙ ap (λ z. columns_at z (map (λ v. v.now) c.as_slice.result.now)) c.pivots.ensures
    ∙ ap (λ (z : List (List Bool)). columns_at (map pivot_of cs) z) (ap (map (λ v. v.now)) c.as_slice.ensures.value ∙ c.in_ok-rows.ensures ∙ ap reverse c.rows.ensures.rows)
    ∙ map-map f pivot_of cs)
    c.columns_at.ensures
