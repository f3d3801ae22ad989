use Rattle.std.proofs.Common.{◌++◌, [], ◌∷◌, List, Bool, sym, ◌∙◌, ap, arith}
use Rattle.f2_vec.specs.Spans.{unit_vector}
use Rattle.std.proofs.lemmas.List.FromFn.{map-range_with_len_more}
use Rattle.resolution_step.proofs.units.unit_rows.Goals as goal

pub loop-i-preserved : goal.loop-i-preserved
loop-i-preserved c =
    let i = c.loop-i.i in
    c.in_ok-push.ensures.items
    ∙ ap (λ (v : List Bool). c.loop-i.rows.items ++ v ∷ []) c.in_ok-unit.ensures
    ∙ ap (λ (z : List (List Bool)). z ++ unit_vector c.args.n i ∷ []) c.loop-i.invariant
    ∙ sym (map-range_with_len_more (unit_vector c.args.n) 0 i i (omega arith))
