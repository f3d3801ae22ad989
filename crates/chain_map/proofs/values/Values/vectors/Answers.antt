use Rattle.std.proofs.Common.{List, Bool, ap, sym, ◌∙◌}
use Rattle.chain_map.specs.Lifting.{joined}
use Rattle.chain_map.proofs.Squares.{joined-by_square}
use Rattle.chain_map.proofs.values.Values.vectors.Goals as goal

pub returns : goal.returns
returns c =
    let inside = c.self.inside in
    c.as_slice.ensures.value ∙ (sym (joined-by_square inside.firsts.items inside.vectors.items c.self.invariant.1) ∙ ap (λ (z : List (List (List Bool))). joined z) c.self.view_is)
