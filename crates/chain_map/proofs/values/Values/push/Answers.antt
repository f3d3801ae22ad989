use Rattle.std.proofs.Common.{◌<◌, List, Bool, length, ap, sym, subst, ◌∙◌}
use Rattle.chain_map.specs.Inside.{with_value, by_square, AreInOrder}
use Rattle.chain_map.proofs.Squares.{by_square-pushed, order-pushed}
use Rattle.chain_map.proofs.values.Values.push.Goals as goal

pub invariant_of-self-2 : goal.invariant_of-self-2
invariant_of-self-2 c =
    let inside = c.self.inside in
    let some = subst (λ (z : List (List (List Bool))). 0 < length z) (sym c.self.view_is) c.requires in
    let firsts = inside.firsts.items in
    (c.self.invariant.0, subst (λ (z : List (List Bool)). AreInOrder firsts (length z)) (sym c.in_ok-push.ensures.items) (order-pushed firsts inside.vectors.items c.args.value c.self.invariant.1 some))

pub returns-clause-ok : goal.returns-clause-ok
returns-clause-ok c =
    let inside = c.self.inside in
    let some = subst (λ (z : List (List (List Bool))). 0 < length z) (sym c.self.view_is) c.requires in
    ap (by_square inside.firsts.items) c.in_ok-push.ensures.items
    ∙ (by_square-pushed inside.firsts.items inside.vectors.items c.args.value c.self.invariant.0 c.self.invariant.1 some ∙ ap (λ (z : List (List (List Bool))). with_value z c.args.value) c.self.view_is)
