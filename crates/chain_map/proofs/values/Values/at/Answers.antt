use Rattle.std.proofs.Common.{◌≡◌, ℕ, ◌+◌, ◌<◌, List, Bool, [], length, get_or, ap, sym, subst, ◌∙◌, arith}
use Rattle.std.proofs.lemmas.List.{get_or_default}
use Rattle.f2_vec.specs.Spans.{row}
use Rattle.chain_map.specs.Lifting.{square_values}
use Rattle.chain_map.proofs.Squares.{IsStored, is_stored}
use Rattle.chain_map.proofs.values.Values.at.Goals as goal
use Rattle.chain_map.proofs.values.Values.at.Goals.{After-self, After-index}

-- where the value is in the list
stored : (c : After-self) → IsStored c.self.inside.firsts.items c.self.inside.vectors.items c.args.above c.args.i
stored c =
    let inside = c.self.inside in
    is_stored inside.firsts.items inside.vectors.items c.args.above c.args.i c.self.invariant.0 c.self.invariant.1 (subst (λ (z : List (List (List Bool))). c.args.i < length (square_values z c.args.above)) (sym c.self.view_is) c.requires)

first-at : (c : After-index) → IsStored c.self.inside.firsts.items c.self.inside.vectors.items c.args.above c.args.i → c.index.result.now ≡ get_or c.self.inside.firsts.items c.args.above 0
first-at c is = c.index.ensures ∙ get_or_default c.self.inside.firsts.items c.args.above c.index.result.now 0 is.square

pub index-requires : goal.index-requires
index-requires c =
    let is = stored ((goal.at.index-requires c).After-self) in
    omega (arith, c.self.inside.firsts.ok, is.square)

pub overflow_add-index : goal.overflow_add-index
overflow_add-index c =
    let is = stored ((goal.at.overflow_add-index c).After-self) in
    omega (arith, c.self.inside.vectors.ok, is.there, first-at ((goal.at.overflow_add-index c).After-index) is)

pub index-requires-2 : goal.index-requires-2
index-requires-2 c =
    let is = stored ((goal.at.index-requires-2 c).After-self) in
    omega (arith, c.self.inside.vectors.ok, is.there, first-at ((goal.at.index-requires-2 c).After-index) is)

pub returns : goal.returns
returns c =
    let is = stored ((goal.at.returns c).After-self) in
    let at = first-at ((goal.at.returns c).After-index) is in
    let vectors = c.self.inside.vectors.items in
    c.index-2.ensures
    ∙ (get_or_default vectors (c.index.result.now + c.args.i) c.index-2.result.now [] (omega (arith, is.there))
    ∙ (ap (λ (n : ℕ). row vectors (n + c.args.i)) at ∙ (is.value ∙ ap (λ (z : List (List (List Bool))). row (square_values z c.args.above) c.args.i) c.self.view_is)))
