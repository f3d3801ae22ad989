use Rattle.std.proofs.Common.{refl, ap, ◌∙◌, arith}
use Rattle.std.specs.Arc.{arc_value}
use Rattle.std.specs.List.{slice_get}
use Rattle.square.proofs.Targets.{square_there, no_square_below}
use Rattle.square.proofs.inputs.Inputs.square_below.Goals as goal
use Rattle.square.proofs.Looking.{twice}

pub returns-then-self-eq0 : goal.returns-then-self-eq0
returns-then-self-eq0 c = no_square_below _ c.args.self.now c.self.invariant.0 c.self.view_is c.if-self-eq0.true

pub returns : goal.returns
returns c =
    let some = c.if-self-eq0.false in
    let there = c.get.ensures ∙ ap (slice_get c.self.inside.below.squares) c.from.ensures in
    twice c.get.result (λ a. arc_value a.now) ∙ square_there _ c.args.self.now c.self.invariant.0 c.self.view_is c.self.inside.below.squares _ refl (omega arith) there
