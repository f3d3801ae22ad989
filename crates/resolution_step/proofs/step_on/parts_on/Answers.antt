use Rattle.std.proofs.Common.{◌≡◌, pos, ◌+ℤ◌, w32, to_z, of_z, FitsSigned, ◌∙◌, sym, rules}
use Rattle.std.proofs.lemmas.Int.{to_z-of_z}
use Rattle.resolution_step.proofs.Footings.{candidates-row, candidates-module}
use Rattle.resolution_step.proofs.step_on.parts_on.Goals as goal
use Rattle.square.specs.Squares.{bottom_of}

pub parts_over-requires : goal.parts_over-requires
parts_over-requires c = candidates-row c.args.inputs.now c.in-Some.kernel (sym c.in-Some.is ∙ c.in_ok-kernel.ensures)

pub parts_over-requires-in-None : goal.parts_over-requires-in-None
parts_over-requires-in-None c =
    let fits : FitsSigned w32 c.t-t.result = search rules in
    let degree : to_z w32 (of_z w32 c.t-t.result) ≡ bottom_of c.args.inputs.now.resolved +ℤ pos c.args.inputs.now.above = to_z-of_z w32 c.t-t.result fits ∙ c.t-t.ensures.t in
    c.in_ok-units-in-None.ensures ∙ (candidates-module c.args.inputs.now (sym c.in-None.is ∙ c.in_ok-kernel.ensures) c.module.result.now _ c.dim_in.result c.module.ensures degree c.dim_in.ensures)
