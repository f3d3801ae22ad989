use Rattle.std.proofs.Common.{sym, subst}
use Rattle.square.specs.Squares.{IsSquare}
use Rattle.resolution_step.proofs.Footings.{IsSquare-step}
use Rattle.resolution_step.proofs.step_on.step.Goals as goal

pub returns-clause-is_square : goal.returns-clause-is_square
returns-clause-is_square c =
    let parts = c.in_ok-parts.parts in
    subst IsSquare (sym c.reduced.ensures) (IsSquare-step c.args.inputs.now (record { images = parts.images.items; kernel = parts.quasi.kernel }) parts.quasi c.parts_on.ensures.is_footing c.in_ok-parts.ensures.step)
