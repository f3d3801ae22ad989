use Rattle.std.proofs.Common.{◌≤◌, subst, arith}
use Rattle.image_worker.specs.Stocks.{ImagePlace}
use Rattle.image_worker.proofs.Made.{made_last}
use Rattle.image_worker.proofs.inputs.ImageInputs.made.Goals as goal

pub returns-then-self : goal.returns-then-self
returns-then-self c =
    let last = subst (λ (p : ImagePlace). p.subject.range.s ≤ p.s) c.self.view_is (omega (arith, c.if-self.true)) in
    made_last _ _ _ _ _ c.in_ok-images.field-0.kernel last c.in_ok-images.ensures.square
