use Rattle.std.proofs.Common.{◌≡◌, ℤ, pos, ◌+ℤ◌, w32, to_z, of_z, FitsSigned, ◌∙◌, sym, subst, rules}
use Rattle.std.proofs.lemmas.Int.{to_z-of_z}
use Rattle.std.proofs.lemmas.Result.{IfOk-weaker}
use Rattle.resolution_laws.proofs.Rows.{IsWithinReach-row}
use Rattle.square.specs.Below.{graded_of, reaches_of}
use Rattle.resolution_step.proofs.Footings.{AreImages-given, HaveWidth-given, IsReduced-given, HasNoZeroRow-given, IsStepWith_from_reduced}
use Rattle.resolution_step.proofs.step_on.parts_over.Goals as goal
use Rattle.resolution_step.proofs.step_on.parts_over.Goals.{After-as_slice}
use Rattle.square.specs.Squares.{bottom_of}

degree : (c : After-as_slice) → to_z w32 (of_z w32 c.t-t.result) ≡ bottom_of c.args.inputs.now.resolved +ℤ pos c.args.inputs.now.above
degree c =
    let fits : FitsSigned w32 c.t-t.result = search rules in
    to_z-of_z w32 c.t-t.result fits ∙ c.t-t.ensures.t

pub reduced_step-requires-clause-images : goal.reduced_step-requires-clause-images
reduced_step-requires-clause-images c =
    AreImages-given c.args.inputs.now c.t-t.ensures.is_footing (graded_of c.in_ok-target.target) _ _ c.in_ok-target.ensures.graded c.in_ok-source.ensures (c.as_slice.ensures.value ∙ c.in_ok-images.ensures)

pub reduced_step-requires-clause-widths : goal.reduced_step-requires-clause-widths
reduced_step-requires-clause-widths c =
    HaveWidth-given c.args.inputs.now c.t-t.ensures.is_footing (graded_of c.in_ok-target.target) c.args.candidates.now _ c.in_ok-target.ensures.graded c.requires (degree c)

pub reduced_step-requires-clause-reduced : goal.reduced_step-requires-clause-reduced
reduced_step-requires-clause-reduced c = IsReduced-given c.args.inputs.now c.t-t.ensures.is_footing c.args.candidates.now c.requires

pub reduced_step-requires-clause-nonzero : goal.reduced_step-requires-clause-nonzero
reduced_step-requires-clause-nonzero c = HasNoZeroRow-given c.args.inputs.now c.t-t.ensures.is_footing c.args.candidates.now c.requires

pub reduced_step-requires-clause-source_reach : goal.reduced_step-requires-clause-source_reach
reduced_step-requires-clause-source_reach c =
    let f = c.args.inputs.now in
    IsWithinReach-row (bottom_of f.resolved) f.squares f.above c.basis.result.now c.in_ok-source.source _ (degree c) c.in_ok-source.ensures c.basis.ensures.reaches

pub reduced_step-requires-clause-target_reach : goal.reduced_step-requires-clause-target_reach
reduced_step-requires-clause-target_reach c =
    let f = c.args.inputs.now in
    let P : ℤ → Type 0 = reaches_of c.in_ok-target.target c.basis.result.now in
    subst P (sym (degree c)) (c.in_ok-target.ensures.reaches c.basis.result.now f.above c.basis.ensures.reaches)

pub returns-clause-step : goal.returns-clause-step
returns-clause-step c =
    let before = (goal.at.returns-clause-step c).After-as_slice in
    IfOk-weaker c.reduced_step.result _ _ (λ parts p. IsStepWith_from_reduced c.args.inputs.now c.t-t.ensures.is_footing _ _ _ _ _ _ _ c.in_ok-target.ensures.graded c.in_ok-source.ensures (c.as_slice.ensures.value ∙ c.in_ok-images.ensures) c.requires (degree before) p) c.reduced_step.ensures
