use Rattle.std.proofs.Common.{◌≡◌, ◌+◌, take, ◌∙◌, ap, sym, refl, arith}
use Rattle.std.proofs.lemmas.Int.{ints}
use Rattle.std.specs.Arc.{arc_value}
use Rattle.finite_module.specs.Module.{bottom}
use Rattle.finite_module.specs.Checked.{Checked}
use Rattle.resolution_laws.proofs.Rows.{IsWithinReach-row}
use Rattle.square.specs.Tables.{Footing, contents}
use Rattle.square.proofs.Targets.{row_held_below, row_target, module_target}
use Rattle.square.proofs.inputs.Inputs.below.Goals as goal
use Rattle.square.specs.Squares.{bottom_of}

pub returns-then-self-eq0-clause-graded : goal.returns-then-self-eq0-clause-graded
returns-then-self-eq0-clause-graded c =
    module_target _ c.args.self.now c.self.invariant.0 c.self.view_is c.if-self-eq0.true c.module.result.now (c.module.ensures ∙ sym (ap (λ (f : Footing). f.resolved) c.self.view_is))

pub generators-requires-clause-within : goal.generators-requires-clause-within
generators-requires-clause-within c =
    let some = c.if-self-eq0.false in
    let row = row_held_below _ c.self.invariant.0 c.self.inside.below.squares refl (omega arith) in
    let len = row.count in
    omega arith

pub generators-requires-clause-few : goal.generators-requires-clause-few
generators-requires-clause-few c = let most = c.self.invariant.0.degree in omega arith

pub returns-clause-graded : goal.returns-clause-graded
returns-clause-graded c =
    let some = c.if-self-eq0.false in
    let low : c.bottom.result ≡ bottom (arc_value c.self.inside.module).plain.generators = c.bottom.ensures.bottom ∙ ap (λ (m : Checked). bottom_of m) c.deref.ensures in
    row_target _ c.args.self.now c.self.invariant.0 c.self.view_is c.self.inside.below.squares _ (c.self.inside.above + 1) c.in_ok-gens.gens refl (omega arith) (omega (arith, ints, c.bottom.ensures.lowest, c.bottom.ensures.highest)) refl c.in_ok-gens.ensures

pub returns-clause-reaches : goal.returns-clause-reaches
returns-clause-reaches c max k l =
    let low : c.bottom.result ≡ bottom (arc_value c.self.inside.module).plain.generators = c.bottom.ensures.bottom ∙ ap (λ (m : Checked). bottom_of m) c.deref.ensures in
    let same = ap (λ (f : Footing). bottom_of f.resolved) c.self.view_is in
    IsWithinReach-row _ (take (c.self.inside.above + 1) (contents c.self.inside.below.squares)) k max c.in_ok-gens.gens _ (omega (arith, ints, c.bottom.ensures.lowest, c.bottom.ensures.highest)) c.in_ok-gens.ensures l
