use Rattle.std.proofs.Common.{◌≡◌, ◌∙◌, ap, refl, arith}
use Rattle.std.proofs.lemmas.Int.{ints}
use Rattle.std.proofs.lemmas.List.{length-map}
use Rattle.std.proofs.lemmas.Result.{IfOk-weaker}
use Rattle.std.specs.Arc.{arc_value}
use Rattle.finite_module.specs.Module.{bottom}
use Rattle.finite_module.specs.Checked.{Checked}
use Rattle.square.specs.Squares.{content_of, bottom_of}
use Rattle.square.proofs.Targets.{gens_given}
use Rattle.square.proofs.inputs.Inputs.generators.Goals as goal

pub generators-requires-clause-within : goal.generators-requires-clause-within
generators-requires-clause-within c =
    let len = c.self.invariant.0.length_is in
    let all = length-map c.self.inside.row.squares content_of in
    omega arith

pub generators-requires-clause-few : goal.generators-requires-clause-few
generators-requires-clause-few c = let most = c.self.invariant.0.degree in omega arith

pub returns : goal.returns
returns c =
    let low : c.bottom.result ≡ bottom (arc_value c.self.inside.module).plain.generators = c.bottom.ensures.bottom ∙ ap (λ (m : Checked). bottom_of m) c.deref.ensures in
    IfOk-weaker c.generators.result _ _ (λ gens e. gens_given _ c.args.self.now c.self.invariant.0 c.self.view_is _ c.self.inside.above gens (omega (arith, ints, c.bottom.ensures.lowest, c.bottom.ensures.highest)) refl e) c.generators.ensures
