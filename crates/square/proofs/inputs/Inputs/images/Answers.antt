use Rattle.std.proofs.Common.{refl, arith}
use Rattle.std.proofs.lemmas.List.{length-map}
use Rattle.std.proofs.lemmas.Result.{IfOk-weaker}
use Rattle.square.specs.Squares.{content_of}
use Rattle.square.proofs.Targets.{images_given}
use Rattle.square.proofs.inputs.Inputs.images.Goals as goal

pub images-requires : goal.images-requires
images-requires c =
    let len = c.self.invariant.0.length_is in
    let all = length-map c.self.inside.row.squares content_of in
    omega arith

pub returns : goal.returns
returns c =
    IfOk-weaker c.images.result _ _ (λ images e. images_given _ c.args.self.now c.self.invariant.0 c.self.view_is c.self.inside.above images.items refl e) c.images.ensures
