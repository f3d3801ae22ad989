use Rattle.std.proofs.lemmas.Result.{IfOk-weaker}
use Rattle.yoneda.proofs.Lifted.{lift_at}
use Rattle.massey.specs.Inside.{far_of}
use Rattle.massey.proofs.Causes.{class_there}
use Rattle.massey.proofs.making.lift_of_b.Goals as goal

pub lift-requires-clause-class : goal.lift-requires-clause-class
lift-requires-clause-class c = class_there c.args.setting.now.sphere.now (far_of c.args.setting.now.places) c.requires.setting.through_sphere c.args.b c.args.setting.now.places.b c.requires.class

pub returns : goal.returns
returns c = IfOk-weaker c.lift.result _ _ (λ lift l. lift_at c.args.setting.now.sphere.now c.args.setting.now.sphere.now (far_of c.args.setting.now.places) c.args.b c.args.setting.now.places.b c.args.setting.now.places.a.s lift c.requires.class l) (c.lift.ensures c.args.setting.now.places.b.above c.requires.class.degree)
