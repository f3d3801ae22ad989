use Rattle.std.proofs.Common.{ℕ, ◌+◌, ◌-◌, subst}
use Rattle.std.proofs.lemmas.Result.{IfOk-weaker}
use Rattle.chain_map.specs.Lifting.{IsLiftOver}
use Rattle.yoneda.proofs.Lifted.{lift_at}
use Rattle.massey.proofs.Causes.{class_there}
use Rattle.massey.proofs.making.lift_of_c.Goals as goal

pub lift-requires-clause-class : goal.lift-requires-clause-class
lift-requires-clause-class c = class_there c.args.setting.now.table.now c.args.setting.now.range c.requires.setting.through_table c.args.c c.args.setting.now.places.c c.requires.class

pub returns : goal.returns
returns c = IfOk-weaker c.lift.result _ _ (λ lift l.
    lift_at c.args.setting.now.table.now c.args.setting.now.sphere.now c.args.setting.now.range c.args.c c.args.setting.now.places.c (c.args.setting.now.places.b.s + (c.args.setting.now.places.a.s - 1)) lift c.requires.class
    (subst (λ (k : ℕ). IsLiftOver c.args.setting.now.table.now c.args.setting.now.sphere.now c.args.c.s c.args.setting.now.places.c.above c.args.c.i (c.args.setting.now.places.b.s + k) lift) c.saturating_sub.ensures l)) (c.lift.ensures c.args.setting.now.places.c.above c.requires.class.degree)
