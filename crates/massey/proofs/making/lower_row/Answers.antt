use Rattle.massey.specs.Inside.{far_of}
use Rattle.massey.proofs.Values.{lower_there, lower_values}
use Rattle.massey.proofs.making.lower_row.Goals as goal

pub product_by_lift-requires-clause-class : goal.product_by_lift-requires-clause-class
product_by_lift-requires-clause-class c = lower_there c.args.setting.now.table.now c.args.setting.now.sphere.now c.args.setting.now.range (far_of c.args.setting.now.places) c.args.setting.now.places c.requires.setting c.args.l c.args.i c.requires.row c.requires.class

pub product_by_lift-requires-clause-square : goal.product_by_lift-requires-clause-square
product_by_lift-requires-clause-square c = (lower_values c.args.setting.now.table.now c.args.setting.now.sphere.now c.args.setting.now.range (far_of c.args.setting.now.places) c.args.setting.now.places c.requires.setting c.args.beta.now c.args.gamma.now c.requires.lifts c.args.l c.args.i c.requires.row).there

pub product_by_lift-requires-clause-row : goal.product_by_lift-requires-clause-row
product_by_lift-requires-clause-row c = (lower_values c.args.setting.now.table.now c.args.setting.now.sphere.now c.args.setting.now.range (far_of c.args.setting.now.places) c.args.setting.now.places c.requires.setting c.args.beta.now c.args.gamma.now c.requires.lifts c.args.l c.args.i c.requires.row).row

pub product_by_lift-requires-clause-values : goal.product_by_lift-requires-clause-values
product_by_lift-requires-clause-values c = (lower_values c.args.setting.now.table.now c.args.setting.now.sphere.now c.args.setting.now.range (far_of c.args.setting.now.places) c.args.setting.now.places c.requires.setting c.args.beta.now c.args.gamma.now c.requires.lifts c.args.l c.args.i c.requires.row).on_square
