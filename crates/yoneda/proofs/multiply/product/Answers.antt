use Rattle.std.proofs.Common.{arith}
use Rattle.yoneda.proofs.Lifted.{lift_at, has_row}
use Rattle.yoneda.proofs.OneProduct.{place_there, product_by_lift}
use Rattle.yoneda.proofs.multiply.product.Goals as goal

pub product_by_lift-requires-clause-values : goal.product_by_lift-requires-clause-values
product_by_lift-requires-clause-values c =
    let p = c.in_ok-first.ensures.places in
    let a = c.in_ok-first.first in
    let x = c.in_ok-first.second in
    let lifted = lift_at c.args.table.now c.args.sphere.now c.args.range c.args.x x a.s c.in_ok-lift.lift p.x_is (c.in_ok-lift.ensures x.above p.x_is.degree) in
    (has_row c.args.table.now c.args.sphere.now c.args.range c.requires.table c.requires.sphere a x a.s c.in_ok-lift.lift (place_there c.args.sphere.now c.args.range c.args.a a c.requires.sphere_table p.a_is).square (omega (arith, p.row_within)) p.degree_within (omega arith) lifted).on_square

pub returns-clause-product : goal.returns-clause-product
returns-clause-product c =
    let p = c.in_ok-first.ensures.places in
    let a = c.in_ok-first.first in
    let x = c.in_ok-first.second in
    let lifted = lift_at c.args.table.now c.args.sphere.now c.args.range c.args.x x a.s c.in_ok-lift.lift p.x_is (c.in_ok-lift.ensures x.above p.x_is.degree) in
    product_by_lift c.lifts_give_one_product.ensures c.modules_are_graded_modules.ensures
    c.args.table.now c.args.sphere.now c.in_ok-first.ensures.is_table c.in_ok-first.ensures.is_sphere_table c.args.range c.requires.table c.requires.sphere a x (place_there c.args.sphere.now c.args.range c.args.a a c.requires.sphere_table p.a_is) p.row_within p.degree_within c.in_ok-lift.lift lifted c.in_ok-product.product c.in_ok-product.ensures c.args.a c.args.x p
