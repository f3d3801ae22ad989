use Rattle.std.proofs.Common.{Bool, List, ap, ◌∙◌}
use Rattle.lift_laws.specs.Products.{product_by}
use Rattle.chain_map.specs.Lifting.{LiftValues, resolution_of, map_of}
use Rattle.yoneda.specs.Products.{class_above}
use Rattle.yoneda.proofs.Lifted.{rows_more}
use Rattle.yoneda.proofs.multiply.products_by.Goals as goal

pub loop-lift-preserved : goal.loop-lift-preserved
loop-lift-preserved c =
    let f : LiftValues → List Bool = λ lift. product_by (resolution_of c.args.table.now) (resolution_of c.args.sphere.now) (class_above c.args.a) (map_of lift) c.args.s c.args.above in
    rows_more f c.args.lifts.now c.loop-lift.lift-index c.lift-item.result c.loop-lift.rows.items c.push.new.self.items c.in_ok-product_by_lift.field-0 c.loop-lift-test.true c.loop-lift.invariant (c.in_ok-product_by_lift.ensures ∙ ap f c.lift-item.is) c.in_ok-push.ensures.items
