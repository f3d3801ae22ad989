use Rattle.std.proofs.Common.{◌≡◌, map, take}
use Rattle.lift_laws.specs.Products.{product_by}
use Rattle.chain_map.specs.Lifting.{resolution_of, map_of}
use Rattle.yoneda.specs.Products.{class_above}
use Rattle.yoneda.proofs.multiply.products_by.Given as goal

abbrev pub invariant-loop-lift : goal.invariant-loop-lift
invariant-loop-lift l = l.rows.items ≡ map (λ lift. product_by (resolution_of l.table) (resolution_of l.sphere) (class_above l.a) (map_of lift) l.s l.above) (take l.lift-index l.lifts)
