use Rattle.std.proofs.Common.{◌≡◌, ℤ, w32, to_z, of_z, rules, sym, subst}
use Rattle.chain_map.specs.Lifting.{HasValue}
use Rattle.product_tests.proofs.LiftValues.{has_value}
use Rattle.product_tests.proofs.lifts.value_on.Goals as goal

pub value-requires : goal.value-requires
value-requires c =
    let x = c.in-Ok.ensures.place in
    let t : to_z w32 (of_z w32 c.args.generator.t) ≡ c.args.generator.t = search rules in
    subst (λ (u : ℤ). HasValue c.args.lift.now 1 u c.args.generator.i) (sym t)
    (has_value c.args.table.now c.args.sphere.now c.args.range c.requires.through c.requires.sphere c.args.class c.args.generator c.in-Ok.field-0 c.in-Ok-place_of.field-0 c.args.lift.now x c.in-Ok-place_of.ensures.place c.requires.row (c.requires.lift c.in-Ok.field-0.above x.degree))
