use Rattle.std.proofs.Common.{refl, subst}
use Rattle.bidegree.specs.declared.range.Range.{Range}
use Rattle.square.specs.Tables.{IsThrough}
use Rattle.chain_map.specs.Lifting.{IsCanonicalIn}
use Rattle.ext_products.proofs.OneProduct.{one_refused, one_told}
use Rattle.ext_products.proofs.one_product.one_product_text.Goals as goal

pub returns-in-Ok-clause-text : goal.returns-in-Ok-clause-text
returns-in-Ok-clause-text c =
    let sphere = c.in_ok-sphere.sphere in
    let made = c.in_ok-sphere.ensures in
    let are = subst (λ (r : Range). IsCanonicalIn r sphere) c.reach_of.ensures made.canonical in
    let near = subst (λ (r : Range). IsThrough r sphere.rows) c.reach_of.ensures made.through in
    let found = c.in-Ok.ensures in
    one_told c.args.table.now sphere c.args.range c.args.a c.args.x are made.sphere made.module_is c.lifts_give_one_product.ensures c.modules_are_graded_modules.ensures c.known.ensures.is_table found.is_sphere_table c.requires.through near
    c.in-Ok.found.0 c.in-Ok.found.1 found.places found.made c.in_ok-line-in-Ok.line c.in_ok-line-in-Ok.ensures _ c.in_ok-product_lines-in-Ok.ensures

pub returns-clause-refused : goal.returns-clause-refused
returns-clause-refused c = λ other.
    let sphere = c.in_ok-sphere.sphere in
    let made = c.in_ok-sphere.ensures in
    let are = subst (λ (r : Range). IsCanonicalIn r sphere) c.reach_of.ensures made.canonical in
    (c.in-Err.refusal, refl, one_refused c.args.table.now sphere c.args.range c.args.a c.args.x are made.sphere made.module_is c.in-Err.refusal c.in-Err.ensures.refused)
