use Rattle.std.proofs.Common.{◌≡◌, Some, None, subst}
use Rattle.std.proofs.lemmas.Result.{err_from_is_err_and}
use Rattle.bidegree.specs.declared.range.Range.{Range}
use Rattle.chain_map.specs.Classes.{through, no_class}
use Rattle.ext_products.specs.declared.refusal.Refusal.TheVariants.{NoClass}
use Rattle.ext_products.specs.declared.refusal.Named.TheVariants.{A}
use Rattle.ext_products.specs.Inside.{reach_of}
use Rattle.ext_products.proofs.OneProduct.{first_refused, second_refused, place_refused}
use Rattle.ext_products.proofs.one_product.places.Goals as goal

pub returns-in_err-first-clause-refused : goal.returns-in_err-first-clause-refused
returns-in_err-first-clause-refused c =
    let p = err_from_is_err_and c.from_residual.result c.from_residual.ensures.1 in
    let e = c.in_err-first.field-0.0 in
    let missing = subst (λ (far : Range). no_class (NoClass A c.args.a) (through far c.args.sphere.now) c.args.a ≡ Some e) c.reach_of.ensures c.in_err-first.ensures.missing in
    rw (p.1, p.2) (first_refused c.args.range c.args.a c.args.x (through c.args.range c.args.table.now) (through (reach_of c.args.range c.args.a) c.args.sphere.now) e missing)

pub returns-in_err-second-clause-refused : goal.returns-in_err-second-clause-refused
returns-in_err-second-clause-refused c =
    let p = err_from_is_err_and c.from_residual-in_err-second.result c.from_residual-in_err-second.ensures.1 in
    let there = subst (λ (far : Range). no_class (NoClass A c.args.a) (through far c.args.sphere.now) c.args.a ≡ None) c.reach_of.ensures c.in_ok-first.ensures.found in
    rw (p.1, p.2) (second_refused c.args.range c.args.a c.args.x (through c.args.range c.args.table.now) (through (reach_of c.args.range c.args.a) c.args.sphere.now) c.in_err-second.field-0.0 there c.in_err-second.ensures.missing)

pub returns-in_err-within-clause-refused : goal.returns-in_err-within-clause-refused
returns-in_err-within-clause-refused c =
    let p = err_from_is_err_and c.from_residual-in_err-within.result c.from_residual-in_err-within.ensures.1 in
    let there = subst (λ (far : Range). no_class (NoClass A c.args.a) (through far c.args.sphere.now) c.args.a ≡ None) c.reach_of.ensures c.in_ok-first.ensures.found in
    rw (p.1, p.2) (place_refused c.args.table.now c.args.sphere.now c.args.range c.reach_of.result c.args.a c.args.x c.in_ok-first.first c.in_ok-second.second (through (reach_of c.args.range c.args.a) c.args.sphere.now) c.requires.sphere c.in_ok-first.ensures.there c.in_ok-second.ensures.there (Some _) there c.in_ok-second.ensures.found c.in_err-within.ensures.past)

pub returns-clause-made : goal.returns-clause-made
returns-clause-made c =
    let there = subst (λ (far : Range). no_class (NoClass A c.args.a) (through far c.args.sphere.now) c.args.a ≡ None) c.reach_of.ensures c.in_ok-first.ensures.found in
    place_refused c.args.table.now c.args.sphere.now c.args.range c.reach_of.result c.args.a c.args.x c.in_ok-first.first c.in_ok-second.second (through (reach_of c.args.range c.args.a) c.args.sphere.now) c.requires.sphere c.in_ok-first.ensures.there c.in_ok-second.ensures.there None there c.in_ok-second.ensures.found c.in_ok-within.ensures.within
