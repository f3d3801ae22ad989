use Rattle.std.proofs.Common.{◌≡◌, ◌∙◌, ap, subst, refl}
use Rattle.std.specs.Prelude.{Some, None}
use Rattle.bidegree.specs.declared.range.Range.{Range}
use Rattle.square.specs.Tables.{IsThrough}
use Rattle.chain_map.specs.Lifting.{IsCanonicalIn}
use Rattle.chain_map.specs.Classes.{through, missing_in}
use Rattle.yoneda.specs.Products.{IsPlaceOf}
use Rattle.ext_products.specs.declared.refusal.Refusal.TheVariants.{NoClass}
use Rattle.ext_products.specs.declared.refusal.Named.TheVariants.{By}
use Rattle.ext_products.proofs.Transport.{lines-answer, there-answer, refused-answer}
use Rattle.ext_products.proofs.products.products_with.Goals as goal

pub returns-in-Ok-clause-lines : goal.returns-in-Ok-clause-lines
returns-in-Ok-clause-lines c =
    let by = c.args.by in
    let sphere = c.in_ok-sphere.sphere in
    let made = c.in_ok-sphere.ensures in
    let reach = c.reach_of-reach.ensures in
    let a = c.in-Ok.a in
    let are = subst (λ (r : Range). IsCanonicalIn r sphere) reach made.canonical in
    let near = subst (λ (r : Range). IsThrough r sphere.rows) reach made.through in
    let is = subst (λ (r : Range). IsPlaceOf sphere r by a) reach c.in-Ok.ensures.place in
    lines-answer c.args.table.now sphere c.args.range by are made.sphere made.module_is c.lifts_give_one_product.ensures c.modules_are_graded_modules.ensures c.known.ensures.is_table c.in-Ok.ensures.is_table c.requires.through near
    c.args.shape a is c.in_ok-lines-in-Ok.field-0.items c.in_ok-lines-in-Ok.ensures

pub returns-clause-refused : goal.returns-clause-refused
returns-clause-refused c = λ other.
    let by = c.args.by in
    let sphere = c.in_ok-sphere.sphere in
    let made = c.in_ok-sphere.ensures in
    let reach = c.reach_of-reach.ensures in
    let are = subst (λ (r : Range). IsCanonicalIn r sphere) reach made.canonical in
    let missed = subst (λ (r : Range). missing_in (through r sphere) by ≡ Some c.in-Err.count) reach c.in-Err.ensures.missing in
    (NoClass By by c.in-Err.count, refl, refused-answer c.args.table.now sphere c.args.range by are made.sphere made.module_is c.args.shape c.in-Err.count missed)

pub returns-in-Ok-clause-there : goal.returns-in-Ok-clause-there
returns-in-Ok-clause-there c =
    let by = c.args.by in
    let sphere = c.in_ok-sphere.sphere in
    let made = c.in_ok-sphere.ensures in
    let reach = c.reach_of-reach.ensures in
    let are = subst (λ (r : Range). IsCanonicalIn r sphere) reach made.canonical in
    let there = subst (λ (r : Range). missing_in (through r sphere) by ≡ None) reach c.in-Ok.ensures.there in
    there-answer c.args.table.now sphere c.args.range by are made.sphere made.module_is there
