use Rattle.std.proofs.Common.{◌≡◌, length, arith}
use Rattle.std.specs.Prelude.{◌≢◌, Ok, Err, nat_lt}
use Rattle.std.proofs.lemmas.Result.{err_from_is_err_and}
use Rattle.finite_module.specs.Checked.{sphere_file}
use Rattle.finite_module.specs.DerivedAction.{derived_module}
use Rattle.chain_map.specs.Classes.{through}
use Rattle.ext_products.specs.declared.refusal.ClassesFault.TheVariants.{Refused, Memory as OutOfMemory}
use Rattle.ext_products.specs.declared.refusal.Refusal.{Refusal}
use Rattle.ext_products.specs.Products.{resolution, IsAnswerOfOne, IsProductsAnswer, IsAnswerOver, IsAnswerIn}
use Rattle.ext_products.proofs.Several.{headed-more, headed-all, headed-map, missing-more, refused-told, each-told}
use Rattle.ext_products.proofs.products.products_text.Goals as goal

pub loop-class-preserved : goal.loop-class-preserved
loop-class-preserved c = record {
  there = λ sphere canonical.
      let q = resolution (derived_module sphere_file) sphere in
      missing-more c.args.shape c.args.range q q c.args.by.now c.loop-class.class-index _ c.loop-class-test.true (c.in_ok-lines.ensures.there sphere canonical) (c.loop-class.invariant.there sphere canonical);
  texts = headed-more (λ by text. IsAnswerOver (IsAnswerOfOne c.args.shape c.args.range by) c.args.table.now c.args.range (Ok text)) (nat_lt 1 (length c.args.by.now)) c.args.by.now c.loop-class.class-index _ c.loop-class.text.items c.in_ok-lines.lines.items _ _ c.loop-class-test.true
      c.loop-class.invariant.texts c.in_ok-lines.ensures.text c.as_slice.ensures.value c.in_ok-add_headed.ensures;
}

pub returns-in_err-lines-clause-refused : goal.returns-in_err-lines-clause-refused
returns-in_err-lines-clause-refused c =
    let p = err_from_is_err_and c.from_residual.result c.from_residual.ensures.1 in
    let shape = c.args.shape in
    let range = c.args.range in
    let by = c.args.by.now in
    let table = c.args.table.now in
    let e = c.in_err-lines.field-0.0 in
    let told : e ≢ OutOfMemory → (refusal : Refusal) × (e ≡ Refused refusal) × IsAnswerIn (IsProductsAnswer shape range by) table range (Err refusal) =
    λ other.
    let one = c.in_err-lines.ensures.refused other in (
      one.0,
      one.1,
      λ sphere canonical.
          refused-told shape range (through range table) (resolution (derived_module sphere_file) sphere) by c.loop-class.class-index _ one.0 c.loop-class-test.true (c.loop-class.invariant.there sphere canonical) (one.2 sphere canonical),
    ) in
    rw (p.1, p.2) told

pub returns-clause-text : goal.returns-clause-text
returns-clause-text c = λ are sphere canonical.
    let shape = c.args.shape in
    let range = c.args.range in
    let by = c.args.by.now in
    let table = c.args.table.now in
    let r = through range table in
    let q = resolution (derived_module sphere_file) sphere in
    let named = nat_lt 1 (length by) in
    let text = c.loop-class.text.items in
    let all = headed-all (λ class t. IsAnswerOver (IsAnswerOfOne shape range class) table range (Ok t)) named by c.loop-class.class-index text (omega (arith, c.loop-class-test.false)) c.loop-class.invariant.texts in
    each-told shape range r q by text
    (headed-map (λ class t. IsAnswerOver (IsAnswerOfOne shape range class) table range (Ok t)) (λ class t. IsAnswerOfOne shape range class r q (Ok t)) named (λ class t told. told are sphere canonical) by text all)
