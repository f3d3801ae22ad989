use Rattle.std.proofs.Common.{◌≡◌, ◌∙◌, refl, ap, subst, arith}
use Rattle.std.specs.Prelude.{◌≢◌, Err}
use Rattle.std.proofs.lemmas.List.{drop_all, take_all}
use Rattle.std.proofs.lemmas.Result.{err_from_is_err_and}
use Rattle.finite_module.specs.Checked.{sphere_file}
use Rattle.finite_module.specs.DerivedAction.{derived_module}
use Rattle.chain_map.specs.Classes.{through}
use Rattle.ext_products.specs.declared.refusal.ClassesFault.TheVariants.{Refused, Memory as OutOfMemory}
use Rattle.ext_products.specs.declared.refusal.Refusal.{Refusal}
use Rattle.ext_products.specs.Products.{OneEach, resolution, first_missing, IsAnswerOver, IsAnswerIn}
use Rattle.ext_products.proofs.Several.{missing-more, refused-told}
use Rattle.ext_table.specs.Answers.{IsListing, IsTableAnswer}
use Rattle.ext_table.proofs.Growing.{listed_more}
use Rattle.ext_table.proofs.Told.{refused}
use Rattle.ext_table.proofs.lifted.lists_of.Goals as goal

pub loop-class-preserved : goal.loop-class-preserved
loop-class-preserved c = record {
  there = λ sphere canonical.
      let q = resolution (derived_module sphere_file) sphere in
      missing-more c.args.shape c.args.range q q c.args.by.now c.loop-class.class-index _ c.loop-class-test.true (c.in_ok-lines.ensures.there sphere canonical) (c.loop-class.invariant.there sphere canonical);
  lists = listed_more (λ class listing. IsAnswerOver (IsListing c.args.shape c.args.range class) c.args.source.now c.args.range listing) c.args.by.now c.loop-class.class-index _ c.loop-class.lists.items _ _ c.loop-class-test.true c.loop-class.invariant.lists
      (λ all sphere canonical. record { is = refl; are = c.in_ok-lines.ensures.lines all sphere canonical })
      c.in_ok-add_listed.ensures;
}

pub returns-in_err-lines-clause-refused : goal.returns-in_err-lines-clause-refused
returns-in_err-lines-clause-refused c =
    let p = err_from_is_err_and c.from_residual.result c.from_residual.ensures.1 in
    let shape = c.args.shape in
    let range = c.args.range in
    let by = c.args.by.now in
    let table = c.args.source.now in
    let e = c.in_err-lines.field-0.0 in
    let told : e ≢ OutOfMemory → (refusal : Refusal) × (e ≡ Refused refusal) × IsAnswerIn (IsTableAnswer shape range by) table range (Err refusal) =
    λ other.
    let one = c.in_err-lines.ensures.refused other in (
      one.0,
      one.1,
      λ sphere canonical.
          let q = resolution (derived_module sphere_file) sphere in
          let r = through range table in
          refused shape range by r q one.0 (refused-told shape range r q by c.loop-class.class-index _ one.0 c.loop-class-test.true (c.loop-class.invariant.there sphere canonical) (one.2 sphere canonical)),
    ) in
    rw (p.1, p.2) told

pub returns-clause-lists : goal.returns-clause-lists
returns-clause-lists c =
    subst (λ classes. OneEach (λ class listing. IsAnswerOver (IsListing c.args.shape c.args.range class) c.args.source.now c.args.range listing) classes c.loop-class.lists.items) (take_all c.loop-class.class-index c.args.by.now (omega (arith, c.loop-class-test.false))) c.loop-class.invariant.lists

pub returns-clause-there : goal.returns-clause-there
returns-clause-there c = λ sphere canonical.
    let q = resolution (derived_module sphere_file) sphere in
    c.loop-class.invariant.there sphere canonical ∙ ap (first_missing q) (drop_all c.loop-class.class-index c.args.by.now (omega (arith, c.loop-class-test.false)))
