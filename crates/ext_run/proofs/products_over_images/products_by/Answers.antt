use Rattle.std.proofs.Common.{◌⊎◌, ◌≡◌, inr, subst}
use Rattle.std.specs.Prelude.{Err, IfErr}
use Rattle.finite_module.specs.Checked.{Checked}
use Rattle.ext_products.specs.Products.{resolution}
use Rattle.ext_table.specs.Layouts.{told_in}
use Rattle.ext_report.specs.declared.failure.Failure.TheVariants.{Memory}
use Rattle.ext_run.specs.declared.plan.Form.TheVariants.{Products}
use Rattle.ext_run.specs.Forms.{IsInForm, IsRefusedIn}
use Rattle.ext_run.specs.Work.{answer_of}
use Rattle.ext_run.proofs.AnswerExists.{TableLaws}
use Rattle.ext_run.proofs.RowOne.{refused_of_all, told_of_all}
use Rattle.ext_run.proofs.WholeImages.{of_themselves}
use Rattle.std.proofs.lemmas.Result.{err_from_is_err_and}
use Rattle.ext_run.specs.Courses.{HasText}
use Rattle.ext_run.proofs.Courses.{course_narrowed, no_course}
use Rattle.ext_run.proofs.products_over_images.products_by.Goals as goal

pub products_over-text-requires-clause-images : goal.products_over-text-requires-clause-images
products_over-text-requires-clause-images g c = of_themselves c.args.shape c.args.range c.args.by.now c.args.resolved c.in_ok-images.images c.in_ok-images.ensures.are

pub returns-clause-told : goal.returns-clause-told
returns-clause-told g c = λ has.
    subst (λ (m : Checked). IsInForm (Products c.args.layout c.args.by.now c.args.shape) c.args.range m.plain (answer_of c.products_over-text.result)) c.in_ok-images.ensures.are.resolved (c.products_over-text.ensures.told has)

pub returns-clause-why : goal.returns-clause-why
returns-clause-why g c =
    subst (λ (m : Checked). IfErr c.products_over-text.result (λ e. (e ≡ Memory) ⊎ IsRefusedIn (Products c.args.layout c.args.by.now c.args.shape) c.args.range m.plain (Err e))) c.in_ok-images.ensures.are.resolved c.products_over-text.ensures.why

pub returns-in-Err-clause-told : goal.returns-in-Err-clause-told
returns-in-Err-clause-told g c = λ has.
    let laws : TableLaws = record { exists = c.canonical_table_exists.ensures; minimal = c.canonical_table_is_minimal_resolution.ensures; modules = c.modules_are_graded_modules.ensures; accepted = c.accepted_is_module.ensures } in
    told_of_all laws (told_in c.args.layout c.args.shape c.args.range c.args.by.now) c.args.range c.args.resolved (Err c.in-Err.refusal) (λ table q canonical canonical_q sphere. c.in-Err.ensures.missing q canonical_q sphere c.args.layout c.args.shape (resolution c.args.resolved.plain table))

pub returns-in-Err-clause-why : goal.returns-in-Err-clause-why
returns-in-Err-clause-why g c =
    let laws : TableLaws = record { exists = c.canonical_table_exists.ensures; minimal = c.canonical_table_is_minimal_resolution.ensures; modules = c.modules_are_graded_modules.ensures; accepted = c.accepted_is_module.ensures } in
    inr (refused_of_all laws (told_in c.args.layout c.args.shape c.args.range c.args.by.now) c.args.range c.args.resolved.plain c.in-Err.refusal (λ r q canonical_q sphere. c.in-Err.ensures.missing q canonical_q sphere c.args.layout c.args.shape r))

pub returns-in_err-images-clause-course : goal.returns-in_err-images-clause-course
returns-in_err-images-clause-course g c =
    let m = c.args.resolved in
    let p = err_from_is_err_and c.from_residual.result c.from_residual.ensures.1 in
    no_course c.args.workers c.args.range c.args.shape m.plain (λ has. subst HasText p.1 has)

pub returns-in-Err-clause-course : goal.returns-in-Err-clause-course
returns-in-Err-clause-course g c = let m = c.args.resolved in no_course c.args.workers c.args.range c.args.shape m.plain (λ has. has)

pub returns-clause-course : goal.returns-clause-course
returns-clause-course g c =
    let m = c.args.resolved in
    course_narrowed c.args.workers c.args.range c.args.shape m.plain (λ has. tt) c.in_ok-images.ensures.course
