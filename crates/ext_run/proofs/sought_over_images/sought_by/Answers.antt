use Rattle.std.proofs.Common.{◌⊎◌, ◌≡◌, subst}
use Rattle.std.specs.Prelude.{Err, IfErr}
use Rattle.finite_module.specs.Checked.{Checked}
use Rattle.ext_report.specs.declared.failure.Failure.TheVariants.{Memory}
use Rattle.ext_run.specs.declared.plan.Form.TheVariants.{Sought as ToTell}
use Rattle.ext_run.specs.Forms.{IsInForm, IsRefusedIn}
use Rattle.ext_run.specs.Work.{answer_of}
use Rattle.ext_run.proofs.WholeImages.{whole_made}
use Rattle.bidegree.specs.declared.shape.Shape.TheVariants.{Rectangle}
use Rattle.std.proofs.lemmas.Result.{err_from_is_err_and}
use Rattle.ext_run.specs.Courses.{HasText}
use Rattle.ext_run.proofs.Courses.{course_narrowed, course_of_images, no_course}
use Rattle.ext_run.proofs.sought_over_images.sought_by.Goals as goal

pub sought_over-text-requires-clause-whole : goal.sought_over-text-requires-clause-whole
sought_over-text-requires-clause-whole g c =
    let made = c.in_ok-images.ensures in
    whole_made c.in_ok-images.images c.args.resolved c.args.range made.resolved made.range made.canonical c.requires.rows c.requires.degrees

pub returns-clause-told : goal.returns-clause-told
returns-clause-told g c = λ has.
    subst (λ (m : Checked). IsInForm (ToTell c.args.sought) c.args.range m.plain (answer_of c.sought_over-text.result)) c.in_ok-images.ensures.resolved (c.sought_over-text.ensures.told has)

pub returns-clause-why : goal.returns-clause-why
returns-clause-why g c =
    subst (λ (m : Checked). IfErr c.sought_over-text.result (λ e. (e ≡ Memory) ⊎ IsRefusedIn (ToTell c.args.sought) c.args.range m.plain (Err e))) c.in_ok-images.ensures.resolved c.sought_over-text.ensures.why

pub returns-in_err-images-clause-course : goal.returns-in_err-images-clause-course
returns-in_err-images-clause-course g c =
    let m = c.args.resolved in
    let p = err_from_is_err_and c.from_residual.result c.from_residual.ensures.1 in
    no_course c.args.workers c.args.range Rectangle m.plain (λ has. subst HasText p.1 has)

pub returns-clause-course : goal.returns-clause-course
returns-clause-course g c =
    let m = c.args.resolved in
    course_narrowed c.args.workers c.args.range Rectangle m.plain (λ has. tt) (course_of_images c.args.workers m c.args.range Rectangle c.in_ok-images.images.rows c.in_ok-images.ensures.worked)
