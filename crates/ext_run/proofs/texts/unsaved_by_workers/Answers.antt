use Rattle.std.proofs.Common.{List, ap, sym, subst, ◌∙◌}
use Rattle.std.specs.Prelude.{OnOk, ⊤}
use Rattle.bidegree.specs.declared.class.Class.{Class}
use Rattle.ext_run.specs.declared.plan.Form.{Form}
use Rattle.ext_run.specs.declared.plan.Form.TheVariants.{Products}
use Rattle.ext_run.specs.Forms.{IsInForm}
use Rattle.ext_run.specs.Work.{answer_of}
use Rattle.ext_run.specs.Courses.{HasText, shape_of, HasCourse}
use Rattle.ext_run.proofs.Courses.{no_course}
use Rattle.ext_run.proofs.texts.unsaved_by_workers.Goals as goal

pub returns-in-Products-false-clause-told : goal.returns-in-Products-false-clause-told
returns-in-Products-false-clause-told g c = λ has.
    subst (λ (form : Form). IsInForm form c.args.resolution.common.range c.args.resolution.resolved.plain (answer_of c.products_by-text.result)) (sym (c.in-Products-false.is-0 ∙ ap (λ (by : List Class). Products c.in-Products-false.layout by c.in-Products-false.shape) (sym c.as_slice-by.ensures))) (c.products_by-text.ensures.told has)

pub returns-in-Sought-false-clause-told : goal.returns-in-Sought-false-clause-told
returns-in-Sought-false-clause-told g c = λ has.
    subst (λ (form : Form). IsInForm form c.args.resolution.common.range c.args.resolution.resolved.plain (answer_of c.sought_by-text.result)) (sym c.in-Sought-false.is-0) (c.sought_by-text.ensures.told has)

pub returns-in-Squares-true-clause-course : goal.returns-in-Squares-true-clause-course
returns-in-Squares-true-clause-course g c =
    let r = c.args.resolution in
    subst (λ (form : Form). HasCourse r.common.workers r.common.range (shape_of form) r.resolved.plain (HasText c.live_sheet.result.0)) (sym c.in-Squares-true.is-0) c.live_sheet.ensures.course

pub returns-in-Ok-clause-course : goal.returns-in-Ok-clause-course
returns-in-Ok-clause-course g c =
    let r = c.args.resolution in
    let course = subst (λ q. OnOk q (HasCourse r.common.workers r.common.range c.in-Squares-false.shape r.resolved.plain ⊤)) c.in-Ok.is c.sheet_by.ensures.course in
    subst (λ (form : Form). HasCourse r.common.workers r.common.range (shape_of form) r.resolved.plain ⊤) (sym c.in-Squares-false.is-0) course

pub returns-in-Err-clause-course : goal.returns-in-Err-clause-course
returns-in-Err-clause-course g c = let r = c.args.resolution in no_course r.common.workers r.common.range (shape_of r.form) r.resolved.plain (λ has. has)

pub returns-in-Products-false-clause-course : goal.returns-in-Products-false-clause-course
returns-in-Products-false-clause-course g c =
    let r = c.args.resolution in
    subst (λ (form : Form). HasCourse r.common.workers r.common.range (shape_of form) r.resolved.plain (HasText c.products_by-text.result)) (sym c.in-Products-false.is-0) c.products_by-text.ensures.course

pub returns-in-Sought-false-clause-course : goal.returns-in-Sought-false-clause-course
returns-in-Sought-false-clause-course g c =
    let r = c.args.resolution in
    subst (λ (form : Form). HasCourse r.common.workers r.common.range (shape_of form) r.resolved.plain (HasText c.sought_by-text.result)) (sym c.in-Sought-false.is-0) c.sought_by-text.ensures.course
