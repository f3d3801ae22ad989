use Rattle.std.proofs.Common.{◌≡◌, ℕ, ◌+◌, ◌-◌, sym, subst, ap, arith, IfOk}
use Rattle.std.specs.Prelude.{OnOk, ⊤}
use Rattle.bidegree.specs.declared.range.Range.{Range}
use Rattle.bidegree.specs.declared.shape.Shape.{Shape}
use Rattle.bidegree.specs.declared.shape.Shape.TheVariants.{Rectangle, Stems}
use Rattle.ext_run.specs.Inside.Images.{AreOfResolution}
use Rattle.ext_run.proofs.ByImages.{rectangle, stems}
use Rattle.ext_run.specs.Courses.{HasCourse}
use Rattle.ext_run.proofs.Courses.{course_on, course_of_images, course_of_shape}
use Rattle.ext_run.proofs.from_images.images_through_by.Goals as goal

pub returns-in-Stems-clause-are : goal.returns-in-Stems-clause-are
returns-in-Stems-clause-are g c =
    subst (λ (shape : Shape). IfOk c.images_in_stems_by.result (AreOfResolution shape c.args.range c.args.resolved)) (sym c.in-Stems.is)
    (stems c.canonical_table_exists.ensures c.canonical_table_is_minimal_resolution.ensures c.modules_are_graded_modules.ensures c.args.range c.args.resolved c.rows_in_stems_are_whole.ensures c.stems_are_told_alike.ensures (c.args.range.t - c.args.range.s) c.images_in_stems_by.result (omega (arith, c.if-range.true)) c.images_in_stems_by.ensures.resolved c.images_in_stems_by.ensures.stems)

pub returns-in_default-clause-are : goal.returns-in_default-clause-are
returns-in_default-clause-are g c = rectangle c.canonical_table_exists.ensures c.canonical_table_is_minimal_resolution.ensures c.modules_are_graded_modules.ensures c.args.range c.args.resolved c.args.shape c.images_by.result c.images_by.ensures.resolved c.images_by.ensures.canonical

pub returns-in-Stems-clause-course : goal.returns-in-Stems-clause-course
returns-in-Stems-clause-course g c =
    let m = c.args.resolved in
    let range = c.args.range in
    let high : range.t - range.s + range.s ≡ range.t = omega (arith, c.if-range.true) in
    let same : ◌≡◌ {A = Range} (record { s = range.s; t = range.t - range.s + range.s }) range = ap (λ (t : ℕ). record { s = range.s; t = t }) high in
    subst (λ (shape : Shape). OnOk c.images_in_stems_by.result (HasCourse c.args.workers range shape m.plain ⊤)) (sym c.in-Stems.is)
    (course_on c.images_in_stems_by.result _ _ (λ images by. subst (λ (r : Range). HasCourse c.args.workers r Stems m.plain ⊤) same (course_of_images c.args.workers m _ Stems images.rows by)) c.images_in_stems_by.ensures.worked)

pub returns-in_default-clause-course : goal.returns-in_default-clause-course
returns-in_default-clause-course g c =
    let m = c.args.resolved in
    course_on c.images_by.result _ _ (λ images by. course_of_shape c.args.workers c.args.range c.args.shape m.plain (course_of_images c.args.workers m c.args.range Rectangle images.rows by)) c.images_by.ensures.worked
