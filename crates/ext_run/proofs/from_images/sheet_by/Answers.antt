use Rattle.std.proofs.lemmas.Result.{IfOk-weaker}
use Rattle.ext_run.proofs.ByImages.{is_sheet_of}
use Rattle.ext_run.proofs.Courses.{course_kept}
use Rattle.ext_run.proofs.from_images.sheet_by.Goals as goal

pub returns-clause-text : goal.returns-clause-text
returns-clause-text g c =
    IfOk-weaker c.sheet_text-made.result _ _
    (λ text e. is_sheet_of c.canonical_table_exists.ensures c.canonical_table_is_minimal_resolution.ensures c.modules_are_graded_modules.ensures c.args.range c.args.resolved c.args.sheet c.args.shape c.in_ok-images.images text.items c.in_ok-images.ensures.are e)
    c.sheet_text-made.ensures

pub returns-clause-course : goal.returns-clause-course
returns-clause-course g c = course_kept c.sheet_text-made.result _ c.in_ok-images.ensures.course
