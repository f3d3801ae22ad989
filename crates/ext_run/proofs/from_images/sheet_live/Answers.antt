use Rattle.std.proofs.Common.{subst}
use Rattle.std.specs.Prelude.{IfOk}
use Rattle.std.proofs.lemmas.Result.{IfOk-weaker}
use Rattle.live_worker.specs.Reports.{squares_of}
use Rattle.live_worker.proofs.Reported.{retold}
use Rattle.ext_run.specs.Inside.Images.{AreOfResolution}
use Rattle.ext_run.proofs.ByImages.{rectangle, is_sheet_of}
use Rattle.ext_run.proofs.Reporting.{told_there}
use Rattle.bidegree.specs.declared.shape.Shape.TheVariants.{Rectangle}
use Rattle.image_worker.specs.Worked.{AreImagesBy}
use Rattle.ext_run.proofs.Courses.{course_kept, course_of_images, course_of_shape}
use Rattle.ext_run.proofs.from_images.sheet_live.Goals as goal

pub sheet_text-text-requires : goal.sheet_text-text-requires
sheet_text-text-requires g c =
    let made = c.images_live-made in
    let of : AreOfResolution c.args.shape c.args.range c.args.resolved c.in-Ok.images = subst (λ r. IfOk r (AreOfResolution c.args.shape c.args.range c.args.resolved)) c.in-Ok.is
    (rectangle c.canonical_table_exists.ensures c.canonical_table_is_minimal_resolution.ensures c.modules_are_graded_modules.ensures c.args.range c.args.resolved c.args.shape made.result.0 made.ensures.resolved made.ensures.canonical) in
    of.through

pub returns-in-Ok-clause-text : goal.returns-in-Ok-clause-text
returns-in-Ok-clause-text g c =
    let exists = c.canonical_table_exists.ensures in
    let minimal = c.canonical_table_is_minimal_resolution.ensures in
    let modules = c.modules_are_graded_modules.ensures in
    let range = c.args.range in
    let resolved = c.args.resolved in
    let made = c.images_live-made in
    let of : AreOfResolution c.args.shape range resolved c.in-Ok.images = subst (λ r. IfOk r (AreOfResolution c.args.shape range resolved)) c.in-Ok.is (rectangle exists minimal modules range resolved c.args.shape made.result.0 made.ensures.resolved made.ensures.canonical) in
    IfOk-weaker c.sheet_text-text.result _ _ (λ text e. is_sheet_of exists minimal modules range resolved c.args.sheet c.args.shape c.in-Ok.images text.items of e) c.sheet_text-text.ensures

pub returns-in-Ok-clause-reported : goal.returns-in-Ok-clause-reported
returns-in-Ok-clause-reported g c = retold (squares_of c.args.range) c.images_live-made.result.0 c.sheet_text-text.result c.images_live-made.result.1 _ _ _ _ (told_there c.images_live-made.result.0 c.sheet_text-text.result c.in-Ok.images c.in-Ok.is) c.images_live-made.ensures.reported

pub returns-in-Err-clause-reported : goal.returns-in-Err-clause-reported
returns-in-Err-clause-reported g c = retold (squares_of c.args.range) c.images_live-made.result.0 _ c.images_live-made.result.1 _ _ _ _ tt c.images_live-made.ensures.reported

pub returns-in-Ok-clause-course : goal.returns-in-Ok-clause-course
returns-in-Ok-clause-course g c =
    let m = c.args.resolved in
    let by = subst (λ r. IfOk r (λ images. AreImagesBy c.args.workers m c.args.range Rectangle images.rows)) c.in-Ok.is c.images_live-made.ensures.worked in
    course_kept c.sheet_text-text.result _ (course_of_shape c.args.workers c.args.range c.args.shape m.plain (course_of_images c.args.workers m c.args.range Rectangle c.in-Ok.images.rows by))
