use Rattle.std.proofs.Common.{sym, ◌∙◌}
use Rattle.ext_run.proofs.WholeImages.{read_off, lifted}
use Rattle.bidegree.specs.declared.shape.Shape.TheVariants.{Rectangle}
use Rattle.ext_run.proofs.Courses.{course_on, course_of_images, course_of_shape}
use Rattle.ext_run.proofs.products_over_images.images_for_by.Goals as goal

pub returns-then-are_in_row_one-clause-are : goal.returns-then-are_in_row_one-clause-are
returns-then-are_in_row_one-clause-are g c = read_off c.args.shape c.args.range c.args.by.now c.args.resolved (sym c.are_in_row_one.ensures ∙ c.if-are_in_row_one.true) c.images_through_by.result c.images_through_by.ensures.are

pub returns-else-are_in_row_one-clause-are : goal.returns-else-are_in_row_one-clause-are
returns-else-are_in_row_one-clause-are g c = lifted c.args.shape c.args.range c.args.by.now c.args.resolved (sym c.are_in_row_one.ensures ∙ c.if-are_in_row_one.false) c.requires.rows c.requires.degrees c.images_by.result c.images_by.ensures.resolved c.images_by.ensures.range c.images_by.ensures.canonical

pub returns-else-are_in_row_one-clause-course : goal.returns-else-are_in_row_one-clause-course
returns-else-are_in_row_one-clause-course g c =
    let m = c.args.resolved in
    course_on c.images_by.result _ _ (λ images by. course_of_shape c.args.workers c.args.range c.args.shape m.plain (course_of_images c.args.workers m c.args.range Rectangle images.rows by)) c.images_by.ensures.worked
