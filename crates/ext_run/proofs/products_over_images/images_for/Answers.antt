use Rattle.std.proofs.Common.{sym, ◌∙◌}
use Rattle.ext_run.proofs.WholeImages.{read_off, lifted}
use Rattle.ext_run.proofs.products_over_images.images_for.Goals as goal

pub returns-then-are_in_row_one : goal.returns-then-are_in_row_one
returns-then-are_in_row_one c = read_off c.args.shape c.args.range c.args.by.now c.args.resolved (sym c.are_in_row_one.ensures ∙ c.if-are_in_row_one.true) c.images_through.result c.images_through.ensures

pub returns-else-are_in_row_one : goal.returns-else-are_in_row_one
returns-else-are_in_row_one c = lifted c.args.shape c.args.range c.args.by.now c.args.resolved (sym c.are_in_row_one.ensures ∙ c.if-are_in_row_one.false) c.requires.rows c.requires.degrees c.images_alone.result c.images_alone.ensures.resolved c.images_alone.ensures.range c.images_alone.ensures.canonical
