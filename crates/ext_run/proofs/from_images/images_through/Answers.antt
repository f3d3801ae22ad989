use Rattle.std.proofs.Common.{◌-◌, sym, subst, arith, IfOk}
use Rattle.bidegree.specs.declared.shape.Shape.{Shape}
use Rattle.ext_run.specs.Inside.Images.{AreOfResolution}
use Rattle.ext_run.proofs.ByImages.{rectangle, stems}
use Rattle.ext_run.proofs.from_images.images_through.Goals as goal

pub returns-in-Stems : goal.returns-in-Stems
returns-in-Stems c =
    subst (λ (shape : Shape). IfOk c.images_in_stems.result (AreOfResolution shape c.args.range c.args.resolved)) (sym c.in-Stems.is)
    (stems c.canonical_table_exists.ensures c.canonical_table_is_minimal_resolution.ensures c.modules_are_graded_modules.ensures c.args.range c.args.resolved c.rows_in_stems_are_whole.ensures c.stems_are_told_alike.ensures (c.args.range.t - c.args.range.s) c.images_in_stems.result (omega (arith, c.if-range.true)) c.images_in_stems.ensures.resolved c.images_in_stems.ensures.stems)

pub returns-in_default : goal.returns-in_default
returns-in_default c = rectangle c.canonical_table_exists.ensures c.canonical_table_is_minimal_resolution.ensures c.modules_are_graded_modules.ensures c.args.range c.args.resolved c.args.shape c.images_alone.result c.images_alone.ensures.resolved c.images_alone.ensures.canonical
