use Rattle.std.proofs.Common.{◌<◌, sym, subst, length, pos, ◌+ℤ◌, arith}
use Rattle.f2_vec.specs.Spans.{HaveWidth}
use Rattle.square.specs.Squares.{bottom_of}
use Rattle.square.specs.Tables.{row_in, plain_rows}
use Rattle.square.proofs.Places.{length-row_of}
use Rattle.ext_chart.specs.Dump.{image_width}
use Rattle.ext_chart.proofs.ImageWidths.{image_widths}
use Rattle.ext_chart.proofs.shown.TableShown.images.Goals as goal

pub returns-clause-widths : goal.returns-clause-widths
returns-clause-widths c =
    let t = c.args.self.now in
    let there : c.args.k < length (row_in t.rows c.args.s) = omega (arith, c.requires, length-row_of t.rows c.args.s) in
    subst (HaveWidth (image_width t.resolved.plain.generators (plain_rows t.rows) c.args.s (bottom_of t.resolved +ℤ pos c.args.k))) (sym c.images_of.ensures.images)
    (image_widths t c.images_of.ensures.is_table c.args.s c.args.k there)

pub returns-clause-degree : goal.returns-clause-degree
returns-clause-degree c = c.images_of.ensures.degree (omega (arith, c.requires, length-row_of c.args.self.now.rows c.args.s))
