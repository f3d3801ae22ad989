use Rattle.std.proofs.Common.{length, ap}
use Rattle.f2_matrix.proofs.Determined.{parts_are_reduction}
use Rattle.f2_matrix.proofs.reduced.Reduced.from_parts.Goals as goal

pub returns-clause-reduction : goal.returns-clause-reduction
returns-clause-reduction c =
    let m = c.args.matrix.now in
    rw (c.cols.ensures, ap length c.rows-height.ensures.rows) ((parts_are_reduction m.cols m.rows c.args.image.items c.args.chosen.items c.args.kernel.items c.rows-height.ensures.widths).0 c.requires)
