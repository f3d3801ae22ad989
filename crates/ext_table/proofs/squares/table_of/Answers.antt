use Rattle.std.proofs.Common.{[]}
use Rattle.bidegree.specs.LastDegrees.{last_degree}
use Rattle.square.specs.Squares.{bottom_of}
use Rattle.ext_table.specs.Table.{stem_text}
use Rattle.ext_table.proofs.Growing.{one_more}
use Rattle.ext_table.proofs.squares.table_of.Goals as goal

pub loop-n-preserved : goal.loop-n-preserved
loop-n-preserved g c =
    one_more (stem_text (bottom_of (g.Q.Counted.resolved c.args.squares.now)) c.args.range.s (last_degree c.args.shape c.args.range) (g.Q.Counted.counts c.args.squares.now) c.args.lists.now) [] c.loop-n.text.items _ c.loop-n.n c.loop-n.invariant c.in_ok-add_stem.ensures
