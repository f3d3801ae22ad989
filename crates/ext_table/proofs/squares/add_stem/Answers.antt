use Rattle.bidegree.specs.LastDegrees.{last_degree}
use Rattle.square.specs.Squares.{bottom_of}
use Rattle.ext_table.specs.Table.{square_text}
use Rattle.ext_table.proofs.Growing.{one_more}
use Rattle.ext_table.proofs.squares.add_stem.Goals as goal

pub loop-i-preserved : goal.loop-i-preserved
loop-i-preserved g c =
    one_more (square_text (bottom_of (g.Q.Counted.resolved c.args.squares.now)) (last_degree c.args.shape c.args.range) (g.Q.Counted.counts c.args.squares.now) c.args.lists.now c.args.n) _ c.loop-i.text.items _ c.loop-i.i c.loop-i.invariant c.in_ok-add_square.ensures
