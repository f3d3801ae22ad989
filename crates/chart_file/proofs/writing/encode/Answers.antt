use Rattle.chart_file.proofs.Squares.{square_appended}
use Rattle.chart_file.proofs.writing.encode.Goals as goal

pub loop-square-preserved : goal.loop-square-preserved
loop-square-preserved c =
    square_appended c.extend_from_slice-2.new.self.items c.loop-square.body.items c.append_square.new.body.items c.squares-square-items.result.now c.loop-square.square-index c.square-item.result c.loop-square-test.true c.square-item.is c.loop-square.invariant c.in_ok-append_square.ensures
