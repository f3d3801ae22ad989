use Rattle.std.proofs.Common.{ap}
use Rattle.std.specs.Arc.{arc_value}
use Rattle.square.specs.Tables.{Shelf}
use Rattle.square.proofs.Rows.{shared_first}
use Rattle.square.proofs.row.Row.share.Goals as goal

pub returns : goal.returns
returns c = shared_first arc_value c.self.inside.squares.items c.deref.result.now c.args.n c.loop-square.square-index c.loop-square.row.squares c.args.self.now.squares c.deref.ensures.value (ap (λ (r : Shelf). r.squares) c.self.view_is) c.loop-square.invariant c.loop-square-test.false
