use Rattle.std.proofs.Common.{◌≡◌, ℕ, ◌<◌, ◌≤◌, ◌+◌, ap, arith}
use Rattle.std.specs.Option.{IfSome}
use Rattle.board_core.specs.Board.{Board, state_of}
use Rattle.board_core.specs.Machine.{IsReady}
use Rattle.board_core.proofs.LeastReady.{least_more, none_more, least_of_all}
use Rattle.board_core.proofs.machine.Core.least_open.Goals as goal

pub loop-s-preserved : goal.loop-s-preserved
loop-s-preserved c =
    let before = c.loop-s.invariant in
    let found = c.lesser-least.ensures in
    let may = IsReady (state_of c.args.self.now) in
    record {
      some = found.some;
      least = least_more may c.loop-s.least c.lesser-least.result c.loop-s.s before.least before.none found.before found.here;
      none = none_more may c.loop-s.least c.lesser-least.result c.loop-s.s before.none found.none found.none_here;
    }

pub returns-2-clause-least : goal.returns-2-clause-least
returns-2-clause-least c =
    let before = c.loop-s.invariant in
    let found = c.lesser-least.ensures in
    let may = IsReady (state_of c.args.self.now) in
    let rows = ap (λ (b : Board). b.rows) c.self.view_is in
    least_of_all may c.lesser-least.result c.loop-s.s (λ r k ready. let row = ready.in_range.row in omega arith) (least_more may c.loop-s.least c.lesser-least.result c.loop-s.s before.least before.none found.before found.here)
