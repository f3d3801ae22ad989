use denote.Param.Send.{sendable}
use Rattle.std.proofs.Crossing.{crosses}
use Rattle.std.proofs.Common.{sym, subst}
use Rattle.square.proofs.Crossing.{Inputs-send, Square-send}
use Rattle.board_core.specs.Entries.{HasNoneOut}
use Rattle.board_tests.proofs.NoneOut.{new_has_none}
use Rattle.board_tests.proofs.boards.all_squares_are_given.Goals as goal

pub rest-requires-send-T-Inputs : goal.rest-requires-send-T-Inputs
rest-requires-send-T-Inputs g c κs = search (crosses, sendable, Inputs-send) depth 20

pub rest-requires-send-T-Made : goal.rest-requires-send-T-Made
rest-requires-send-T-Made g c κs = search (crosses, sendable, Square-send) depth 20

pub generators-requires-send-T-Inputs : goal.generators-requires-send-T-Inputs
generators-requires-send-T-Inputs g c κs = search (crosses, sendable, Inputs-send) depth 20

pub generators-requires-send-T-Made : goal.generators-requires-send-T-Made
generators-requires-send-T-Made g c κs = search (crosses, sendable, Square-send) depth 20

pub generators-requires-2-send-T-Inputs : goal.generators-requires-2-send-T-Inputs
generators-requires-2-send-T-Inputs g c κs = search (crosses, sendable, Inputs-send) depth 20

pub generators-requires-2-send-T-Made : goal.generators-requires-2-send-T-Made
generators-requires-2-send-T-Made g c κs = search (crosses, sendable, Square-send) depth 20

pub front-requires-send-T-Inputs : goal.front-requires-send-T-Inputs
front-requires-send-T-Inputs g c κs = search (crosses, sendable, Inputs-send) depth 20

pub front-requires-send-T-Made : goal.front-requires-send-T-Made
front-requires-send-T-Made g c κs = search (crosses, sendable, Square-send) depth 20

pub count-requires-send-T-Inputs : goal.count-requires-send-T-Inputs
count-requires-send-T-Inputs g c κs = search (crosses, sendable, Inputs-send) depth 20

pub count-requires-send-T-Made : goal.count-requires-send-T-Made
count-requires-send-T-Made g c κs = search (crosses, sendable, Square-send) depth 20

pub give-requires-2-clause-job : goal.give-requires-2-clause-job
give-requires-2-clause-job g c = c.idle-2.ensures.jobs c.taken-left.result c.taken-left.ensures.job

pub rest-requires-clause-none : goal.rest-requires-clause-none
rest-requires-clause-none g c κs =
    let new = new_has_none c.in_ok-board.board 1 c.in_ok-board.second c.in_ok-board.ensures.second in
    subst HasNoneOut (sym c.idle.ensures.own) new
