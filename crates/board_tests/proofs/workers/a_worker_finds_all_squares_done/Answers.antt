use denote.Param.Send.{sendable}
use Rattle.std.proofs.Crossing.{crosses}
use Rattle.square.proofs.Crossing.{Inputs-send, Square-send}
use Rattle.board_tests.proofs.NoneOut.{new_has_none}
use Rattle.board_tests.proofs.workers.a_worker_finds_all_squares_done.Goals as goal

pub work-requires-send-T-Inputs : goal.work-requires-send-T-Inputs
work-requires-send-T-Inputs g c κs = search (crosses, sendable, Inputs-send) depth 20

pub work-requires-send-T-Made : goal.work-requires-send-T-Made
work-requires-send-T-Made g c κs = search (crosses, sendable, Square-send) depth 20

pub count-requires-send-T-Inputs : goal.count-requires-send-T-Inputs
count-requires-send-T-Inputs g c κs = search (crosses, sendable, Inputs-send) depth 20

pub count-requires-send-T-Made : goal.count-requires-send-T-Made
count-requires-send-T-Made g c κs = search (crosses, sendable, Square-send) depth 20

pub work-requires-2-send-T-Inputs : goal.work-requires-2-send-T-Inputs
work-requires-2-send-T-Inputs g c κs = search (crosses, sendable, Inputs-send) depth 20

pub work-requires-2-send-T-Made : goal.work-requires-2-send-T-Made
work-requires-2-send-T-Made g c κs = search (crosses, sendable, Square-send) depth 20

pub work-requires-clause-none : goal.work-requires-clause-none
work-requires-clause-none g c κs = new_has_none c.in_ok-board.board 0 c.in_ok-board.first c.in_ok-board.ensures.first

pub work-requires-2-clause-none : goal.work-requires-2-clause-none
work-requires-2-clause-none g c κs = new_has_none c.in_ok-board.board 1 c.in_ok-board.second c.in_ok-board.ensures.second
