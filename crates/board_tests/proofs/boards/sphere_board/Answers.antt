use denote.Param.Send.{sendable}
use Rattle.std.proofs.Crossing.{crosses}
use Rattle.square.proofs.Crossing.{Inputs-send, Square-send}
use Rattle.std.proofs.Common.{◌++◌, Option, ◌∙◌, ap}
use Rattle.std.specs.Option.{option_to_list}
use Rattle.board_core.specs.declared.event.Entry.{Entry as Event}
use Rattle.turn_lock.specs.Turns.{PassState, new_pass}
use Rattle.square_board.specs.declared.opening.Opening.{Opening}
use Rattle.square_worker.specs.Kept.{KeptTable}
use Rattle.board_tests.proofs.LastTwo.{last_two}
use Rattle.board_tests.proofs.boards.sphere_board.Goals as goal

pub new-requires-send-T-Inputs : goal.new-requires-send-T-Inputs
new-requires-send-T-Inputs g c κs within = search (crosses, sendable, Inputs-send) depth 20

pub new-requires-send-T-Made : goal.new-requires-send-T-Made
new-requires-send-T-Made g c κs within = search (crosses, sendable, Square-send) depth 20

pub returns-clause-first : goal.returns-clause-first
returns-clause-first g c = (last_two (new_pass c.in-Ok.board) c.pop-2.new.self.items c.in-Some-pop.first c.in-Some.second c.in-Ok.passes.items c.pop.new.self.items c.in-Ok.ensures.count
    (c.pop.ensures.items ∙ ap (λ (o : Option (PassState (Opening (KeptTable g.row.K.Denot)) Event)). c.pop.new.self.items ++ option_to_list o) c.in-Some.is)
    (c.pop-2.ensures.items ∙ ap (λ (o : Option (PassState (Opening (KeptTable g.row.K.Denot)) Event)). c.pop-2.new.self.items ++ option_to_list o) c.in-Some-pop.is)
    c.in-Ok.ensures.passes).0

pub returns-clause-second : goal.returns-clause-second
returns-clause-second g c = (last_two (new_pass c.in-Ok.board) c.pop-2.new.self.items c.in-Some-pop.first c.in-Some.second c.in-Ok.passes.items c.pop.new.self.items c.in-Ok.ensures.count
    (c.pop.ensures.items ∙ ap (λ (o : Option (PassState (Opening (KeptTable g.row.K.Denot)) Event)). c.pop.new.self.items ++ option_to_list o) c.in-Some.is)
    (c.pop-2.ensures.items ∙ ap (λ (o : Option (PassState (Opening (KeptTable g.row.K.Denot)) Event)). c.pop-2.new.self.items ++ option_to_list o) c.in-Some-pop.is)
    c.in-Ok.ensures.passes).1
