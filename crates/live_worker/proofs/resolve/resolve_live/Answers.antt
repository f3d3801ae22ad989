use denote.Param.Send.{sendable}
use Rattle.std.proofs.Crossing.{crosses}
use Rattle.square.proofs.Crossing.{Inputs-send, Square-send}
use Rattle.square_worker.proofs.Crossing.{Kept-send}
use Rattle.live_worker.specs.Reports.{squares_of}
use Rattle.live_worker.proofs.Reported.{retold}
use Rattle.live_worker.proofs.resolve.resolve_live.Goals as goal

pub made_live-made-requires-send-T : goal.made_live-made-requires-send-T
made_live-made-requires-send-T g c κs within = search (crosses, sendable, Kept-send) depth 20

pub made_live-made-requires-send-T-Inputs : goal.made_live-made-requires-send-T-Inputs
made_live-made-requires-send-T-Inputs g c κs within = search (crosses, sendable, Inputs-send) depth 20

pub made_live-made-requires-send-T-Made : goal.made_live-made-requires-send-T-Made
made_live-made-requires-send-T-Made g c κs within = search (crosses, sendable, Square-send) depth 20

pub returns-clause-resolved : goal.returns-clause-resolved
returns-clause-resolved g c = c.outcome-table.ensures.resolved (record { table = c.args.table; keeper = c.args.keeper }) c.args.range c.requires.live c.made_live-made.ensures.made.made

pub returns-clause-untouched : goal.returns-clause-untouched
returns-clause-untouched g c = c.outcome-table.ensures.untouched (record { table = c.args.table; keeper = c.args.keeper }) c.args.range c.requires.live c.made_live-made.ensures.made.made

pub returns-clause-worked : goal.returns-clause-worked
returns-clause-worked g c = c.outcome-table.ensures.worked c.args.workers (record { table = c.args.table; keeper = c.args.keeper }) c.args.range c.requires.live c.made_live-made.ensures.made

pub returns-clause-reported : goal.returns-clause-reported
returns-clause-reported g c = retold (squares_of c.args.range) c.made_live-made.result.0 c.outcome-table.result.0 c.made_live-made.result.2 _ _ _ _ c.outcome-table.ensures.only c.made_live-made.ensures.reported
