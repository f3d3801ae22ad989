use denote.Param.Send.{sendable}
use Rattle.std.proofs.Crossing.{crosses}
use Rattle.square.proofs.Crossing.{Inputs-send, Square-send}
use Rattle.square_worker.proofs.Crossing.{Kept-send}
use Rattle.square_worker.proofs.resolve.resolve_with.Goals as goal

pub made_by-made-requires-send-T : goal.made_by-made-requires-send-T
made_by-made-requires-send-T g c κs within = search (crosses, sendable, Kept-send) depth 20

pub made_by-made-requires-send-T-Inputs : goal.made_by-made-requires-send-T-Inputs
made_by-made-requires-send-T-Inputs g c κs within = search (crosses, sendable, Inputs-send) depth 20

pub made_by-made-requires-send-T-Made : goal.made_by-made-requires-send-T-Made
made_by-made-requires-send-T-Made g c κs within = search (crosses, sendable, Square-send) depth 20

pub returns-clause-resolved : goal.returns-clause-resolved
returns-clause-resolved g c = c.outcome.ensures.resolved (record { table = c.args.table; keeper = c.args.keeper }) c.args.range c.requires.live c.made_by-made.ensures.made

pub returns-clause-untouched : goal.returns-clause-untouched
returns-clause-untouched g c = c.outcome.ensures.untouched (record { table = c.args.table; keeper = c.args.keeper }) c.args.range c.requires.live c.made_by-made.ensures.made

pub returns-clause-worked : goal.returns-clause-worked
returns-clause-worked g c = c.outcome.ensures.worked c.args.workers (record { table = c.args.table; keeper = c.args.keeper }) c.args.range c.requires.live c.made_by-made.ensures
