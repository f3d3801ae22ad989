use Rattle.live_worker.specs.Inside.Roles.{HasWatched}
use Rattle.live_worker.proofs.watcher.watch.Given as goal

abbrev pub invariant-loop : goal.invariant-loop
invariant-loop g l = HasWatched g.T.Stock.words g.T.Counted.table_of g.E.Sink.written g.E.Sink.faults l.board l.fn.watcher l.watcher
