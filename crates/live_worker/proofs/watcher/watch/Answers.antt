use Rattle.live_worker.proofs.Watching.{watched_self, watched_twice}
use Rattle.live_worker.proofs.watcher.watch.Goals as goal

pub loop-init : goal.loop-init
loop-init g c = watched_self g.T.Stock.words g.T.Counted.table_of g.E.Sink.written g.E.Sink.faults c.args.board.now c.args.watcher.now c.requires

pub is_last_report-requires-clause-can : goal.is_last_report-requires-clause-can
is_last_report-requires-clause-can g c κs within = c.loop.invariant.can

pub returns-then-is_last_report : goal.returns-then-is_last_report
returns-then-is_last_report g c = watched_twice g.T.Stock.words g.T.Counted.table_of g.E.Sink.written g.E.Sink.faults c.args.board.now c.args.watcher.now c.loop.watcher c.is_last_report.new.watcher c.loop.invariant c.is_last_report.ensures

pub returns-then-nap : goal.returns-then-nap
returns-then-nap g c = watched_twice g.T.Stock.words g.T.Counted.table_of g.E.Sink.written g.E.Sink.faults c.args.board.now c.args.watcher.now c.loop.watcher c.is_last_report.new.watcher c.loop.invariant c.is_last_report.ensures

pub loop-preserved : goal.loop-preserved
loop-preserved g c = watched_twice g.T.Stock.words g.T.Counted.table_of g.E.Sink.written g.E.Sink.faults c.args.board.now c.args.watcher.now c.loop.watcher c.is_last_report.new.watcher c.loop.invariant c.is_last_report.ensures
