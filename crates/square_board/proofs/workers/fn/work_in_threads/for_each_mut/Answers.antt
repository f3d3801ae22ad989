use Rattle.board_core.proofs.Pairs.{pairs_leave_none}
use Rattle.square_board.proofs.Working.{worked_pairs}
use Rattle.square_board.proofs.workers.fn.work_in_threads.for_each_mut.Goals as goal

pub returns : goal.returns
returns g c = record {
  pass = c.work-end.ensures.pass;
  number = c.work-end.ensures.same.number;
  pairs = worked_pairs c.args.pass.now c.work-end.new.pass c.requires.pairs c.work-end.ensures.worked;
}

pub work-end-requires-clause-none : goal.work-end-requires-clause-none
work-end-requires-clause-none g c κs within = pairs_leave_none c.args.pass.now.own c.requires.pairs
