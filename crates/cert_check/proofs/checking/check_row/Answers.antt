use Rattle.std.proofs.Common.{◌+◌, arith}
use Rattle.cert_check.proofs.Faults.{one_more, row_done}
use Rattle.cert_check.proofs.checking.check_row.Goals as goal

pub loop-above-preserved : goal.loop-above-preserved
loop-above-preserved c = one_more c.args.table.now c.args.range c.args.s c.loop-above.above c.loop-above.invariant c.in_ok-check_square.ensures.ok

pub returns-in_ok-check_square-clause-ok : goal.returns-in_ok-check_square-clause-ok
returns-in_ok-check_square-clause-ok c = row_done c.args.table.now c.args.range c.args.s (c.loop-above.above + 1) (omega arith) (one_more c.args.table.now c.args.range c.args.s c.loop-above.above c.loop-above.invariant c.in_ok-check_square.ensures.ok)
