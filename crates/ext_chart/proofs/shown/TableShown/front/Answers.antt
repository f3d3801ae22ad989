use Rattle.std.proofs.Common.{sym, ◌∙◌, arith}
use Rattle.square.proofs.Places.{length-row_of}
use Rattle.square.proofs.Targets.{row_short}
use Rattle.ext_chart.proofs.shown.TableShown.front.Goals as goal

pub returns-clause-front : goal.returns-clause-front
returns-clause-front c = c.front.ensures.front ∙ sym (length-row_of c.args.self.now.rows c.args.s)

pub returns-clause-short : goal.returns-clause-short
returns-clause-short c = let short = row_short c.args.self.now c.front.ensures.is_table c.args.s in omega (arith, c.front.ensures.front)
