use Rattle.std.proofs.Common.{rules}
use Rattle.board_core.specs.Board.{below_fronts}
use Rattle.board_core.proofs.BelowFronts.{front_number}
use Rattle.board_core.proofs.fronts.Fronts.front.Goals as goal

pub returns-in-Some-clause-number : goal.returns-in-Some-clause-number
returns-in-Some-clause-number c = front_number (below_fronts c.args.self.now c.args.s) c.in-Some.front.now (λ k. search rules)
