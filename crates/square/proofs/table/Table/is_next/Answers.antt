use Rattle.std.proofs.Common.{arith}
use Rattle.std.proofs.lemmas.Bool.{false≢true}
use Rattle.square.proofs.Places.{next_length}
use Rattle.square.proofs.table.Table.is_next.Goals as goal

pub returns-then-front-k-clause-next : goal.returns-then-front-k-clause-next
returns-then-front-k-clause-next c = (
  λ t. absurd (false≢true t),
  λ next. let len = next_length c.args.self.now.rows c.args.s c.args.above next in absurd (omega (arith, c.front.ensures.front, c.from-k.ensures)),
)
