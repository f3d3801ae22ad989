use Rattle.board_core.proofs.Short.{history_is_short, range_is_all}
use Rattle.board_core.proofs.laws.history_is_short.Goals as goal

pub returns-clause-twice : goal.returns-clause-twice
returns-clause-twice c = history_is_short

pub returns-clause-all : goal.returns-clause-all
returns-clause-all c = range_is_all
