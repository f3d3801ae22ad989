use Rattle.square_board.proofs.Seen.{by_turn}
use Rattle.square_board.proofs.Working.{given_ends, back_ends}
use Rattle.square_board.proofs.worker.make.Goals as goal

pub returns-in-Ok-clause-no_less : goal.returns-in-Ok-clause-no_less
returns-in-Ok-clause-no_less g c = by_turn g.T.Stock.words _ _ _ c.give-given.ensures.turned

pub returns-in-Err-clause-no_less : goal.returns-in-Err-clause-no_less
returns-in-Err-clause-no_less g c = by_turn g.T.Stock.words _ _ _ c.back.ensures.turned

pub returns-in-Ok-clause-ended : goal.returns-in-Ok-clause-ended
returns-in-Ok-clause-ended g c = given_ends g.T.Stock.words _ _ c.give-given.result c.args.job c.give-given.ensures.turned

pub returns-in-Err-clause-ended : goal.returns-in-Err-clause-ended
returns-in-Err-clause-ended g c = back_ends g.T.Stock.words _ _ c.args.job c.back.ensures.turned
