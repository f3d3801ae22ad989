use Rattle.std.proofs.lemmas.Option.{MatchOption-at_none}
use Rattle.save_file.proofs.TakingUp.{neither}
use Rattle.save_file.proofs.reading.decode.Goals as goal

pub returns-in-None-clause-strange : goal.returns-in-None-clause-strange
returns-in-None-clause-strange c = λ n e. (cc, neither c.args.table.now c.args.body.now (MatchOption-at_none _ _ c.in_default.is c.in_ok-square.ensures) (MatchOption-at_none _ _ c.in-None.is c.in_ok-s.ensures))
