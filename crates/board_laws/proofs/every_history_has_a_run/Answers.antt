use Rattle.board_laws.proofs.Existence.{history_has_run}
use Rattle.board_laws.proofs.every_history_has_a_run.Goals as goal

pub returns : goal.returns
returns c = history_has_run
