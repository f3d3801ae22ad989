use Rattle.board_laws.proofs.Existence.{own_history_has_run}
use Rattle.board_laws.proofs.every_history_from_its_start_has_a_run.Goals as goal

pub returns : goal.returns
returns c = own_history_has_run
