use Rattle.board_core.proofs.Lengths.{fronts_are_given}
use Rattle.board_core.proofs.laws.fronts_are_given.Goals as goal

pub returns : goal.returns
returns c = fronts_are_given
