use Rattle.save_file.proofs.Rules.{squares_closed}
use Rattle.save_file.proofs.laws.squares_are_closed.Goals as goal

pub returns : goal.returns
returns c = squares_closed
