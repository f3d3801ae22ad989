use Rattle.least_range.proofs.Least.{bracket-least}
use Rattle.least_range.proofs.laws.bracket_range_is_least.Goals as goal

pub returns : goal.returns
returns c = bracket-least
