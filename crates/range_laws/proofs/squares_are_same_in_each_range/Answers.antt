use Rattle.range_laws.proofs.Parts.{squares_same}
use Rattle.range_laws.proofs.squares_are_same_in_each_range.Goals as goal

pub returns : goal.returns
returns c = squares_same c.kernel_basis_is_unique.ensures
