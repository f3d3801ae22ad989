use Rattle.range_laws.proofs.Members.{brackets_same}
use Rattle.range_laws.proofs.brackets_are_same_in_each_range.Goals as goal

pub returns : goal.returns
returns c = brackets_same c.kernel_basis_is_unique.ensures
