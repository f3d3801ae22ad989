use Rattle.range_laws.proofs.Parts.{smaller_is_part}
use Rattle.range_laws.proofs.smaller_table_is_part.Goals as goal

pub returns : goal.returns
returns c = smaller_is_part c.kernel_basis_is_unique.ensures
