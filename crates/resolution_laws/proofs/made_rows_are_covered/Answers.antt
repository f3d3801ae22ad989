use Rattle.resolution_laws.proofs.Covered.{made_rows_covered}
use Rattle.resolution_laws.proofs.made_rows_are_covered.Goals as goal

pub returns : goal.returns
returns c = made_rows_covered c.linear_maps.ensures.free c.linear_maps.ensures.commute c.kernel_basis_is_unique.ensures
