use Rattle.stem_laws.proofs.Steps.{rows_are_covered}
use Rattle.stem_laws.proofs.rows_in_stems_are_covered.Goals as goal

pub returns : goal.returns
returns c = rows_are_covered c.canonical_table_is_minimal_resolution.ensures c.linear_maps.ensures.free c.linear_maps.ensures.commute c.kernel_basis_is_unique.ensures
