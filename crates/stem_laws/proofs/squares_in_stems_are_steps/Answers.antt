use Rattle.stem_laws.proofs.Steps.{squares_are_steps}
use Rattle.stem_laws.proofs.squares_in_stems_are_steps.Goals as goal

pub returns : goal.returns
returns c = squares_are_steps c.canonical_table_is_minimal_resolution.ensures c.linear_maps.ensures.free c.linear_maps.ensures.commute c.kernel_basis_is_unique.ensures
