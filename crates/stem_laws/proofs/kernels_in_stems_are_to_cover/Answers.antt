use Rattle.stem_laws.proofs.Steps.{kernels_are_to_cover}
use Rattle.stem_laws.proofs.kernels_in_stems_are_to_cover.Goals as goal

pub returns : goal.returns
returns c = kernels_are_to_cover c.canonical_table_is_minimal_resolution.ensures c.linear_maps.ensures.free c.linear_maps.ensures.commute
