use Rattle.stem_laws.proofs.InStems.{squares_fit}
use Rattle.stem_laws.proofs.squares_in_stems_fit.Goals as goal

pub returns : goal.returns
returns c = squares_fit c.canonical_table_is_minimal_resolution.ensures
