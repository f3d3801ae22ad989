use Rattle.stem_laws.proofs.InStems.{squares_of_table}
use Rattle.stem_laws.proofs.squares_in_stems_are_those_of_table.Goals as goal

pub returns : goal.returns
returns c = squares_of_table c.canonical_table_is_minimal_resolution.ensures
