use Rattle.stem_laws.proofs.InStems.{images_of_rows_fit}
use Rattle.stem_laws.proofs.images_in_stems_fit.Goals as goal

pub returns : goal.returns
returns c = images_of_rows_fit c.canonical_table_is_minimal_resolution.ensures
