use Rattle.h_laws.proofs.RowOne.{row_one_is_powers}
use Rattle.h_laws.proofs.row_one_is_powers.Goals as goal

pub returns : goal.returns
returns c = row_one_is_powers c.canonical_table_is_minimal_resolution.ensures
