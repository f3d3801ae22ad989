use Rattle.h_laws.proofs.RowOne.{row_one_has_squares}
use Rattle.h_laws.proofs.row_one_has_squares.Goals as goal

pub returns : goal.returns
returns c = row_one_has_squares c.canonical_table_is_minimal_resolution.ensures
