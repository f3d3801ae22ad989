use Rattle.h_laws.proofs.ReadOff.{read_off}
use Rattle.h_laws.proofs.products_with_h_are_read_off_images.Goals as goal

pub returns : goal.returns
returns c = read_off c.canonical_table_is_minimal_resolution.ensures
