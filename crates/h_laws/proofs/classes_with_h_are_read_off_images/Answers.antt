use Rattle.h_laws.proofs.OnClasses.{classes_read_off}
use Rattle.h_laws.proofs.classes_with_h_are_read_off_images.Goals as goal

pub returns : goal.returns
returns c = classes_read_off c.canonical_table_is_minimal_resolution.ensures
