use Rattle.lift_laws.proofs.ChainMaps.{canonical_images}
use Rattle.lift_laws.proofs.canonical_tables_have_images.Goals as goal

pub returns : goal.returns
returns c = canonical_images
