use Rattle.chain_map.proofs.Images.{table_images}
use Rattle.chain_map.proofs.laws.tables_have_images.Goals as goal

pub returns : goal.returns
returns c = table_images
