use Rattle.lift_laws.proofs.ChainMaps.{chain_maps}
use Rattle.lift_laws.proofs.lifts_are_chain_maps.Goals as goal

pub returns : goal.returns
returns c = chain_maps
