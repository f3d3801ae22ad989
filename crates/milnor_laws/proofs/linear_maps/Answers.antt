use Rattle.milnor_laws.proofs.FreeModules.{free_modules_are_modules}
use Rattle.milnor_laws.proofs.LinearMaps.{maps_commute}
use Rattle.milnor_laws.proofs.linear_maps.Goals as goal

pub returns : goal.returns
returns c = record { free = free_modules_are_modules; commute = maps_commute }
