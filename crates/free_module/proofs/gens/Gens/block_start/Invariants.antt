use Rattle.std.proofs.Common.{◌≡◌, take}
use Rattle.free_module.specs.FreeModule.{free_width}
use Rattle.free_module.proofs.gens.Gens.block_start.Given as goal

abbrev pub invariant-loop-g : goal.invariant-loop-g
invariant-loop-g l = l.start ≡ free_width (take l.g l.self) l.t
