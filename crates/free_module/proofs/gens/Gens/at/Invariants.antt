use Rattle.std.proofs.Common.{◌≡◌, ◌+◌, take}
use Rattle.free_module.specs.FreeModule.{free_width}
use Rattle.free_module.proofs.gens.Gens.at.Given as goal

abbrev pub invariant-loop-generator : goal.invariant-loop-generator
invariant-loop-generator l = free_width (take l.generator l.self) l.t + l.left ≡ l.i
