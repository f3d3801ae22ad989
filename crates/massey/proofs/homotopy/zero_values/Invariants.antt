use Rattle.std.proofs.Common.{◌≡◌, map, take}
use Rattle.f2_vec.specs.Vectors.{zeros}
use Rattle.free_module.specs.FreeModule.{free_width}
use Rattle.massey.proofs.homotopy.zero_values.Given as goal

abbrev pub invariant-loop-degree : goal.invariant-loop-degree
invariant-loop-degree l = l.values.items ≡ map (λ d. zeros (free_width l.target d)) (take l.degree-index l.source)
