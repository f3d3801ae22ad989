use Rattle.std.proofs.Common.{◌≡◌, ◌-◌, length, map, take}
use Rattle.f2_vec.specs.Vectors.{bit}
use Rattle.yoneda.proofs.values.coordinates_back.Given as goal

abbrev pub invariant-loop-v : goal.invariant-loop-v
invariant-loop-v l = l.coordinates ≡ map (λ w. bit w (length w - l.back)) (take l.v-index l.vectors)
