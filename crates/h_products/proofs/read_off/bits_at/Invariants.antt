use Rattle.std.proofs.Common.{◌≡◌, map, take}
use Rattle.f2_vec.specs.Vectors.{bit}
use Rattle.h_products.proofs.read_off.bits_at.Given as goal

abbrev pub invariant-loop-v : goal.invariant-loop-v
invariant-loop-v l = l.bits ≡ map (λ w. bit w l.place) (take l.v-index l.vectors)
