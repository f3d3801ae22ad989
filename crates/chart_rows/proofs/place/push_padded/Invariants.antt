use Rattle.std.proofs.Common.{◌≡◌, ◌++◌, map, take}
use Rattle.f2_vec.specs.Vectors.{zeros}
use Rattle.chart_rows.proofs.place.push_padded.Given as goal

abbrev pub invariant-loop-v : goal.invariant-loop-v
invariant-loop-v l = l.vectors.items ≡ l.initial.vectors.items ++ map (λ v. v ++ zeros l.count) (take l.v-index l.new)
