-- The map takes the vectors so far to their values.
use Rattle.std.proofs.Common.{◌≡◌, ℕ, ◌<◌}
use Rattle.f2_vec.specs.Spans.{row}
use Rattle.free_module.specs.LinearMap.{mapped}
use Rattle.hom_parts.proofs.parts.go_to.Given as goal

abbrev pub invariant-loop-i : goal.invariant-loop-i
invariant-loop-i g l = (k : ℕ) → k < l.i → mapped (g.T.Target.graded l.map.target.now) l.map.source.now l.map.images.now l.t (row l.vectors k) ≡ row l.values k
