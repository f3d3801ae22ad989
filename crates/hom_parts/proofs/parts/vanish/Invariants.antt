-- The map takes the vectors so far to zero.
use Rattle.std.proofs.Common.{◌≡◌, ℕ, ◌<◌}
use Rattle.f2_vec.specs.Vectors.{zeros}
use Rattle.f2_vec.specs.Spans.{row}
use Rattle.free_module.specs.LinearMap.{mapped}
use Rattle.hom_parts.proofs.parts.vanish.Given as goal

abbrev pub invariant-loop-vector : goal.invariant-loop-vector
invariant-loop-vector g l = (k : ℕ) → k < l.vector-index → mapped (g.T.Target.graded l.map.target.now) l.map.source.now l.map.images.now l.t (row l.vectors k) ≡ zeros ((g.T.Target.graded l.map.target.now).width l.t)
