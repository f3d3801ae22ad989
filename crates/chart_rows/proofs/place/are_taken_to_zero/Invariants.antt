-- The vectors so far are taken to zero.
use Rattle.std.proofs.Common.{ℕ, ◌<◌}
use Rattle.f2_vec.specs.Vectors.{IsZero}
use Rattle.f2_vec.specs.Spans.{row}
use Rattle.free_module.specs.LinearMap.{mapped}
use Rattle.chart_rows.proofs.place.are_taken_to_zero.Given as goal

abbrev pub invariant-loop-vector : goal.invariant-loop-vector
invariant-loop-vector g l = (h : ℕ) → h < l.vector-index →
    IsZero (mapped (g.T.Target.graded l.hom.target.now) l.hom.source.now l.hom.images.now l.t (row l.vectors h))
