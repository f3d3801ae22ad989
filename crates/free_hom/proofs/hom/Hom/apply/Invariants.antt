-- The images of the coordinates before `from`.
use Rattle.std.proofs.Common.{◌≡◌, ◌≤◌, ◌-◌, length}
use Rattle.free_module.proofs.MapRows.{mapped_through}
use Rattle.free_hom.proofs.hom.Hom.apply.Given as goal

abbrev pub invariant-loop-i : goal.invariant-loop-i
invariant-loop-i g l = record {
  reached : l.from ≤ length l.v;
  sum : l.sum ≡ mapped_through (g.T.Target.graded l.self.target.now) l.self.source.now l.self.images.now l.t l.v l.from;
}

abbrev pub decreases-loop-i : goal.decreases-loop-i
decreases-loop-i g l = length l.v - l.from
