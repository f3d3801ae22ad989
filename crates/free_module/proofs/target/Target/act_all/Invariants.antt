use Rattle.std.proofs.Common.{◌≡◌, map, take}
use Rattle.free_module.proofs.target.Target.act_all.Given as goal

abbrev pub invariant-loop-r : goal.invariant-loop-r
invariant-loop-r g l = l.rows.items ≡ map (λ r. (g.Self.Target.graded l.self).action r l.t l.v) (take l.r-index l.r-items)
