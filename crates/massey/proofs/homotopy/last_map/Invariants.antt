use Rattle.massey.proofs.Chosen.{AreMaps}
use Rattle.massey.proofs.homotopy.last_map.Given as goal

abbrev pub invariant-loop-k : goal.invariant-loop-k
invariant-loop-k l = AreMaps l.setting.table.now l.setting.sphere.now l.setting.places l.n l.beta l.gamma l.k l.values.items
