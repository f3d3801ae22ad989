use Rattle.std.proofs.Common.{suc, ◌+◌, pos, ◌+ℤ◌}
use Rattle.square.specs.Squares.{bottom_of}
use Rattle.lift_laws.specs.Products.{first_of}
use Rattle.chain_map.specs.Lifting.{resolution_of, AreChosen}
use Rattle.massey.specs.Inside.{above_bc, homotopy_goal}
use Rattle.massey.proofs.homotopy.Composite.next_square.Given as goal

abbrev pub invariant-loop-i : goal.invariant-loop-i
invariant-loop-i l =
    AreChosen l.self.setting.table.now l.self.setting.sphere.now (suc (l.self.n + l.k)) (suc l.k) (bottom_of l.self.setting.table.now.resolved +ℤ pos (above_bc l.self.setting.places)) (homotopy_goal l.self.setting.table.now l.self.setting.sphere.now l.self.setting.places l.self.n l.k l.beta.images.now l.self.gamma.now l.map.images.now) (first_of (resolution_of l.self.setting.table.now) (suc (l.self.n + l.k)) l.j + l.i) l.values.items
