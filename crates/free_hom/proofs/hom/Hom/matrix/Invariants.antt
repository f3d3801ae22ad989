use Rattle.std.proofs.Common.{◌≡◌, ◌++◌, map, drop}
use Rattle.free_module.specs.FreeModule.{free_basis_from}
use Rattle.free_module.specs.LinearMap.{image_of, map_rows}
use Rattle.free_hom.proofs.hom.Hom.matrix.Given as goal

abbrev pub invariant-loop-g : goal.invariant-loop-g
invariant-loop-g g l =
    let target = g.T.Target.graded l.self.target.now in
    let source = l.self.source.now in
    l.rows.items ++ map (image_of target source l.self.images.now) (free_basis_from l.g (drop l.g source) l.t) ≡ map_rows target source l.self.images.now l.t
