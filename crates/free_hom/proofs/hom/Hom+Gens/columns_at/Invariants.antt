-- The rows of the generators before g are added.
use Rattle.free_module.specs.Graded.{free_graded}
use Rattle.free_hom.proofs.Columns.{HaveBlocks}
use Rattle.free_hom.proofs.hom.Hom+Gens.columns_at.Given as goal

abbrev pub invariant-loop-g : goal.invariant-loop-g
invariant-loop-g l = HaveBlocks (free_graded l.self.target.now) l.self.source.now l.self.images.now l.t l.table.items l.height l.g l.end l.initial.columns.items l.columns.items
