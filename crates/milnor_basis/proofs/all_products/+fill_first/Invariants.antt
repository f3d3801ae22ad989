-- The numbers below `number` have had their turn.
use Rattle.std.proofs.Common.{◌-◌, suc, ℕ, List}
use Rattle.milnor_basis.specs.Product.{AreWithin}
use Rattle.milnor_basis.specs.Inside.FreeRows.{IsInFirstRow}
use Rattle.milnor_basis.proofs.FreeFill.{TurnsOverAllBelow}
use Rattle.milnor_basis.proofs.all_products.+fill_first.Given as goal

abbrev pub decreases-fill_first : goal.decreases-fill_first
decreases-fill_first l = l.column

abbrev pub invariant-loop-number : goal.invariant-loop-number
invariant-loop-number l = record {
  turned : (rows columns diagonals : List ℕ) → IsInFirstRow l.first.degrees.0 l.first.degrees.1 l.first.width l.column l.room l.above l.term.degree l.term.place l.first.left l.first.columns l.first.diagonals rows columns diagonals
      → TurnsOverAllBelow l.first.degrees.0 l.first.degrees.1 l.first.width 1 l.column l.room rows columns diagonals l.number l.initial.pairs.items l.pairs.items;
  within : AreWithin l.first.degrees.0 l.first.degrees.1 l.pairs.items;
}

abbrev pub decreases-loop-number : goal.decreases-loop-number
decreases-loop-number l = suc l.greatest - l.number
