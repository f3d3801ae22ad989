-- The numbers below `number` have had their turn, and what is open is as it was.
use Rattle.std.proofs.Common.{◌≡◌, ◌+◌, ◌*◌, ◌-◌, ◌^◌, suc, ℕ, List}
use Rattle.milnor_basis.specs.Product.{AreWithin}
use Rattle.milnor_basis.specs.Inside.FreeRows.{IsInRow}
use Rattle.milnor_basis.proofs.FreeFill.{TurnsOverAllBelow}
use Rattle.milnor_basis.proofs.all_products.+fill_all.Given as goal

abbrev pub decreases-fill_all : goal.decreases-fill_all
decreases-fill_all l = l.row * 9 + l.column

abbrev pub invariant-loop-number : goal.invariant-loop-number
invariant-loop-number l = record {
  turned : (rows : List ℕ) → IsInRow l.degrees.0 l.row l.own.sum l.own.left.degree l.own.left.place rows
      → TurnsOverAllBelow l.degrees.0 l.degrees.1 l.width l.row l.at (l.own.left.degree - l.own.sum * (2 ^ l.row - 1)) rows l.fn.open.columns l.fn.open.diagonals l.number l.fn.pairs.items l.pairs.items;
  columns : l.open.columns ≡ l.fn.open.columns;
  diagonals : l.open.diagonals ≡ l.fn.open.diagonals;
  within : AreWithin l.degrees.0 l.degrees.1 l.pairs.items;
}

abbrev pub decreases-loop-number : goal.decreases-loop-number
decreases-loop-number l = suc l.greatest - l.number
