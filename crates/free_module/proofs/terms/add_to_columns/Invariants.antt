-- The columns have the pairs before this one.
use Rattle.std.proofs.Common.{length}
use Rattle.milnor_basis.specs.Basis.{basis_of}
use Rattle.free_module.proofs.Columns.{HavePairs}
use Rattle.free_module.proofs.terms.add_to_columns.Given as goal

abbrev pub invariant-loop-pair : goal.invariant-loop-pair
invariant-loop-pair l = HavePairs l.table l.end l.offset (length l.table) (length (basis_of l.multiples.degree)) l.pair-items l.pair-index l.fn.columns l.columns
