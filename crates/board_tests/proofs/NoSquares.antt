-- A keeper that has kept nothing goes with a table that has no square yet.
use Rattle.std.proofs.Common.{◌≡◌, List, [], ◌+◌, replicate, sym, subst}
use Rattle.bidegree.specs.declared.range.TheConstants.{MAX_S}
use Rattle.resolution_laws.specs.Start.{Entry}
use Rattle.square.specs.Squares.{Placed}
use Rattle.square.specs.Keeping.{HoldsTable}
use Rattle.square.proofs.Growing.{HoldsTable-none}

pub holds_none : (list : List Entry) (rows : List (List Placed)) → list ≡ [] → rows ≡ replicate (MAX_S + 1) [] → HoldsTable list rows
holds_none list rows none empty = subst (λ (l : List Entry). HoldsTable l rows) (sym none) (subst (HoldsTable []) (sym empty) (HoldsTable-none (MAX_S + 1)))
