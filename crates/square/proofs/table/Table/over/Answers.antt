use Rattle.std.proofs.Common.{map, arith}
use Rattle.std.specs.Arc.{arc_value}
use Rattle.square.specs.Tables.{Shelf}
use Rattle.square.proofs.Places.{no_squares}
use Rattle.square.proofs.table.Table.over.Goals as goal

pub invariant_of-result : goal.invariant_of-result
invariant_of-result c = (
  no_squares (arc_value c.in_ok-module.module) c.empty.result (map (λ (r : Shelf). r.squares) c.in_ok-rows.rows.items) 0 c.empty.ensures c.in_ok-rows.ensures,
  λ s row e. omega arith,
)
