use Rattle.std.proofs.Common.{◌≡◌, [], map, replicate}
use Rattle.square.specs.Tables.{Shelf}
use Rattle.square.proofs.table.empty_rows.Given as goal

abbrev pub invariant-loop : goal.invariant-loop
invariant-loop l = map (λ (r : Shelf). r.squares) l.rows.items ≡ replicate l.counter []
