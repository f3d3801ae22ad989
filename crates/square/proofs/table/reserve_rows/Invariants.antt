use Rattle.std.proofs.Common.{◌≡◌, ℕ, ◌<◌, ◌≤◌, map, Some}
use Rattle.std.specs.List.{slice_get}
use Rattle.square.specs.Tables.{Shelf, HaveRoom}
use Rattle.square.proofs.table.reserve_rows.Given as goal

abbrev pub invariant-loop-s : goal.invariant-loop-s
invariant-loop-s l = record {
  same : map (λ (r : Shelf). r.squares) l.rows.items ≡ map (λ (r : Shelf). r.squares) l.initial.rows.items;
  kept : (spare : ℕ) → HaveRoom l.initial.rows.items spare → HaveRoom l.rows.items spare;
  room : (i : ℕ) (row : Shelf) → i < l.s → slice_get l.rows.items i ≡ Some row → l.n ≤ row.room;
}
