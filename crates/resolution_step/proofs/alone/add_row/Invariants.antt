use Rattle.std.proofs.Common.{◌≡◌, ◌<◌, ◌≤◌, length}
use Rattle.square.specs.Tables.{row_in}
use Rattle.square.specs.Keeping.{IsKeeperOf}
use Rattle.resolution_step.specs.Alone.{AreOfStart, IsUntouched}
use Rattle.resolution_step.specs.Inside.Adding.{HasAdded}
use Rattle.resolution_step.proofs.alone.add_row.Given as goal

abbrev pub invariant-loop-k : goal.invariant-loop-k
invariant-loop-k g l = record {
  len : length (row_in l.table.rows l.s) ≡ l.k;
  are_of_start : AreOfStart l.table;
  live : (g.K.Keep.telling l.keeper).live;
  no_fault : (g.K.Keep.telling l.keeper).faults ≡ (g.K.Keep.telling l.fn.keeper).faults;
  of_table : IsKeeperOf (g.K.Keep.telling l.keeper) l.table;
  added : HasAdded (λ i k. (i ≡ l.s) × (k < l.k) × (k ≤ l.t)) (g.K.Keep.telling l.fn.keeper) (g.K.Keep.telling l.keeper) l.fn.table l.table;
  untouched : IsUntouched g.K.Keep.telling l.fn.keeper l.keeper;
}
