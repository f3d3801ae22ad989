use Rattle.std.proofs.Common.{◌≡◌, ◌<◌, ℕ, length}
use Rattle.square.specs.Tables.{row_in}
use Rattle.square.specs.Keeping.{IsKeeperOf}
use Rattle.resolution_step.specs.Alone.{AreOfStart, IsInRange, IsUntouched}
use Rattle.resolution_step.specs.Inside.Adding.{HasAdded}
use Rattle.resolution_step.proofs.alone.add_rows.Given as goal

abbrev pub invariant-loop-s : goal.invariant-loop-s
invariant-loop-s g l = record {
  through : (i : ℕ) → i < l.s → l.range.t < length (row_in l.table.rows i);
  are_of_start : 0 < l.s → AreOfStart l.table;
  live : (g.K.Keep.telling l.keeper).live;
  no_fault : (g.K.Keep.telling l.keeper).faults ≡ (g.K.Keep.telling l.fn.keeper).faults;
  of_table : IsKeeperOf (g.K.Keep.telling l.keeper) l.table;
  added : HasAdded (λ i k. (i < l.s) × IsInRange l.range i k) (g.K.Keep.telling l.fn.keeper) (g.K.Keep.telling l.keeper) l.fn.table l.table;
  untouched : IsUntouched g.K.Keep.telling l.fn.keeper l.keeper;
}
