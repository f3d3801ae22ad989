-- The parts so far are put, each where it may stand.
use Rattle.std.proofs.Common.{◌≡◌, ℕ, ◌<◌, take}
use Rattle.square.specs.Squares.{over}
use Rattle.chart_rows.specs.Placing.{MayStandAll, part_in, rows_of_parts}
use Rattle.chart_rows.proofs.chart.chart_of.Given as goal

abbrev pub invariant-loop-n : goal.invariant-loop-n
invariant-loop-n l = record {
  resolved : l.chart.resolved ≡ l.module;
  reach : l.chart.reach ≡ l.basis;
  rows : l.chart.rows ≡ rows_of_parts (over l.module) (take l.n l.parts);
  may : (j : ℕ) → j < l.n → MayStandAll (over l.module) (rows_of_parts (over l.module) (take j l.parts)) (part_in l.parts j);
}
