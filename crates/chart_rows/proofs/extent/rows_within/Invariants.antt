-- The rows so far.
use Rattle.std.proofs.Common.{◌≡◌, ℕ, ◌+◌, ◌<◌, length}
use Rattle.square.specs.Squares.{bottom_of}
use Rattle.resolution_images.specs.BareRows.{bare_row_in, squares_of, IsBareRowOf}
use Rattle.chart_rows.specs.Standing.{whole_row}
use Rattle.chart_rows.specs.Within.{reach_in}
use Rattle.chart_rows.proofs.extent.rows_within.Given as goal

abbrev pub invariant-loop-i : goal.invariant-loop-i
invariant-loop-i l = record {
  count : length l.rows.items ≡ l.i;
  each : (x : ℕ) → x < l.i → IsBareRowOf (bottom_of l.chart.resolved)
      (whole_row (squares_of l.chart.rows) x (l.fn.extent.n + x) (reach_in l.chart.rows l.fn.extent.n l.fn.t x)) (bare_row_in l.rows.items x);
}
