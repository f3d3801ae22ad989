-- The squares so far are put, each where it may stand.
use Rattle.std.proofs.Common.{◌≡◌, ℕ, ◌+◌, ◌<◌}
use Rattle.square.specs.Squares.{over}
use Rattle.chart_rows.specs.Standing.{MayStand, AreCharted}
use Rattle.chart_rows.specs.Placing.{bare_in, with_first}
use Rattle.chart_rows.proofs.chart.Chart.place.Given as goal

abbrev pub invariant-loop-h : goal.invariant-loop-h
invariant-loop-h l =
    let m = over l.initial.self-inside.module.now in
    let rows = l.initial.self-inside.rows.items in
    record {
      resolved : l.self-inside.module.now ≡ l.initial.self-inside.module.now;
      reach : l.self-inside.basis.now ≡ l.initial.self-inside.basis.now;
      charted : AreCharted m l.self-inside.rows.items;
      put : l.self-inside.rows.items ≡ with_first m l.part l.h rows;
      may : (j : ℕ) → j < l.h → MayStand m (with_first m l.part j rows) (l.part.first + j) l.part.above (bare_in l.part j);
    }
