use Rattle.std.proofs.Common.{◌≡◌, arith, subst}
use Rattle.f2_matrix.proofs.Elimination.{IsEliminated, IsEliminated-skip, IsEliminated-settle, IsEchelonForm-from_IsEliminated}
use Rattle.f2_matrix.proofs.columns.reduce_rows.Goals as goal
use Rattle.f2_matrix.proofs.columns.reduce_rows.Goals.{in-Some, in_default}

pub loop-col-preserved : goal.loop-col-preserved
loop-col-preserved c =
    let n = c.args.cols in
    let r = c.loop-col.settled in
    let col = c.loop-col.col in
    let xs = c.args.rows.now in
    let rows = c.loop-col.rows in
    elim c.match-row_with_one_at.branch [
      | in-Some w ↦ rw (w.rows-is, w.settled-is) (IsEliminated-settle n r col w.in-Some.found xs rows w.swap.new.self w.clear_column.new.rows c.loop-col.invariant w.in-Some.ensures.at_or_after w.in-Some.ensures.within w.in-Some.ensures.one w.swap.ensures.after w.clear_column.ensures)
      | in_default w ↦ rw (w.rows-is, w.settled-is) (IsEliminated-skip n r col xs rows c.loop-col.invariant w.in_default.ensures.none)
    ]

pub returns : goal.returns
returns c =
    let e : c.loop-col.col ≡ c.args.cols = omega arith in
    IsEchelonForm-from_IsEliminated c.args.cols c.loop-col.settled c.args.rows.now c.loop-col.rows
    (subst (λ k. IsEliminated c.args.cols c.loop-col.settled k c.args.rows.now c.loop-col.rows) e c.loop-col.invariant)
