-- The rows with pivots left of the column are sorted; of the others the places are noted.
use Rattle.std.proofs.Common.{◌≡◌, ◌≤◌, length}
use Rattle.f2_matrix.proofs.Elimination.{IsEliminated}
use Rattle.f2_matrix.proofs.SortSteps.{AreUnsorted, AreNoted}
use Rattle.f2_matrix.proofs.rowwise.sort_by_pivot.Given as goal

abbrev pub invariant-loop-col : goal.invariant-loop-col
invariant-loop-col l = record {
  fits : l.found ≤ length l.rows;
  size : length l.places ≡ l.cols;
  done : IsEliminated l.cols l.sorted l.col l.fn.rows l.rows;
  unsorted : AreUnsorted l.found l.sorted l.rows;
  noted : AreNoted l.found l.sorted l.rows l.places;
}
