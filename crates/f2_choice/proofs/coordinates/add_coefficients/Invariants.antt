use Rattle.std.proofs.Common.{◌-◌, length}
use Rattle.f2_choice.specs.Inside.Columns.{column, ChangesOnlyColumn}
use Rattle.f2_choice.proofs.Clearing.{IsCleared}
use Rattle.f2_choice.proofs.coordinates.add_coefficients.Given as goal

abbrev pub invariant-loop-place : goal.invariant-loop-place
invariant-loop-place l = record {
  cleared : IsCleared l.from l.candidates l.vector l.rest (column l.at l.columns);
  changes : ChangesOnlyColumn l.at l.fn.columns l.columns;
}

abbrev pub decreases-loop-place : goal.decreases-loop-place
decreases-loop-place l = length l.vector - l.from
