use Rattle.std.proofs.Common.{◌≡◌, ◌-◌, ◌≤◌, ◌<◌, ◌/◌, length, get_or}
use Rattle.f2_choice.specs.Inside.Columns.{AreFilledAt}
use Rattle.f2_choice.proofs.AtPlaces.{read}
use Rattle.f2_choice.proofs.columns.fill_run.Given as goal

-- The first place is in the word, so that there is a first column.
abbrev pub invariant-loop-k : goal.invariant-loop-k
invariant-loop-k l = record {
  from : l.from ≤ l.k;
  within : l.k ≤ length l.places;
  filled : AreFilledAt l.i l.from l.k l.places (read l.rows) l.fn.columns l.columns;
}

abbrev pub decreases-loop-k : goal.decreases-loop-k
decreases-loop-k l = length l.places - l.k
