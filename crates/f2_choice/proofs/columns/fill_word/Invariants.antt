use Rattle.std.proofs.Common.{◌-◌, ◌≤◌, length}
use Rattle.f2_choice.specs.Inside.Columns.{AreFilledAt}
use Rattle.f2_choice.proofs.AtPlaces.{read}
use Rattle.f2_choice.proofs.columns.fill_word.Given as goal

abbrev pub invariant-loop-filled : goal.invariant-loop-filled
invariant-loop-filled l = record { within : l.filled ≤ length l.places; filled : AreFilledAt l.i 0 l.filled l.places (read l.rows) l.fn.columns l.columns }

abbrev pub decreases-loop-filled : goal.decreases-loop-filled
decreases-loop-filled l = length l.places - l.filled
