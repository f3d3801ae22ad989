use Rattle.std.proofs.Common.{◌*◌}
use Rattle.f2_choice.specs.Inside.Columns.{AreFilledTo}
use Rattle.f2_choice.proofs.AtPlaces.{read}
use Rattle.f2_choice.proofs.columns.fill.Given as goal

abbrev pub invariant-loop-i : goal.invariant-loop-i
invariant-loop-i l = AreFilledTo (64 * l.i) l.places (read l.rows) l.columns
