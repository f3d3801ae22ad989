use Rattle.std.proofs.Common.{◌≡◌, ◌++◌}
use Rattle.ext_chart.specs.Dump.{square_places}
use Rattle.ext_chart.proofs.place.with_square.Given as goal

abbrev pub invariant-loop-i : goal.invariant-loop-i
invariant-loop-i l = l.places.items ≡ l.fn.places.items ++ square_places l.s l.t l.i
