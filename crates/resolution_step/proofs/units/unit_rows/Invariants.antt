use Rattle.std.proofs.Common.{◌≡◌, map}
use Rattle.std.specs.List.{range_with_len}
use Rattle.f2_vec.specs.Spans.{unit_vector}
use Rattle.resolution_step.proofs.units.unit_rows.Given as goal

abbrev pub invariant-loop-i : goal.invariant-loop-i
invariant-loop-i l = l.rows.items ≡ map (unit_vector l.n) (range_with_len 0 l.i)
