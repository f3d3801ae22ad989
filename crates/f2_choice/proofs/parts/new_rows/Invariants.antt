use Rattle.std.proofs.Common.{◌≡◌, take, drop, map}
use Rattle.f2_choice.specs.Inside.Coordinates.{new_rows}
use Rattle.f2_choice.proofs.parts.new_rows.Given as goal

abbrev pub invariant-loop-v : goal.invariant-loop-v
invariant-loop-v l = l.new.items ≡ new_rows l.candidates (map (drop l.n) (take l.v-index l.kernel))
