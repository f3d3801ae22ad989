-- The squares on the first cells.
use Rattle.std.proofs.Common.{◌≡◌}
use Rattle.std.specs.List.{flat_map, range_with_len}
use Rattle.module_json.specs.ModuleFile.{squares_on}
use Rattle.module_json.proofs.space.squares.Given as goal

abbrev pub invariant-loop-i : goal.invariant-loop-i
invariant-loop-i l = l.entries.items ≡ flat_map (squares_on l.min l.count) (range_with_len 0 l.i)
