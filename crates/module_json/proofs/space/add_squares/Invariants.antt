-- The first squares.
use Rattle.std.proofs.Common.{◌≡◌, ◌++◌, map, take}
use Rattle.std.specs.List.{filter}
use Rattle.module_json.specs.ModuleFile.{is_joined, joining}
use Rattle.module_spec.specs.Spec.{powers}
use Rattle.module_json.proofs.space.add_squares.Given as goal

abbrev pub invariant-loop-k : goal.invariant-loop-k
invariant-loop-k l = l.entries.items ≡ l.initial.entries.items ++ map (joining l.i) (filter (is_joined l.min l.count l.i) (take l.k-index powers))
