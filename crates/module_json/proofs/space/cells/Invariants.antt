-- The first cells.
use Rattle.std.proofs.Common.{◌≡◌}
use Rattle.module_json.specs.ModuleFile.{cells}
use Rattle.module_json.proofs.space.cells.Given as goal

abbrev pub invariant-loop-i : goal.invariant-loop-i
invariant-loop-i l = l.cells.items ≡ cells l.min l.i
