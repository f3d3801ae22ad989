use Rattle.std.proofs.Common.{◌≡◌, take}
use Rattle.std.specs.List.{flat_map}
use Rattle.module_spec.specs.Spec.{powers}
use Rattle.finite_module.specs.Text.{square_line}
use Rattle.finite_module.proofs.text.square_lines.Given as goal

abbrev pub invariant-loop-n : goal.invariant-loop-n
invariant-loop-n l = l.text.items ≡ flat_map (square_line l.operators l.i) (take l.n-index powers)
