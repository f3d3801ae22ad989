use Rattle.std.proofs.Common.{◌≡◌, take}
use Rattle.std.specs.List.{flat_map}
use Rattle.finite_module.specs.Text.{generator_line}
use Rattle.finite_module.proofs.text.generator_lines.Given as goal

abbrev pub invariant-loop-i : goal.invariant-loop-i
invariant-loop-i l = l.text.items ≡ flat_map generator_line (take l.i l.generators)
