use Rattle.std.proofs.Common.{◌≡◌}
use Rattle.std.specs.List.{flat_map, range_with_len}
use Rattle.module_spec.specs.Spec.{powers}
use Rattle.finite_module.specs.Text.{square_line}
use Rattle.finite_module.proofs.text.action_lines.Given as goal

abbrev pub invariant-loop-i : goal.invariant-loop-i
invariant-loop-i l = l.text.items ≡ flat_map (λ i. flat_map (square_line l.operators i) powers) (range_with_len 0 l.i)
