-- The actions on the first generators.
use Rattle.std.proofs.Common.{◌≡◌, []}
use Rattle.std.specs.List.{flat_map, range_with_len}
use Rattle.module_spec.specs.Spec.{powers}
use Rattle.module_build.specs.FileText.{action_of_square}
use Rattle.module_build.specs.Inside.Written.{written_after}
use Rattle.module_build.proofs.file.actions.Given as goal

abbrev pub invariant-loop-i : goal.invariant-loop-i
invariant-loop-i l = l.text.items ≡ written_after [] (flat_map (λ i. flat_map (action_of_square l.given.plain i) powers) (range_with_len 0 l.i))
