-- The actions of the first squares.
use Rattle.std.proofs.Common.{◌≡◌, take}
use Rattle.std.specs.List.{flat_map}
use Rattle.module_spec.specs.Spec.{powers}
use Rattle.module_build.specs.FileText.{action_of_square}
use Rattle.module_build.specs.Inside.Written.{written_after}
use Rattle.module_build.proofs.file.add_actions.Given as goal

abbrev pub invariant-loop-n : goal.invariant-loop-n
invariant-loop-n l = l.text.items ≡ written_after l.initial.text.items (flat_map (action_of_square l.given.plain l.i) (take l.n-index powers))
