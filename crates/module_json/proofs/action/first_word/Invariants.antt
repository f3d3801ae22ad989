use Rattle.std.proofs.Common.{◌≡◌, length}
use Rattle.module_json.specs.Actions.{words}
use Rattle.module_json.proofs.action.first_word.Given as goal

abbrev pub invariant-loop-rest : goal.invariant-loop-rest
invariant-loop-rest l = words l.left ≡ words l.fn.text

abbrev pub decreases-loop-rest : goal.decreases-loop-rest
decreases-loop-rest l = length l.left
