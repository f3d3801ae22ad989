use Rattle.std.proofs.Common.{◌≡◌, None, take}
use Rattle.module_check.specs.Acceptance.{first_in, relation_on}
use Rattle.module_check.proofs.relations.check_pair.Given as goal

abbrev pub invariant-loop-i : goal.invariant-loop-i
invariant-loop-i l = first_in (relation_on l.operators l.r l.s) (take l.i-index l.numbers) ≡ None
