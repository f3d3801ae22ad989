use Rattle.std.proofs.Common.{◌≡◌, None, take}
use Rattle.module_check.specs.Acceptance.{first_in, relation_of}
use Rattle.module_check.proofs.relations.check_left.Given as goal

abbrev pub invariant-loop-s : goal.invariant-loop-s
invariant-loop-s l = first_in (relation_of l.operators l.r) (take l.s-index l.s-items) ≡ None
