use Rattle.std.proofs.Common.{◌≡◌, ◌-◌, None}
use Rattle.std.specs.List.{range_with_len}
use Rattle.module_check.specs.Acceptance.{first_in, relation_in_degree}
use Rattle.module_check.proofs.relations.check_all.Given as goal

abbrev pub invariant-loop-n : goal.invariant-loop-n
invariant-loop-n l = first_in (relation_in_degree l.operators) (range_with_len 2 (l.n - 2)) ≡ None
