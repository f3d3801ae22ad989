use Rattle.std.proofs.Common.{◌≡◌, ◌-◌, None}
use Rattle.std.specs.List.{range_with_len}
use Rattle.module_check.specs.Acceptance.{first_in, relation_in_degrees}
use Rattle.module_check.proofs.relations.check_degree.Given as goal

abbrev pub invariant-loop-d : goal.invariant-loop-d
invariant-loop-d l = first_in (relation_in_degrees l.operators l.n) (range_with_len 1 (l.d - 1)) ≡ None
