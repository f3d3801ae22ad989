use Rattle.std.proofs.Common.{◌≡◌, filter}
use Rattle.std.specs.List.{range_with_len}
use Rattle.module_check.specs.Inside.Relations.{reaches}
use Rattle.module_check.proofs.relations.reaching.Given as goal

abbrev pub invariant-loop-i : goal.invariant-loop-i
invariant-loop-i l = l.numbers.items ≡ filter (reaches l.generators l.n) (range_with_len 0 l.i)
