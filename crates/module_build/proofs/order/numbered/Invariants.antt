-- The first basis elements.
use Rattle.std.proofs.Common.{◌≡◌, map}
use Rattle.std.specs.List.{range_with_len}
use Rattle.module_build.specs.Inside.Construction.{placed}
use Rattle.module_build.proofs.order.numbered.Given as goal

abbrev pub invariant-loop-number : goal.invariant-loop-number
invariant-loop-number l = l.order.items ≡ map (placed l.construction) (range_with_len 0 l.number)
