-- The squares of the first pieces.
use Rattle.std.proofs.Common.{◌≡◌, filter_map}
use Rattle.std.specs.List.{range_with_len}
use Rattle.finite_module.specs.Sample.{entry_of}
use Rattle.finite_module.proofs.sample.actions.Given as goal

abbrev pub invariant-loop-k : goal.invariant-loop-k
invariant-loop-k l = l.actions.items ≡ filter_map (entry_of l.n) (range_with_len 0 l.k)
