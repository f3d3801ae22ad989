-- The vacant elements so far.
use Rattle.std.proofs.Common.{◌≡◌, ◌-◌}
use Rattle.std.specs.List.{range_with_len, filter}
use Rattle.f2_kernel.specs.Inside.Upward.{has_no_pivot}
use Rattle.f2_kernel.proofs.kernel.vacant_of.Given as goal

abbrev pub invariant-loop-e : goal.invariant-loop-e
invariant-loop-e l = l.vacant.items ≡ filter (λ e. has_no_pivot l.form (l.n - 1 - e)) (range_with_len 0 l.e)
