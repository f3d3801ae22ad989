use Rattle.std.proofs.Common.{◌≡◌, ◌-◌, length, map}
use Rattle.std.specs.List.{range_with_len}
use Rattle.f2_choice.specs.Inside.Tables.{entry_at, row_or_zero}
use Rattle.f2_choice.proofs.parts.spread.Given as goal

abbrev pub invariant-loop-e : goal.invariant-loop-e
invariant-loop-e l = map (λ v. v.now) l.spread.items ≡ map (λ e. row_or_zero (length l.zero) l.rows (entry_at l.table (length l.table - 1 - e))) (range_with_len 0 l.e)
