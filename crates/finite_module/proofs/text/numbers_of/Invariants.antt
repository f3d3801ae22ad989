use Rattle.std.proofs.Common.{◌≡◌, ◌-◌, ◌<◌, ℕ, length, take, get_or}
use Rattle.std.specs.List.{range_with_len, items_where_true}
use Rattle.finite_module.proofs.text.numbers_of.Given as goal

abbrev pub invariant-loop-i : goal.invariant-loop-i
invariant-loop-i l = record {
  numbers : l.numbers.items ≡ items_where_true (take (l.i - l.start) l.v) (range_with_len l.start (l.i - l.start));
  within : (k : ℕ) → k < length l.numbers.items → get_or l.numbers.items k 0 < length l.generators;
}
