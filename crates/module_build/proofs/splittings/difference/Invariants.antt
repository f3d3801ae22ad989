-- The first differences, and zeros behind them.
use Rattle.std.proofs.Common.{◌≡◌, ◌+◌, ◌<◌, ◌≤◌, ℕ, length}
use Rattle.milnor_basis.specs.Exponents.{entry}
use Rattle.module_build.proofs.splittings.difference.Given as goal

abbrev pub invariant-loop-i : goal.invariant-loop-i
invariant-loop-i l = record {
  long : length l.numbers ≡ 8;
  before : (j : ℕ) → j < l.i → entry l.numbers j + entry l.a j ≡ entry l.r j;
  behind : (j : ℕ) → l.i ≤ j → entry l.numbers j ≡ 0;
}
