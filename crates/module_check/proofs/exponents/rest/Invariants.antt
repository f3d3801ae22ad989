-- The exponents before the i-th stand one place lower, and there are zeros behind them.
use Rattle.std.proofs.Common.{◌≡◌, ℕ, suc, ◌<◌, ◌≤◌, length}
use Rattle.milnor_basis.specs.Exponents.{entry}
use Rattle.module_check.proofs.exponents.rest.Given as goal

abbrev pub invariant-loop-i : goal.invariant-loop-i
invariant-loop-i l = record {
  len : length l.numbers ≡ 8;
  same : (k : ℕ) → suc k < l.i → entry l.numbers k ≡ entry l.r (suc k);
  rest : (k : ℕ) → l.i ≤ suc k → entry l.numbers k ≡ 0;
}
