-- No exponent at or past `len` is above 0.
use Rattle.std.proofs.Common.{◌≤◌, length}
use Rattle.milnor_basis.specs.Exponents.{trimmed}
use Rattle.milnor_basis.proofs.exps.Exps.len.Given as goal

abbrev pub invariant-loop-len : goal.invariant-loop-len
invariant-loop-len l = record {
  within : l.len ≤ 8;
  zeros_after : length (trimmed l.self-inside.numbers) ≤ l.len;
}

abbrev pub decreases-loop-len : goal.decreases-loop-len
decreases-loop-len l = l.len
