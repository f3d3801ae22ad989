-- The sum so far and the degree of the exponents that are left make the whole degree.
use Rattle.std.proofs.Common.{◌≡◌, ◌+◌, drop}
use Rattle.milnor_basis.specs.Exponents.{degree_from, degree_of}
use Rattle.milnor_basis.proofs.exps.Exps.degree.Given as goal

abbrev pub invariant-loop-i : goal.invariant-loop-i
invariant-loop-i l = l.degree + degree_from (l.i + 1) (drop l.i l.number-items) ≡ degree_of l.number-items
