-- The numbers of the exponents from place i on, the last first.
use Rattle.std.proofs.Common.{◌≡◌, drop, reverse}
use Rattle.milnor_basis.specs.Front.{front}
use Rattle.adem_laws.specs.Admissible.{monomial_of}
use Rattle.sq_calc.proofs.leading.leading.Given as goal

abbrev pub invariant-loop-i : goal.invariant-loop-i
invariant-loop-i l = record {
  front : l.front ≡ front (drop l.i l.r);
  numbers : l.numbers.items ≡ reverse (monomial_of (drop l.i l.r));
}
