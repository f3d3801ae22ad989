-- The product of the squares from place i on.
use Rattle.std.proofs.Common.{◌≡◌, drop}
use Rattle.std.specs.List.{sum}
use Rattle.adem_laws.specs.Admissible.{value}
use Rattle.sq_calc.proofs.convert.to_milnor.Given as goal

abbrev pub invariant-loop-i : goal.invariant-loop-i
invariant-loop-i l = record {
  product : l.product ≡ value (drop l.i l.mono);
  degree : l.degree ≡ sum (drop l.i l.mono);
}
