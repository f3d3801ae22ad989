-- The basis elements from place i on are taken off.
use Rattle.sq_calc.proofs.Walk.{IsWalked}
use Rattle.sq_calc.proofs.convert.leading_monomials.Given as goal

abbrev pub invariant-loop-i : goal.invariant-loop-i
invariant-loop-i l = IsWalked l.deg l.i l.v l.rest l.monomials.items
