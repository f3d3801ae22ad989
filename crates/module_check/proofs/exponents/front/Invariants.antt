-- The front of the exponents from the i-th on.
use Rattle.std.proofs.Common.{◌≡◌, drop}
use Rattle.milnor_basis.specs.Front.{front}
use Rattle.module_check.proofs.exponents.front.Given as goal

abbrev pub invariant-loop-i : goal.invariant-loop-i
invariant-loop-i l = l.front ≡ front (drop l.i l.r)
