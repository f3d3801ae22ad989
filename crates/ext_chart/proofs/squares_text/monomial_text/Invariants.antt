use Rattle.std.proofs.Common.{◌≡◌}
use Rattle.ext_chart.proofs.ProductSteps.{numbers_through}
use Rattle.ext_chart.proofs.squares_text.monomial_text.Given as goal

abbrev pub invariant-loop-i : goal.invariant-loop-i
invariant-loop-i l = l.text.items ≡ numbers_through l.number-items l.i
