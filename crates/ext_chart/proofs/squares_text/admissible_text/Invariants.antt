use Rattle.std.proofs.Common.{◌≡◌}
use Rattle.ext_chart.proofs.ProductSteps.{monomials_through}
use Rattle.ext_chart.proofs.squares_text.admissible_text.Given as goal

abbrev pub invariant-loop-k : goal.invariant-loop-k
invariant-loop-k l = l.text.items ≡ monomials_through l.monomials l.k
