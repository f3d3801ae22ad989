use Rattle.milnor_basis.proofs.ProductTerms.{ChosenSoFar}
use Rattle.milnor_basis.proofs.product.chosen.Given as goal

abbrev pub invariant-loop-i : goal.invariant-loop-i
invariant-loop-i l = ChosenSoFar l.elements l.bits l.i l.terms.items
