-- The rows have the pairs before this one.
use Rattle.free_module.proofs.PairSums.{AddsFirst}
use Rattle.free_module.proofs.terms.add_products.Given as goal

abbrev pub invariant-loop-pair : goal.invariant-loop-pair
invariant-loop-pair l = AddsFirst l.offset l.pair-items l.pair-index l.fn.rows l.rows
