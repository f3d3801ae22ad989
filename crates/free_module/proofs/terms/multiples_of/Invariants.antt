-- The products of the terms before this one are found.
use Rattle.std.proofs.Common.{◌≡◌, map, take}
use Rattle.free_module.specs.Inside.Terms.{factors_at}
use Rattle.free_module.proofs.terms.multiples_of.Given as goal

abbrev pub invariant-loop-term : goal.invariant-loop-term
invariant-loop-term l = map (λ m. m.now) l.found.items ≡ map (factors_at l.degree) (take l.term-index l.terms)
