-- The numbers that were not added yet make up the rest of the sum.
use Rattle.std.proofs.Common.{◌≡◌, ◌+◌, ◌<◌, ◌^◌, drop}
use Rattle.std.specs.List.{sum}
use Rattle.monomial.proofs.mono.Mono.degree.Given as goal

abbrev pub invariant-loop-number : goal.invariant-loop-number
invariant-loop-number l = record {
  rest : l.degree + sum (drop l.number-index l.self) ≡ sum l.self;
  small : l.degree < 2 ^ 16;
}
