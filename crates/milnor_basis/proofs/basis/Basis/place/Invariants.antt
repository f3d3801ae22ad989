-- The first i exponents have the degree so far, and their place among the lists of i exponents is the place so far.
use Rattle.std.proofs.Common.{◌≡◌, ◌≤◌, Some, take, slice_get}
use Rattle.milnor_basis.specs.Exponents.{degree_of}
use Rattle.milnor_basis.specs.Basis.{lists_of}
use Rattle.milnor_basis.proofs.basis.Basis.place.Given as goal

abbrev pub invariant-loop-i : goal.invariant-loop-i
invariant-loop-i l = record {
  degree : l.degree ≡ degree_of (take l.i l.r);
  small : l.degree ≤ l.self;
  place : slice_get (lists_of l.i l.degree) l.place ≡ Some (take l.i l.r);
}
