-- The sum over the first coordinates.
use Rattle.std.proofs.Common.{◌≡◌, pos, ◌+ℤ◌, length, map, take}
use Rattle.f2_vec.specs.Spans.{combination}
use Rattle.milnor_basis.specs.Exponents.{degree_of}
use Rattle.finite_module.specs.Module.{generators_in, width, value}
use Rattle.finite_module.proofs.operators.Operators.act_on.Given as goal

abbrev pub invariant-loop-k : goal.invariant-loop-k
invariant-loop-k l = record {
  wide : length l.sum ≡ width l.self.generators (l.t +ℤ pos (degree_of l.r));
  sum : l.sum ≡ combination (width l.self.generators (l.t +ℤ pos (degree_of l.r))) (take l.k l.v) (take l.k (map (value l.self.generators l.self.operators l.r) (generators_in l.self.generators l.t)));
}
