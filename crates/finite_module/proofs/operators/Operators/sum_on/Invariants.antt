-- The sum of the values of the first elements.
use Rattle.std.proofs.Common.{◌≡◌, pos, ◌+ℤ◌, length, map, take}
use Rattle.module_spec.specs.Spec.{degree_at}
use Rattle.finite_module.specs.Module.{width, value, total}
use Rattle.finite_module.proofs.operators.Operators.sum_on.Given as goal

abbrev pub invariant-loop-r : goal.invariant-loop-r
invariant-loop-r l = record {
  wide : length l.sum ≡ width l.self.generators (degree_at l.self.generators l.i +ℤ pos l.n);
  sum : l.sum ≡ total (width l.self.generators (degree_at l.self.generators l.i +ℤ pos l.n)) (map (λ r. value l.self.generators l.self.operators r l.i) (take l.r-index l.elements));
}
