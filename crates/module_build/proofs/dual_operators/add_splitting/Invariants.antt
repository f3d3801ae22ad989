-- The sum over the first generators of the degree.
use Rattle.std.proofs.Common.{◌≡◌, ◌-◌, ◌+◌, ◌&&◌, pos, ◌+ℤ◌, length, map}
use Rattle.std.specs.List.{range_with_len}
use Rattle.f2_vec.specs.Vectors.{sum_of}
use Rattle.milnor_basis.specs.Exponents.{degree_of}
use Rattle.milnor_basis.specs.Product.{odd_by}
use Rattle.module_spec.specs.Spec.{degree_at}
use Rattle.finite_module.specs.Module.{generators_in, width}
use Rattle.built_laws.specs.Built.{action_of}
use Rattle.module_build.specs.Inside.Construction.{dual_by, number_at}
use Rattle.module_build.proofs.dual_operators.add_splitting.Given as goal

abbrev pub invariant-loop-k : goal.invariant-loop-k
invariant-loop-k l = record {
  wide : length l.sum ≡ width l.before.generators (degree_at l.before.generators l.i +ℤ pos (degree_of l.splitting.left + degree_of l.splitting.right));
  sum : l.sum ≡ sum_of l.initial.sum (map (λ j. odd_by (λ k. (action_of l.given.plain).coefficient l.splitting.left (number_at l.order k) (number_at l.order l.i) && dual_by l.given.plain l.order l.splitting.right k j) (range_with_len l.initial.k (l.k - l.initial.k))) (generators_in l.before.generators (degree_at l.before.generators l.i +ℤ pos (degree_of l.splitting.left + degree_of l.splitting.right))));
}
