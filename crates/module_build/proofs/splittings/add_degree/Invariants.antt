-- Those with the first left parts.
use Rattle.std.proofs.Common.{◌≡◌, All, Bool, List, ℕ, take}
use Rattle.f2_vec.specs.Vectors.{plus}
use Rattle.milnor_basis.specs.Product.{odd_by}
use Rattle.milnor_basis.specs.Basis.{basis_of}
use Rattle.module_build.specs.Inside.Splittings.{sum_over, IsSplitting}
use Rattle.module_build.proofs.SplittingLists.{with_left}
use Rattle.module_build.proofs.splittings.add_degree.Given as goal

abbrev pub invariant-loop-left : goal.invariant-loop-left
invariant-loop-left l = record {
  sums : (f : List ℕ × List ℕ → Bool) → sum_over f l.splittings.items ≡ plus (sum_over f l.initial.splittings.items) (odd_by (with_left l.r f) (take l.left-index (basis_of l.n)));
  each : All (IsSplitting l.r) l.initial.splittings.items → All (IsSplitting l.r) l.splittings.items;
}
