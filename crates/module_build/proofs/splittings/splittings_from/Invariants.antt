-- Those of lower degrees.
use Rattle.std.proofs.Common.{◌≡◌, ◌&&◌, All, Bool, List, ℕ, nat_lt}
use Rattle.milnor_basis.specs.Product.{odd_by}
use Rattle.milnor_basis.specs.Exponents.{degree_of}
use Rattle.hopf_laws.specs.Diagonal.{splittings}
use Rattle.module_build.specs.Inside.Splittings.{sum_over, IsSplitting}
use Rattle.module_build.proofs.SplittingLists.{from}
use Rattle.module_build.proofs.splittings.splittings_from.Given as goal

abbrev pub invariant-loop-n : goal.invariant-loop-n
invariant-loop-n l = record {
  sums : (f : List ℕ × List ℕ → Bool) → sum_over f l.splittings.items ≡ odd_by (λ p. nat_lt (degree_of p.0) l.n && from l.first f p) (splittings l.r);
  each : All (IsSplitting l.r) l.splittings.items;
}
