use Rattle.std.proofs.Common.{◌≡◌, ◌-◌, None, take}
use Rattle.milnor_basis.specs.Basis.{basis_of}
use Rattle.module_check.specs.Acceptance.{first_in, relation_of}
use Rattle.module_check.proofs.relations.check_degrees.Given as goal

abbrev pub invariant-loop-r : goal.invariant-loop-r
invariant-loop-r l = first_in (λ r. first_in (relation_of l.operators r) (basis_of (l.n - l.d))) (take l.r-index l.r-items) ≡ None
