use Rattle.std.proofs.Common.{◌≡◌, ◌+◌, ◌-◌, ℕ, List, ap, sym, ◌∙◌, arith}
use Rattle.std.proofs.lemmas.Result.{err_from_is_err_and}
use Rattle.milnor_basis.specs.Exponents.{degree_of}
use Rattle.milnor_basis.specs.Basis.{basis_of}
use Rattle.milnor_basis.proofs.Places.{degree_of-read}
use Rattle.module_check.specs.Acceptance.{first_in, relation_of}
use Rattle.module_check.specs.Inside.Relations.{reaching}
use Rattle.module_check.proofs.FirstIn.{first_in_more_at, first_in_found_at, first_in_all}
use Rattle.module_check.proofs.relations.check_degrees.Goals.{After-r-item}
use Rattle.module_check.proofs.relations.check_degrees.Goals as goal

degree_is : (c : After-r-item) → degree_of c.r-item.result ≡ c.args.d
degree_is c = degree_of-read c.args.d c.loop-r.r-index c.of_degree-r-items.result.now c.r-item.result c.of_degree-r-items.ensures c.loop-r-test.true c.r-item.is

pub check_left-requires-clause-degree : goal.check_left-requires-clause-degree
check_left-requires-clause-degree c = omega (arith, degree_is (goal.at.check_left-requires-clause-degree c).After-r-item, c.requires.left, c.requires.degree)

pub check_left-requires-clause-numbers : goal.check_left-requires-clause-numbers
check_left-requires-clause-numbers c =
    let whole : c.args.n ≡ degree_of c.r-item.result + (c.args.n - c.args.d) = omega (arith, degree_is (goal.at.check_left-requires-clause-numbers c).After-r-item, c.requires.left) in
    c.requires.numbers ∙ ap (reaching c.args.operators.now.generators) whole

pub returns-in_err-check_left-clause-fails : goal.returns-in_err-check_left-clause-fails
returns-in_err-check_left-clause-fails c =
    let p = err_from_is_err_and c.from_residual.result c.from_residual.ensures.1 in
    rw (p.1, p.2)
    (λ other. first_in_found_at (λ r. first_in (relation_of c.args.operators.now r) (basis_of (c.args.n - c.args.d))) c.of_degree-r-items.result.now (basis_of c.args.d) c.loop-r.r-index c.r-item.result c.in_err-check_left.field-0.0 c.of_degree-r-items.ensures c.loop-r-test.true c.loop-r.invariant c.r-item.is (c.in_err-check_left.ensures.fails other))

pub loop-r-preserved : goal.loop-r-preserved
loop-r-preserved c =
    first_in_more_at (λ r. first_in (relation_of c.args.operators.now r) (basis_of (c.args.n - c.args.d))) c.of_degree-r-items.result.now c.loop-r.r-index c.r-item.result c.loop-r-test.true c.loop-r.invariant c.r-item.is c.in_ok-check_left.ensures.holds

pub returns-clause-holds : goal.returns-clause-holds
returns-clause-holds c =
    let f = λ (r : List ℕ). first_in (relation_of c.args.operators.now r) (basis_of (c.args.n - c.args.d)) in
    ap (first_in f) (sym c.of_degree-r-items.ensures) ∙ first_in_all f c.of_degree-r-items.result.now c.loop-r.r-index c.loop-r-test.false c.loop-r.invariant
