use Rattle.std.proofs.Common.{◌≡◌, ◌+◌, ap, sym, ◌∙◌, arith}
use Rattle.std.proofs.lemmas.Result.{err_from_is_err_and}
use Rattle.milnor_basis.specs.Exponents.{degree_of}
use Rattle.milnor_basis.specs.Basis.{basis_of}
use Rattle.milnor_basis.proofs.Places.{degree_of-read}
use Rattle.module_check.specs.Acceptance.{relation_of}
use Rattle.module_check.specs.Inside.Relations.{reaching}
use Rattle.module_check.proofs.FirstIn.{first_in_more_at, first_in_found_at}
use Rattle.module_check.proofs.relations.check_left.Goals.{After-s-item}
use Rattle.module_check.proofs.relations.check_left.Goals as goal

degree_is : (c : After-s-item) → degree_of c.s-item.result ≡ c.args.d
degree_is c = degree_of-read c.args.d c.loop-s.s-index c.of_degree-s-items.result.now c.s-item.result c.of_degree-s-items.ensures c.loop-s-test.true c.s-item.is

pub check_pair-requires-clause-degree : goal.check_pair-requires-clause-degree
check_pair-requires-clause-degree c = omega (arith, degree_is (goal.at.check_pair-requires-clause-degree c).After-s-item, c.requires.degree)

pub check_pair-requires-clause-numbers : goal.check_pair-requires-clause-numbers
check_pair-requires-clause-numbers c =
    c.requires.numbers ∙ ap (λ k. reaching c.args.operators.now.generators (degree_of c.args.r.now + k)) (sym (degree_is (goal.at.check_pair-requires-clause-numbers c).After-s-item))

pub returns-in_err-check_pair-clause-fails : goal.returns-in_err-check_pair-clause-fails
returns-in_err-check_pair-clause-fails c =
    let p = err_from_is_err_and c.from_residual.result c.from_residual.ensures.1 in
    rw (p.1, p.2)
    (λ other. first_in_found_at (relation_of c.args.operators.now c.args.r.now) c.of_degree-s-items.result.now (basis_of c.args.d) c.loop-s.s-index c.s-item.result c.in_err-check_pair.field-0.0 c.of_degree-s-items.ensures c.loop-s-test.true c.loop-s.invariant c.s-item.is (c.in_err-check_pair.ensures.fails other))

pub loop-s-preserved : goal.loop-s-preserved
loop-s-preserved c =
    first_in_more_at (relation_of c.args.operators.now c.args.r.now) c.of_degree-s-items.result.now c.loop-s.s-index c.s-item.result c.loop-s-test.true c.loop-s.invariant c.s-item.is c.in_ok-check_pair.ensures.holds
