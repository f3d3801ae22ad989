use Rattle.std.proofs.Common.{◌≡◌, ◌+◌, ◌<◌, ℕ, length, get_or, ap, sym, ◌∙◌}
use Rattle.std.proofs.lemmas.Result.{err_from_is_err_and}
use Rattle.std.proofs.lemmas.List.Elements.{All-same, All-get_or}
use Rattle.milnor_basis.specs.Exponents.{degree_of}
use Rattle.module_check.specs.Acceptance.{relation_on}
use Rattle.module_check.specs.Inside.Relations.{reaching}
use Rattle.module_check.proofs.FirstIn.{first_in_more, first_in_found, first_in_all}
use Rattle.module_check.proofs.Sides.{reaching_within, relation_of-reaching}
use Rattle.module_check.proofs.relations.check_pair.Goals.{In_ok-pair}
use Rattle.module_check.proofs.relations.check_pair.Goals as goal

pub check_on-requires : goal.check_on-requires
check_on-requires c =
    let n = degree_of c.args.r.now + degree_of c.args.s.now in
    All-get_or (λ i. i < length c.args.operators.now.generators) c.args.numbers.now c.loop-i.i-index 0 c.loop-i-test.true (All-same (λ i. i < length c.args.operators.now.generators) c.args.numbers.now (reaching c.args.operators.now.generators n) c.requires.numbers (reaching_within c.args.operators.now.generators n))

-- the pair is of the two elements
pair_is : (c : In_ok-pair) (i : ℕ) → relation_on c.args.operators.now c.args.r.now c.args.s.now i ≡ relation_on c.args.operators.now c.in_ok-pair.pair.r c.in_ok-pair.pair.s i
pair_is c i =
    ap (λ r. relation_on c.args.operators.now r c.args.s.now i) (sym c.in_ok-pair.ensures.first) ∙ ap (λ s. relation_on c.args.operators.now c.in_ok-pair.pair.r s i) (sym c.in_ok-pair.ensures.second)

pub returns-in_err-check_on-clause-fails : goal.returns-in_err-check_on-clause-fails
returns-in_err-check_on-clause-fails c =
    let p = err_from_is_err_and c.from_residual-in_err-check_on.result c.from_residual-in_err-check_on.ensures.1 in
    rw (p.1, p.2)
    (λ other. sym (relation_of-reaching c.args.operators.now c.args.r.now c.args.s.now c.args.numbers.now c.in_ok-pair.ensures.widths c.requires.numbers)
    ∙ first_in_found (relation_on c.args.operators.now c.args.r.now c.args.s.now) c.args.numbers.now c.loop-i.i-index 0 c.in_err-check_on.field-0.0 c.loop-i-test.true c.loop-i.invariant
    (pair_is (goal.at.returns-in_err-check_on-clause-fails c).In_ok-pair (get_or c.args.numbers.now c.loop-i.i-index 0) ∙ c.in_err-check_on.ensures.fails other))

pub loop-i-preserved : goal.loop-i-preserved
loop-i-preserved c =
    first_in_more (relation_on c.args.operators.now c.args.r.now c.args.s.now) c.args.numbers.now c.loop-i.i-index 0 c.loop-i-test.true c.loop-i.invariant
    (pair_is (goal.at.loop-i-preserved c).In_ok-pair (get_or c.args.numbers.now c.loop-i.i-index 0) ∙ c.in_ok-check_on.ensures.holds)

pub returns-clause-holds : goal.returns-clause-holds
returns-clause-holds c =
    sym (relation_of-reaching c.args.operators.now c.args.r.now c.args.s.now c.args.numbers.now c.in_ok-pair.ensures.widths c.requires.numbers)
    ∙ first_in_all (relation_on c.args.operators.now c.args.r.now c.args.s.now) c.args.numbers.now c.loop-i.i-index c.loop-i-test.false c.loop-i.invariant
