use Rattle.std.proofs.Common.{◌≡◌, ◌+◌, ◌-◌, inl, inr, ap, sym, ◌∙◌, arith}
use Rattle.std.proofs.lemmas.Bool.{cases_lt}
use Rattle.std.specs.List.{range_with_len}
use Rattle.std.proofs.lemmas.Result.{err_from_is_err_and}
use Rattle.finite_module.specs.DerivedAction.{span}
use Rattle.module_check.specs.Acceptance.{first_in, relation_in_degree}
use Rattle.module_check.proofs.FirstIn.{first_in_range_more, first_in_range_found}
use Rattle.module_check.proofs.relations.check_all.Goals.{else-loop-n-test, then-loop-n-test+in_ok-check_degree+else-n-n-end}
use Rattle.module_check.proofs.relations.check_all.Goals as goal

pub returns-in_err-check_degree-clause-fails : goal.returns-in_err-check_degree-clause-fails
returns-in_err-check_degree-clause-fails c =
    let p = err_from_is_err_and c.from_residual.result c.from_residual.ensures.1 in
    let last : c.max-n-end.result ≡ span c.args.operators.now.generators = c.max-n-end.ensures ∙ c.basis.ensures in
    rw (p.1, p.2)
    (λ other. first_in_range_found (relation_in_degree c.args.operators.now) 2 (span c.args.operators.now.generators - 1) (c.loop-n.n - 2) c.loop-n.n c.in_err-check_degree.field-0.0 (omega arith) (omega arith) c.loop-n.invariant (c.in_err-check_degree.ensures.fails other))

pub loop-n-preserved : goal.loop-n-preserved
loop-n-preserved c =
    let f = relation_in_degree c.args.operators.now in
    let next : c.loop-n.n - 2 + 1 ≡ c.loop-n.n + 1 - 2 = omega arith in
    ap (λ k. first_in f (range_with_len 2 k)) (sym next) ∙ first_in_range_more f 2 (c.loop-n.n - 2) c.loop-n.n (omega arith) c.loop-n.invariant c.in_ok-check_degree.ensures.holds

pub returns-clause-holds : goal.returns-clause-holds
returns-clause-holds c =
    let f = relation_in_degree c.args.operators.now in
    let last : c.max-n-end.result ≡ span c.args.operators.now.generators = c.max-n-end.ensures ∙ c.basis.ensures in
    elim c.loop-n-test.branch [
      | else-loop-n-test w ↦ (let none : span c.args.operators.now.generators - 1 ≡ 0 = elim (cases_lt c.max-n-end.result 2) [ inl short ↦ omega arith | inr long ↦ absurd (omega (arith, c.loop-n.auto.n-end long, w.loop-n-test.false)) ] in ap (λ k. first_in f (range_with_len 2 k)) none)
      | then-loop-n-test+in_ok-check_degree+else-n-n-end w ↦
          (let whole : c.loop-n.n - 2 + 1 ≡ span c.args.operators.now.generators - 1 = omega arith in
          ap (λ k. first_in f (range_with_len 2 k)) (sym whole) ∙ first_in_range_more f 2 (c.loop-n.n - 2) c.loop-n.n (omega arith) c.loop-n.invariant w.in_ok-check_degree.ensures.holds)
    ]
