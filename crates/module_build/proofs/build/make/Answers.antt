use Rattle.std.proofs.Common.{◌≡◌, None, ap, sym, subst, ◌∙◌}
use Rattle.module_spec.specs.WellFormed.{NeverFall}
use Rattle.module_build.specs.Limits.{limit_of}
use Rattle.module_build.specs.Inside.Construction.{order_of, degrees_of, generators_of}
use Rattle.module_build.proofs.LimitCases.{generators-degrees}
use Rattle.module_build.proofs.Constructed.{stands_by_degree}
use Rattle.module_build.proofs.build.make.Goals as goal

pub returns-in-Some-clause-refused : goal.returns-in-Some-clause-refused
returns-in-Some-clause-refused c =
    let own : c.as_slice.result.now ≡ order_of c.args.construction.now = c.as_slice.ensures.value ∙ c.in_ok-order.ensures in
    λ _. ap limit_of (generators-degrees 0 (order_of c.args.construction.now)) ∙ ap (λ ps. limit_of (degrees_of ps)) (sym own) ∙ sym c.in-Some.ensures

pub generators-requires-clause-order : goal.generators-requires-clause-order
generators-requires-clause-order c =
    let own : c.as_slice-2.result.now ≡ order_of c.args.construction.now = c.as_slice-2.ensures.value ∙ c.in_ok-order.ensures in
    subst (λ ps. NeverFall (generators_of ps)) (sym own) (stands_by_degree c.args.construction.now)

pub returns-clause-within : goal.returns-clause-within
returns-clause-within c =
    let own : c.as_slice.result.now ≡ order_of c.args.construction.now = c.as_slice.ensures.value ∙ c.in_ok-order.ensures in
    ap limit_of (generators-degrees 0 (order_of c.args.construction.now)) ∙ ap (λ ps. limit_of (degrees_of ps)) (sym own) ∙ sym c.in_default.ensures
