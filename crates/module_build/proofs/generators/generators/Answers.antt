use Rattle.std.proofs.Common.{◌≡◌, IfOk, ap, sym, subst, ◌∙◌}
use Rattle.module_spec.specs.Spec.{by_degree}
use Rattle.module_spec.specs.WellFormed.{AreByDegree}
use Rattle.module_build.specs.Inside.Construction.{generators_of}
use Rattle.module_build.proofs.LimitCases.{are_by_degree, by_degree-standing}
use Rattle.module_build.proofs.generators.generators.Goals as goal

pub by_degree-requires : goal.by_degree-requires
by_degree-requires c =
    let gs = generators_of c.args.basis.now in
    let same : by_degree c.in_ok-list.list.items ≡ gs = ap by_degree c.in_ok-list.ensures ∙ by_degree-standing gs c.requires.order in
    subst AreByDegree (sym same) (are_by_degree c.args.basis.now c.requires.order c.requires.limits)

pub returns : goal.returns
returns c =
    let gs = generators_of c.args.basis.now in
    let same : by_degree c.in_ok-list.list.items ≡ gs = ap by_degree c.in_ok-list.ensures ∙ by_degree-standing gs c.requires.order in
    subst (λ made. IfOk c.by_degree.result (λ generators. generators ≡ made)) same c.by_degree.ensures
