use Rattle.std.proofs.Common.{◌≡◌, IfOk, sym, subst}
use Rattle.std.proofs.lemmas.Result.{err_from_is_err_and}
use Rattle.module_spec.specs.Spec.{by_degree}
use Rattle.module_spec.specs.WellFormed.{AreByDegree}
use Rattle.finite_module.specs.Sample.{named}
use Rattle.finite_module.proofs.SampleFile.{named_made, named_by_degree, generators_made}
use Rattle.finite_module.proofs.sample.generators.Goals as goal

pub returns-in_err-named : goal.returns-in_err-named
returns-in_err-named c =
    let p = err_from_is_err_and c.from_residual-in_err-named.result c.from_residual-in_err-named.ensures.1 in
    rw p.1 tt

pub by_degree-requires : goal.by_degree-requires
by_degree-requires c =
    let all : c.in_ok-named.named.items ≡ named c.args.n = named_made c.args.n c.new.result.items c.in_ok-bottom.bottom.items c.in_ok-named.named.items c.new.ensures.items c.in_ok-bottom.ensures c.in_ok-named.ensures in
    subst (λ gs. AreByDegree (by_degree gs)) (sym all) (named_by_degree c.args.n)

pub returns : goal.returns
returns c =
    let all : c.in_ok-named.named.items ≡ named c.args.n = named_made c.args.n c.new.result.items c.in_ok-bottom.bottom.items c.in_ok-named.named.items c.new.ensures.items c.in_ok-bottom.ensures c.in_ok-named.ensures in
    subst (λ gs. IfOk c.by_degree.result (λ generators. generators ≡ gs)) (generators_made c.args.n c.in_ok-named.named.items all) c.by_degree.ensures
