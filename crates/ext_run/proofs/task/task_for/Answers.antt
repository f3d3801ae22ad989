use Rattle.std.proofs.Common.{Some, sym, subst}
use Rattle.std.proofs.lemmas.Result.{err_from_is_err_and}
use Rattle.ext_run.specs.declared.plan.Plan.{Plan}
use Rattle.ext_run.specs.declared.plan.Plan.TheVariants.{Resolve, Seek, Check, Build, Migrate, Verify}
use Rattle.ext_run.specs.Answer.{IsTaskCauseFrom}
use Rattle.ext_run.proofs.Tasks.{resolve_cause, seek_cause, check_cause, migrate_cause, verify_cause, build_cause, resolve_task, seek_task, check_task, build_task, multiply_task, migrate_task, verify_task}
use Rattle.ext_run.proofs.task.task_for.Goals as goal

pub returns-in_err-resolved-in-Resolve-clause-cause : goal.returns-in_err-resolved-in-Resolve-clause-cause
returns-in_err-resolved-in-Resolve-clause-cause g c =
    let p = err_from_is_err_and c.from_residual.result c.from_residual.ensures.1 in
    let failure = c.in_err-resolved-in-Resolve.field-0.0 in
    let cause : IsTaskCauseFrom (Some (Resolve c.in-Resolve.origin c.in-Resolve.form c.in-Resolve.common)) (g.S.Source.left c.args.source.now) failure =
    resolve_cause c.in-Resolve.origin c.in-Resolve.form c.in-Resolve.common _ failure c.in_err-resolved-in-Resolve.ensures.cause in
    let here : IsTaskCauseFrom (Some c.args.plan) (g.S.Source.left c.args.source.now) failure = subst (λ (plan : Plan). IsTaskCauseFrom (Some plan) (g.S.Source.left c.args.source.now) failure) (sym c.in-Resolve.is) cause in
    rw (p.1, p.2) here

pub returns-in_err-module-in-Check-clause-cause : goal.returns-in_err-module-in-Check-clause-cause
returns-in_err-module-in-Check-clause-cause g c =
    let p = err_from_is_err_and c.from_residual-in_err-module-in-Check.result c.from_residual-in_err-module-in-Check.ensures.1 in
    let failure = c.in_err-module-in-Check.field-0.0 in
    let cause : IsTaskCauseFrom (Some Check) (g.S.Source.left c.args.source.now) failure = check_cause _ failure c.in_err-module-in-Check.ensures.cause in
    let here : IsTaskCauseFrom (Some c.args.plan) (g.S.Source.left c.args.source.now) failure = subst (λ (plan : Plan). IsTaskCauseFrom (Some plan) (g.S.Source.left c.args.source.now) failure) (sym c.in-Check.is) cause in
    rw (p.1, p.2) here

pub returns-in_err-built_text-in-Build-clause-cause : goal.returns-in_err-built_text-in-Build-clause-cause
returns-in_err-built_text-in-Build-clause-cause g c =
    let p = err_from_is_err_and c.from_residual-in_err-built_text-in-Build.result c.from_residual-in_err-built_text-in-Build.ensures.1 in
    let failure = c.in_err-built_text-in-Build.field-0.0 in
    let cause : IsTaskCauseFrom (Some (Build c.in-Build.made)) (g.S.Source.left c.args.source.now) failure = build_cause c.in-Build.made _ failure c.in_err-built_text-in-Build.ensures.cause in
    let here : IsTaskCauseFrom (Some c.args.plan) (g.S.Source.left c.args.source.now) failure = subst (λ (plan : Plan). IsTaskCauseFrom (Some plan) (g.S.Source.left c.args.source.now) failure) (sym c.in-Build.is) cause in
    rw (p.1, p.2) here

pub returns-in_ok-resolved-in-Resolve-clause-task : goal.returns-in_ok-resolved-in-Resolve-clause-task
returns-in_ok-resolved-in-Resolve-clause-task g c =
    resolve_task c.args.plan c.in-Resolve.origin c.in-Resolve.form c.in-Resolve.common _ c.in_ok-resolved-in-Resolve.resolved _ c.in-Resolve.is c.in_ok-resolved-in-Resolve.ensures.module c.to_resolve.ensures

pub returns-in_ok-module_line-in-Check-clause-task : goal.returns-in_ok-module_line-in-Check-clause-task
returns-in_ok-module_line-in-Check-clause-task g c =
    check_task c.args.plan _ c.in_ok-module-in-Check.module.plain c.in_ok-module_line-in-Check.field-0 c.in-Check.is c.in_ok-module-in-Check.ensures.module c.in_ok-module_line-in-Check.ensures

pub returns-in_ok-built_text-in-Build-clause-task : goal.returns-in_ok-built_text-in-Build-clause-task
returns-in_ok-built_text-in-Build-clause-task g c = build_task c.args.plan c.in-Build.made _ c.in_ok-built_text-in-Build.field-0 c.in-Build.is c.in_ok-built_text-in-Build.ensures.text

pub returns-in_ok-product_lines-in-Multiply-clause-task : goal.returns-in_ok-product_lines-in-Multiply-clause-task
returns-in_ok-product_lines-in-Multiply-clause-task g c = multiply_task c.args.plan c.in-Multiply.squares _ c.in_ok-product_lines-in-Multiply.field-0 c.in-Multiply.is c.in_ok-product_lines-in-Multiply.ensures

pub returns-in_err-read_module-in-Migrate-clause-cause : goal.returns-in_err-read_module-in-Migrate-clause-cause
returns-in_err-read_module-in-Migrate-clause-cause g c =
    let p = err_from_is_err_and c.from_residual-in_err-read_module-in-Migrate.result c.from_residual-in_err-read_module-in-Migrate.ensures.1 in
    let failure = c.in_err-read_module-in-Migrate.field-0.0 in
    let cause : IsTaskCauseFrom (Some Migrate) (g.S.Source.left c.args.source.now) failure = migrate_cause _ failure c.in_err-read_module-in-Migrate.ensures.cause in
    let here : IsTaskCauseFrom (Some c.args.plan) (g.S.Source.left c.args.source.now) failure = subst (λ (plan : Plan). IsTaskCauseFrom (Some plan) (g.S.Source.left c.args.source.now) failure) (sym c.in-Migrate.is) cause in
    rw (p.1, p.2) here

pub returns-in_err-read_module-in-Verify-clause-cause : goal.returns-in_err-read_module-in-Verify-clause-cause
returns-in_err-read_module-in-Verify-clause-cause g c =
    let p = err_from_is_err_and c.from_residual-in_err-read_module-in-Verify.result c.from_residual-in_err-read_module-in-Verify.ensures.1 in
    let failure = c.in_err-read_module-in-Verify.field-0.0 in
    let cause : IsTaskCauseFrom (Some (Verify c.in-Verify.range)) (g.S.Source.left c.args.source.now) failure = verify_cause c.in-Verify.range _ failure c.in_err-read_module-in-Verify.ensures.cause in
    let here : IsTaskCauseFrom (Some c.args.plan) (g.S.Source.left c.args.source.now) failure = subst (λ (plan : Plan). IsTaskCauseFrom (Some plan) (g.S.Source.left c.args.source.now) failure) (sym c.in-Verify.is) cause in
    rw (p.1, p.2) here

pub returns-in_ok-read_module-in-Migrate-clause-task : goal.returns-in_ok-read_module-in-Migrate-clause-task
returns-in_ok-read_module-in-Migrate-clause-task g c = migrate_task c.args.plan _ c.in_ok-read_module-in-Migrate.field-0 c.in-Migrate.is c.in_ok-read_module-in-Migrate.ensures.module

pub returns-in_ok-read_module-in-Verify-clause-task : goal.returns-in_ok-read_module-in-Verify-clause-task
returns-in_ok-read_module-in-Verify-clause-task g c = verify_task c.args.plan c.in-Verify.range _ c.in_ok-read_module-in-Verify.field-0 c.in-Verify.is c.in_ok-read_module-in-Verify.ensures.module

pub returns-in_err-resolved-in-Seek-clause-cause : goal.returns-in_err-resolved-in-Seek-clause-cause
returns-in_err-resolved-in-Seek-clause-cause g c =
    let p = err_from_is_err_and c.from_residual-in_err-resolved-in-Seek.result c.from_residual-in_err-resolved-in-Seek.ensures.1 in
    let failure = c.in_err-resolved-in-Seek.field-0.0 in
    let cause : IsTaskCauseFrom (Some (Seek c.in-Seek.sought c.in-Seek.workers)) (g.S.Source.left c.args.source.now) failure = seek_cause c.in-Seek.sought c.in-Seek.workers _ failure c.in_err-resolved-in-Seek.ensures.cause in
    let here : IsTaskCauseFrom (Some c.args.plan) (g.S.Source.left c.args.source.now) failure = subst (λ (plan : Plan). IsTaskCauseFrom (Some plan) (g.S.Source.left c.args.source.now) failure) (sym c.in-Seek.is) cause in
    rw (p.1, p.2) here

pub returns-in_ok-resolved-in-Seek-clause-task : goal.returns-in_ok-resolved-in-Seek-clause-task
returns-in_ok-resolved-in-Seek-clause-task g c =
    seek_task c.args.plan c.in-Seek.sought c.in-Seek.workers _ c.in_ok-resolved-in-Seek.resolved _ c.in-Seek.is c.in_ok-resolved-in-Seek.ensures.module c.to_seek.ensures.task
