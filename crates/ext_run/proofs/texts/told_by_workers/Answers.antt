use Rattle.ext_run.specs.Devices.{device_of}
use Rattle.ext_run.specs.Plan.{live_where}
use Rattle.ext_run.proofs.Continuing.{continued, cut_off}
use Rattle.ext_run.proofs.Reporting.{heard_of, told_there}
use Rattle.std.proofs.Common.{arith, sym, subst}
use Rattle.std.specs.Prelude.{OnErr}
use Rattle.ext_run.proofs.Courses.{resolved_narrowed}
use Rattle.ext_run.proofs.texts.told_by_workers.Goals as goal

pub returns-in-Ok-clause-continued : goal.returns-in-Ok-clause-continued
returns-in-Ok-clause-continued g c = continued _ _ _ _ c.args.form _ _ _ _ c.resolved_by_workers-resolved.ensures.resolved c.canonical_table_is_minimal_resolution.ensures c.modules_are_graded_modules.ensures c.in-Ok.table c.told-text.result c.in-Ok.is c.told-text.ensures.told c.told-text.ensures.why

pub returns-clause-continued : goal.returns-clause-continued
returns-clause-continued g c = cut_off _ _ _ _ c.args.form _ c.resolved_by_workers-resolved.result.0 _ _ c.resolved_by_workers-resolved.ensures.resolved (let is = c.in-Err-Failed.is in let e = c.in-Err-Failed.field-0-is in grind arith)

pub returns-in-Ok-clause-heard : goal.returns-in-Ok-clause-heard
returns-in-Ok-clause-heard g c =
    let common = c.args.common in
    heard_of (device_of g.E.Sink.written g.E.Sink.faults) (live_where common.live common.range) c.resolved_by_workers-resolved.result.0 c.told-text.result c.resolved_by_workers-resolved.result.2 _ _
    (told_there c.resolved_by_workers-resolved.result.0 c.told-text.result c.in-Ok.table c.in-Ok.is) c.resolved_by_workers-resolved.ensures.heard

pub returns-in-Ok-clause-worked : goal.returns-in-Ok-clause-worked
returns-in-Ok-clause-worked g c =
    let there : OnErr c.resolved_by_workers-resolved.result.0 ⊥ = subst (λ r. OnErr r ⊥) (sym c.in-Ok.is) tt in
    resolved_narrowed _ _ _ _ _ _ (λ has. there) c.resolved_by_workers-resolved.ensures.worked

pub returns-in-Err-Memory-clause-worked : goal.returns-in-Err-Memory-clause-worked
returns-in-Err-Memory-clause-worked g c = resolved_narrowed _ _ _ _ _ _ (λ has. absurd has) c.resolved_by_workers-resolved.ensures.worked

pub returns-clause-worked : goal.returns-clause-worked
returns-clause-worked g c = resolved_narrowed _ _ _ _ _ _ (λ has. absurd has) c.resolved_by_workers-resolved.ensures.worked
