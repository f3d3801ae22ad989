use Rattle.std.proofs.Common.{◌+◌, arith, inl, inr}
use Rattle.bidegree.specs.declared.range.TheConstants.{MAX_S}
use Rattle.edge.specs.Faults.{HasRisen}
use Rattle.ext_report.specs.declared.failure.Failure.TheVariants.{Memory}
use Rattle.ext_run.specs.Devices.{device_of}
use Rattle.ext_run.specs.Plan.{live_where}
use Rattle.ext_run.proofs.Reporting.{heard_none}
use Rattle.ext_run.proofs.Working.{told_unsaved, why_unsaved}
use Rattle.ext_run.specs.Courses.{shape_of}
use Rattle.ext_run.proofs.Courses.{course_of_new, no_course}
use Rattle.ext_run.proofs.texts.tabled_by_workers.Goals as goal

none : HasRisen 0 0 → ⊥
none (inl h) = omega arith
none (inr h) = omega (arith, h)

pub returns-in-Ok-clause-told : goal.returns-in-Ok-clause-told
returns-in-Ok-clause-told g c =
    told_unsaved c.args.common.range c.args.form c.args.resolved _ _ c.in-Ok.table c.told_by_workers-text.result.0 _ _ c.in-Ok.ensures c.told_by_workers-text.ensures.continued

pub returns-in-Ok-clause-why : goal.returns-in-Ok-clause-why
returns-in-Ok-clause-why g c =
    why_unsaved c.args.common.range c.args.form c.args.resolved _ _ c.in-Ok.table c.told_by_workers-text.result.0 _ _ c.in-Ok.ensures none c.told_by_workers-text.ensures.continued

pub returns-in-Err-clause-heard : goal.returns-in-Err-clause-heard
returns-in-Err-clause-heard g c =
    let common = c.args.common in
    heard_none _ _ (device_of g.E.Sink.written g.E.Sink.faults) (live_where common.live common.range) Memory c.args.err.now

pub returns-in-Ok-clause-course : goal.returns-in-Ok-clause-course
returns-in-Ok-clause-course g c =
    course_of_new _ c.args.common.workers c.args.common.range (shape_of c.args.form) c.args.resolved (MAX_S + 1) 0 c.in-Ok.table _ _ _ c.in-Ok.ensures c.told_by_workers-text.ensures.worked

pub returns-in-Err-clause-course : goal.returns-in-Err-clause-course
returns-in-Err-clause-course g c = let m = c.args.resolved in no_course c.args.common.workers c.args.common.range (shape_of c.args.form) m.plain (λ has. has)
