use Rattle.std.proofs.Common.{inr, sym, subst}
use Rattle.std.proofs.lemmas.Result.{IfOk-weaker, IfErr-weaker}
use Rattle.ext_run.specs.Plan.{IsRead}
use Rattle.ext_run.proofs.Tasks.{sphere_origin, sample_origin, file_origin}
use Rattle.ext_run.proofs.task.module_from.Goals as goal

pub returns-in_ok-sphere-in-Sphere-clause-module : goal.returns-in_ok-sphere-in-Sphere-clause-module
returns-in_ok-sphere-in-Sphere-clause-module g c = sphere_origin c.args.origin _ c.in_ok-sphere-in-Sphere.field-0.plain c.in-Sphere.is c.in_ok-sphere-in-Sphere.ensures

pub returns-in_ok-sample-in-Sample-clause-module : goal.returns-in_ok-sample-in-Sample-clause-module
returns-in_ok-sample-in-Sample-clause-module g c = sample_origin c.args.origin _ c.in_ok-sample-in-Sample.field-0.plain c.in-Sample.n c.in-Sample.is c.in_ok-sample-in-Sample.ensures

pub returns-in-File-clause-module : goal.returns-in-File-clause-module
returns-in-File-clause-module g c = IfOk-weaker c.read_module.result _ _ (λ m from. file_origin c.args.origin _ m.plain c.in-File.is from) c.read_module.ensures.module

pub returns-in-File-clause-cause : goal.returns-in-File-clause-cause
returns-in-File-clause-cause g c = IfErr-weaker c.read_module.result _ _ (λ e is. inr (subst IsRead (sym c.in-File.is) tt, is)) c.read_module.ensures.cause

pub returns-in-File-clause-unread : goal.returns-in-File-clause-unread
returns-in-File-clause-unread g c = λ none. absurd (none (subst IsRead (sym c.in-File.is) tt))
