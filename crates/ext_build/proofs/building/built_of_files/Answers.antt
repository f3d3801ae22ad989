use Rattle.std.proofs.Common.{◌≢◌, ◌∙◌, map, ap, Err}
use Rattle.std.proofs.lemmas.Result.{err_from_is_err_and}
use Rattle.finite_module.specs.Checked.{Checked}
use Rattle.ext_report.specs.declared.failure.Failure.TheVariants.{Memory}
use Rattle.ext_build.specs.Building.{IsAnswerToFiles}
use Rattle.ext_report.specs.Failure.{build_failure}
use Rattle.ext_build.proofs.BuildAnswers.{refused_files, limited_files, built_files}
use Rattle.ext_build.proofs.building.built_of_files.Goals as goal

pub returns-in_err-modules-clause-cause : goal.returns-in_err-modules-clause-cause
returns-in_err-modules-clause-cause c =
    let p = err_from_is_err_and c.from_residual.result c.from_residual.ensures.1 in
    let failure = c.in_err-modules.field-0.0 in
    let cause : failure ≢ Memory → IsAnswerToFiles c.args.made c.args.files.items (Err failure) = λ other. refused_files c.args.made c.args.files.items failure (c.in_err-modules.ensures.cause other) in
    rw (p.1, p.2) cause

pub returns-in_err-module-clause-cause : goal.returns-in_err-module-clause-cause
returns-in_err-module-clause-cause c =
    let p = err_from_is_err_and c.from_residual-in_err-module.result c.from_residual-in_err-module.ensures.1 in
    let fault = c.in_err-module.field-0.0 in
    let same = ap (map (λ (m : Checked). m.plain)) c.as_slice.ensures.value ∙ c.in_ok-modules.ensures.modules in
    let cause : build_failure fault ≢ Memory → IsAnswerToFiles c.args.made c.args.files.items (Err (build_failure fault)) =
    limited_files c.args.made c.args.files.items _ fault c.in_ok-modules.ensures.accepted same c.in_err-module.ensures.refused in
    rw (p.1, p.2) cause

pub returns-clause-text : goal.returns-clause-text
returns-clause-text c =
    let same = ap (map (λ (m : Checked). m.plain)) c.as_slice.ensures.value ∙ c.in_ok-modules.ensures.modules in
    built_files c.args.made c.args.files.items _ c.in_ok-module.module.plain c.in_ok-file_text.field-0.items c.in_ok-modules.ensures.accepted same c.in_ok-module.ensures.built c.in_ok-module.ensures.within c.in_ok-file_text.ensures
