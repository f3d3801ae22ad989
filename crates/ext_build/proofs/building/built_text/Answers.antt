use Rattle.std.proofs.Common.{Ok}
use Rattle.std.proofs.lemmas.Result.{IfOk-weaker, IfErr-weaker}
use Rattle.ext_build.proofs.BuildAnswers.{count_of_input, files_answer, files_cause, result_not_reading}
use Rattle.ext_build.proofs.building.built_text.Goals as goal

pub built_of_files-requires : goal.built_of_files-requires
built_of_files-requires g c = count_of_input c.args.made _ c.in_ok-files.files.items c.in_ok-files.ensures.files

pub returns-clause-text : goal.returns-clause-text
returns-clause-text g c = IfOk-weaker c.built_of_files.result _ _ (λ t q. files_answer c.args.made _ c.in_ok-files.files.items (Ok t.items) c.in_ok-files.ensures.files q) c.built_of_files.ensures.text

pub returns-clause-cause : goal.returns-clause-cause
returns-clause-cause g c = IfErr-weaker c.built_of_files.result _ _ (λ e q. files_cause c.args.made _ c.in_ok-files.files.items e c.in_ok-files.ensures.files q) c.built_of_files.ensures.cause

pub returns-clause-reading : goal.returns-clause-reading
returns-clause-reading g c = λ h. absurd (result_not_reading c.args.made (g.S.Source.left c.args.source.now) c.in_ok-files.files.items c.built_of_files.result c.built_of_files.ensures.cause h)
