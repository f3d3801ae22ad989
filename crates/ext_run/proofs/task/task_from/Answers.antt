use Rattle.std.proofs.Common.{ap, sym, subst}
use Rattle.std.specs.Prelude.{Option, Err}
use Rattle.std.proofs.lemmas.Result.{err_from_is_err_and, IfOk-weaker, IfErr-weaker}
use Rattle.ext_words.specs.Words.{texts_of}
use Rattle.ext_report.specs.Failure.{words_failure}
use Rattle.ext_run.specs.declared.plan.Plan.{Plan}
use Rattle.ext_run.specs.Plan.{asked_by, IsPlanWithin, Reads}
use Rattle.ext_run.specs.Answer.{IsTaskCauseFrom}
use Rattle.ext_run.specs.Task.{HasItsAnswer, IsTaskFor}
use Rattle.ext_run.proofs.AnswerExists.{Laws, task_is_done, all_ok}
use Rattle.ext_run.proofs.Tasks.{plan_within, words_cause, asked_is}
use Rattle.ext_run.proofs.task.task_from.Goals as goal

pub returns-in_err-command-clause-cause : goal.returns-in_err-command-clause-cause
returns-in_err-command-clause-cause g c =
    let p = err_from_is_err_and c.from_residual.result c.from_residual.ensures.1 in
    let fault = c.in_err-command.field-0.0 in
    let cause : IsTaskCauseFrom (asked_by (texts_of c.args.words.now)) (g.S.Source.left c.args.source.now) (words_failure fault) =
    words_cause (texts_of c.args.words.now) _ fault (λ h. c.in_err-command.ensures.refused (ap Err h)) in
    rw (p.1, p.2) cause

pub task_for-requires : goal.task_for-requires
task_for-requires g c = subst IsPlanWithin (sym c.plan_of.ensures) (plan_within c.in_ok-command.command c.in_ok-command.ensures.within)

pub returns-clause-task : goal.returns-clause-task
returns-clause-task g c =
    IfOk-weaker c.task_for.result _ _ (λ task is. record { bytes = is.bytes; all = is.all; holds = subst (λ (o : Option Plan). IsTaskFor o is.bytes task) (sym (asked_is (texts_of c.args.words.now) c.in_ok-command.command c.plan_of.result c.in_ok-command.ensures.ok c.plan_of.ensures)) is.holds }) c.task_for.ensures.task

pub returns-clause-answer : goal.returns-clause-answer
returns-clause-answer g c =
    let laws : Laws = record { tables = record { exists = c.canonical_table_exists.ensures; minimal = c.canonical_table_is_minimal_resolution.ensures; modules = c.modules_are_graded_modules.ensures; accepted = c.accepted_is_module.ensures }; products = c.each_layout_has_answer.ensures; one_product = c.one_product_answer_exists.ensures; brackets = c.bracket_answer_exists.ensures } in
    all_ok c.task_for.result HasItsAnswer (task_is_done laws)

pub returns-clause-cause : goal.returns-clause-cause
returns-clause-cause g c =
    IfErr-weaker c.task_for.result _ _ (λ e is. subst (λ (o : Option Plan). IsTaskCauseFrom o (g.S.Source.left c.args.source.now) e) (sym (asked_is (texts_of c.args.words.now) c.in_ok-command.command c.plan_of.result c.in_ok-command.ensures.ok c.plan_of.ensures)) is) c.task_for.ensures.cause

pub returns-clause-unread : goal.returns-clause-unread
returns-clause-unread g c = λ none. c.task_for.ensures.unread (λ reads. none (subst Reads (sym (asked_is (texts_of c.args.words.now) c.in_ok-command.command c.plan_of.result c.in_ok-command.ensures.ok c.plan_of.ensures)) reads))

pub returns-clause-read : goal.returns-clause-read
returns-clause-read g c = λ reads other more. c.task_for.ensures.read (subst Reads (asked_is (texts_of c.args.words.now) c.in_ok-command.command c.plan_of.result c.in_ok-command.ensures.ok c.plan_of.ensures) reads) other more
