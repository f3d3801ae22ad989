use Rattle.ext_run.proofs.AnswerUnique.{answer-unique}
use Rattle.ext_run.proofs.laws.answer_is_unique.Goals as goal

pub returns : goal.returns
returns c = answer-unique
