use Rattle.ext_run.proofs.AnswerExists.{answer_is_there}
use Rattle.ext_run.proofs.laws.answer_exists.Goals as goal

pub returns : goal.returns
returns c = answer_is_there (record {
  tables = record { exists = c.canonical_table_exists.ensures; minimal = c.canonical_table_is_minimal_resolution.ensures; modules = c.modules_are_graded_modules.ensures; accepted = c.accepted_is_module.ensures };
  products = c.each_layout_has_answer.ensures;
  one_product = c.one_product_answer_exists.ensures;
  brackets = c.bracket_answer_exists.ensures;
}) c.admissible_basis.ensures.form
