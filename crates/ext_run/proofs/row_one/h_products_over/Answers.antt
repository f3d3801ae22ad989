use Rattle.std.specs.Prelude.{Ok}
use Rattle.std.proofs.lemmas.Result.{IfOk-weaker}
use Rattle.ext_table.specs.Layouts.{told_in}
use Rattle.ext_run.proofs.AnswerExists.{TableLaws}
use Rattle.ext_run.proofs.RowOne.{told_of_all}
use Rattle.ext_run.proofs.row_one.h_products_over.Goals as goal

pub h_products_in-requires-clause-through : goal.h_products_in-requires-clause-through
h_products_in-requires-clause-through c = c.requires.images.through

pub returns : goal.returns
returns c =
    let laws : TableLaws = record { exists = c.canonical_table_exists.ensures; minimal = c.canonical_table_is_minimal_resolution.ensures; modules = c.modules_are_graded_modules.ensures; accepted = c.accepted_is_module.ensures } in
    IfOk-weaker c.h_products_in.result _ _
    (λ text e. told_of_all laws (told_in c.args.layout c.args.shape c.args.range c.args.by.now) c.args.range c.args.images.now.resolved (Ok text.items) (e c.requires.images.are))
    c.h_products_in.ensures
