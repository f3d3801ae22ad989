use Rattle.std.proofs.Common.{◌∙◌}
use Rattle.resolution_tests.proofs.SphereSquare.{first_step, first_quasi}
use Rattle.resolution_tests.proofs.squares.first_square.Goals as goal

pub made-requires-clause-step : goal.made-requires-clause-step
made-requires-clause-step c =
    first_step c.args.inputs.now.resolved c.args.inputs.now.below c.args.inputs.now.squares c.in_ok-one_row-2.field-0.items c.new.result.items c.requires.sphere c.requires.below c.requires.before c.in_ok-one_row-2.ensures c.new.ensures.items

pub made-requires-clause-quasi : goal.made-requires-clause-quasi
made-requires-clause-quasi c =
    first_quasi c.args.inputs.now.resolved c.args.inputs.now.below c.args.inputs.now.squares c.in_ok-one_row-2.field-0.items c.new.result.items c.in_ok-quasi.quasi c.from_rows-matrix.result.cols c.from_rows-matrix.result.rows c.requires.sphere c.requires.below c.requires.before c.in_ok-one_row-2.ensures c.from_rows-matrix.ensures.cols (c.from_rows-matrix.ensures.rows ∙ c.in_ok-one_row.ensures) c.in_ok-quasi.ensures.parts
