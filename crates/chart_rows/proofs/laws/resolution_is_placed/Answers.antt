use Rattle.std.proofs.Common.{List, length, subst, arith}
use Rattle.std.proofs.lemmas.List.{take_all}
use Rattle.chart_file.specs.Parts.{Part}
use Rattle.square.specs.Squares.{over}
use Rattle.chart_rows.specs.Placing.{rows_of_parts}
use Rattle.chart_rows.specs.Canonical.{AreRowsOfResolution}
use Rattle.chart_rows.proofs.Parts.{resolution_parts}
use Rattle.chart_rows.proofs.laws.resolution_is_placed.Goals as goal

pub returns : goal.returns
returns c = λ m parts are of may.
    subst (λ (z : List Part). AreRowsOfResolution (over m) (rows_of_parts (over m) z)) (take_all (length parts) parts (omega arith))
    (resolution_parts (over m) parts are of (length parts) (omega arith) (λ j b. may j b))
