-- The rows that a reduction keeps.
use Rattle.std.specs.Prelude.{Bool, List}
use Rattle.f2_matrix.specs.declared.held.Held.{Held}
use Rattle.f2_matrix.specs.declared.held.Held.TheVariants.{Shared, Given}

abbrev pub rows_of : Held → List (List Bool)
rows_of (Shared rows) = rows
rows_of (Given rows) = rows.items
