-- The kernel of a square, as it is kept.
use Rattle.std.specs.Prelude.{Bool, List, Option, Some, None}
use Rattle.f2_matrix.specs.Reduction.{Reduction}
use Rattle.square.specs.declared.kernel.Kernel.{Kernel}
use Rattle.square.specs.declared.kernel.Kernel.TheVariants.{Reduced, Bare}

-- its rows
abbrev pub rows_of : Kernel → List (List Bool)
rows_of (Reduced quasi) = quasi.kernel
rows_of (Bare rows) = rows.items

-- the reduction that has them, where one is kept
abbrev pub quasi_of : Kernel → Option Reduction
quasi_of (Reduced quasi) = Some quasi
quasi_of (Bare rows) = None
