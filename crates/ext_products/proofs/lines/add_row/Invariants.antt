use Rattle.std.specs.List.{flat_map, range_with_len}
use Rattle.std.proofs.Common.{List, ◌++◌}
use Rattle.lift_laws.specs.Products.{Class}
use Rattle.chain_map.specs.Lifting.{resolution_of}
use Rattle.ext_products.specs.Products.{OneEach, classes_of}
use Rattle.ext_products.specs.Inside.{IsLineOver}
use Rattle.ext_products.proofs.lines.add_row.Given as goal

abbrev pub invariant-loop-above : goal.invariant-loop-above
invariant-loop-above l = (before : List Class) → OneEach (IsLineOver l.table l.sphere l.a) before l.initial.lines.items → OneEach (IsLineOver l.table l.sphere l.a) (before ++ flat_map (classes_of (resolution_of l.table) l.s) (range_with_len 0 l.above)) l.lines.items
