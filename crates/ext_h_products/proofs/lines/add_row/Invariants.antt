use Rattle.std.specs.List.{flat_map, range_with_len}
use Rattle.std.proofs.Common.{List, ◌++◌}
use Rattle.lift_laws.specs.Products.{Class}
use Rattle.h_products.specs.ReadOff.{resolution_in}
use Rattle.ext_products.specs.Products.{OneEach, classes_of}
use Rattle.ext_h_products.specs.RowOne.{IsLineReadOff}
use Rattle.ext_h_products.proofs.lines.add_row.Given as goal

abbrev pub invariant-loop-above : goal.invariant-loop-above
invariant-loop-above l = (before : List Class) → OneEach (IsLineReadOff (resolution_in l.images) l.n) before l.initial.lines.items → OneEach (IsLineReadOff (resolution_in l.images) l.n) (before ++ flat_map (classes_of (resolution_in l.images) l.s) (range_with_len 0 l.above)) l.lines.items
