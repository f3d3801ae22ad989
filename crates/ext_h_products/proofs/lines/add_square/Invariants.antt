use Rattle.std.specs.List.{range_with_len}
use Rattle.std.proofs.Common.{List, map, ◌++◌}
use Rattle.lift_laws.specs.Products.{Class}
use Rattle.h_products.specs.ReadOff.{resolution_in}
use Rattle.ext_products.specs.Products.{OneEach, class_at}
use Rattle.ext_h_products.specs.RowOne.{IsLineReadOff}
use Rattle.ext_h_products.proofs.lines.add_square.Given as goal

abbrev pub invariant-loop-i : goal.invariant-loop-i
invariant-loop-i l = (before : List Class) → OneEach (IsLineReadOff (resolution_in l.images) l.n) before l.initial.lines.items → OneEach (IsLineReadOff (resolution_in l.images) l.n) (before ++ map (class_at l.s l.above) (range_with_len 0 l.i)) l.lines.items
