use Rattle.std.specs.List.{range_with_len}
use Rattle.std.proofs.Common.{List, map, ◌++◌}
use Rattle.lift_laws.specs.Products.{Class}
use Rattle.ext_products.specs.Products.{OneEach, class_at}
use Rattle.ext_products.specs.Inside.{IsLineOver}
use Rattle.ext_products.proofs.lines.add_square.Given as goal

abbrev pub invariant-loop-i : goal.invariant-loop-i
invariant-loop-i l = (before : List Class) → OneEach (IsLineOver l.table l.sphere l.a) before l.initial.lines.items → OneEach (IsLineOver l.table l.sphere l.a) (before ++ map (class_at l.s l.above) (range_with_len 0 l.i)) l.lines.items
