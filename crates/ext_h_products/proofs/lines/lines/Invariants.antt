use Rattle.std.specs.List.{flat_map, range_with_len}
use Rattle.std.proofs.Common.{◌+◌, ◌-◌}
use Rattle.bidegree.specs.LastDegrees.{last_degree}
use Rattle.h_products.specs.ReadOff.{resolution_in}
use Rattle.ext_products.specs.Products.{OneEach, classes_in_row}
use Rattle.ext_h_products.specs.RowOne.{IsLineReadOff}
use Rattle.ext_h_products.proofs.lines.lines.Given as goal

abbrev pub invariant-loop-s : goal.invariant-loop-s
invariant-loop-s l = OneEach (IsLineReadOff (resolution_in l.images) l.n) (flat_map (λ s. classes_in_row (resolution_in l.images) (last_degree l.shape l.range (s + 1) + 1 - l.n) s) (range_with_len 0 l.s)) l.lines.items
