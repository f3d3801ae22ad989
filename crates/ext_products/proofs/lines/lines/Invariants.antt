use Rattle.std.specs.List.{flat_map, range_with_len}
use Rattle.std.proofs.Common.{◌+◌, ◌-◌}
use Rattle.bidegree.specs.LastDegrees.{last_degree}
use Rattle.chain_map.specs.Lifting.{resolution_of}
use Rattle.ext_products.specs.Products.{OneEach, classes_in_row}
use Rattle.ext_products.specs.Inside.{IsLineOver}
use Rattle.ext_products.proofs.lines.lines.Given as goal

abbrev pub invariant-loop-s : goal.invariant-loop-s
invariant-loop-s l = OneEach (IsLineOver l.table l.sphere l.a) (flat_map (λ s. classes_in_row (resolution_of l.table) (last_degree l.shape l.range (s + l.a.s) + 1 - l.a.above) s) (range_with_len 0 l.s)) l.lines.items
