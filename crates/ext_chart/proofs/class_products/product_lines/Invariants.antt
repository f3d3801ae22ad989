use Rattle.std.proofs.Common.{◌≡◌, take}
use Rattle.std.specs.List.{flat_map}
use Rattle.ext_chart.specs.Classes.{product_line}
use Rattle.ext_chart.proofs.class_products.product_lines.Given as goal

abbrev pub invariant-loop-line : goal.invariant-loop-line
invariant-loop-line l = l.text.items ≡ flat_map product_line (take l.line-index l.lines)
