use Rattle.std.proofs.Common.{◌≡◌, map, take}
use Rattle.finite_module.specs.Text.{joined_by_plus}
use Rattle.ext_chart.proofs.ProductSteps.{element_text}
use Rattle.ext_chart.proofs.squares_text.milnor_text.Given as goal

abbrev pub invariant-loop-k : goal.invariant-loop-k
invariant-loop-k l = l.text.items ≡ joined_by_plus (map (element_text l.deg) (take l.k l.i-items))
