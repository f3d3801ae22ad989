use Rattle.std.proofs.Common.{◌≡◌, map, take}
use Rattle.finite_module.specs.Text.{joined_by_plus}
use Rattle.ext_chart.proofs.DumpSteps.{text_at}
use Rattle.ext_chart.proofs.terms.free_sum_text.Given as goal

abbrev pub invariant-loop-k : goal.invariant-loop-k
invariant-loop-k l = l.text.items ≡ joined_by_plus (map (text_at l.places l.gens l.t) (take l.k l.i-items))
