use Rattle.std.proofs.Common.{◌≡◌, map, take}
use Rattle.finite_module.specs.Text.{joined_by_plus}
use Rattle.ext_chart.specs.Classes.{class_text}
use Rattle.ext_chart.proofs.classes.class_sum_text.Given as goal

abbrev pub invariant-loop-k : goal.invariant-loop-k
invariant-loop-k l = l.text.items ≡ joined_by_plus (map (class_text l.s l.t) (take l.k l.i-items))
