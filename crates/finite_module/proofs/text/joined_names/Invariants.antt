use Rattle.std.proofs.Common.{◌≡◌, map, take}
use Rattle.finite_module.specs.Text.{name_at, joined_by_plus}
use Rattle.finite_module.proofs.text.joined_names.Given as goal

abbrev pub invariant-loop-k : goal.invariant-loop-k
invariant-loop-k l = l.text.items ≡ joined_by_plus (map (name_at l.generators) (take l.k l.numbers))
