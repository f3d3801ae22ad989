use Rattle.std.proofs.Common.{arith}
use Rattle.std.proofs.lemmas.Int.{ints}
use Rattle.module_json.proofs.Cells.{made_well_formed}
use Rattle.module_json.proofs.spec.describe_space.Goals as goal

pub new-requires : goal.new-requires
new-requires c =
    made_well_formed _ _ c.in_ok-generators.generators.items c.in_ok-entries.entries.items c.in_ok-generators.ensures c.in_ok-entries.ensures
    (omega (arith, ints, c.in_ok-min.ensures.few)) (omega (arith, ints, c.in_ok-min.ensures.lowest)) (omega (arith, ints, c.in_ok-min.ensures.highest))
