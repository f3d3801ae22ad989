use Rattle.std.proofs.Common.{◌≡◌, arith, string_bytes, to_z, of_z, w32}
use Rattle.std.proofs.lemmas.Int.{ints}
use Rattle.finite_module.proofs.Degrees.{one_more}
use Rattle.finite_module.proofs.generators.Generators.of.Goals as goal

pub loop-i-preserved : goal.loop-i-preserved
loop-i-preserved c =
    let degree : to_z w32 (of_z w32 c.degree-degree.result) ≡ c.degree-degree.result = omega (arith, ints) in
    one_more c.args.spec.now.generators c.loop-i.list.items c.push.new.self.items c.loop-i.i c.name.result.now (string_bytes c.in_ok-name.name) c.degree-degree.result (to_z w32 (of_z w32 c.degree-degree.result)) c.loop-i.invariant (omega (arith, c.count-count.ensures.count)) c.name.ensures c.degree-degree.ensures c.in_ok-name.ensures.ok degree
    c.in_ok-push.ensures.items
