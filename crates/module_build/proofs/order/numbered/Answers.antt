use Rattle.std.proofs.Common.{◌≡◌, to_z, of_z, w64, ap, ◌∙◌, arith}
use Rattle.std.proofs.lemmas.Int.{ints}
use Rattle.finite_module.proofs.Values.{one_value_more}
use Rattle.module_build.specs.declared.order.Placed.{Placed}
use Rattle.module_build.specs.Inside.Construction.{placed}
use Rattle.module_build.proofs.order.numbered.Goals as goal

pub loop-number-preserved : goal.loop-number-preserved
loop-number-preserved c =
    let same : to_z w64 (of_z w64 c.degree-degree.result) ≡ c.degree-degree.result = omega (arith, ints) in
    one_value_more (placed c.args.construction.now) c.loop-number.order.items c.push.new.self.items (record { degree = to_z w64 (of_z w64 c.degree-degree.result); number = c.loop-number.number }) c.loop-number.number c.loop-number.invariant
    (ap (λ z. record { degree = z; number = c.loop-number.number }) (same ∙ c.degree-degree.ensures)) c.in_ok-push.ensures.items
