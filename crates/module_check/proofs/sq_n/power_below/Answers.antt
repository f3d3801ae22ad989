use Rattle.std.proofs.Common.{◌≡◌, ◌*◌, ap, ◌∙◌, arith}
use Rattle.finite_module.specs.DerivedAction.{doubled_below}
use Rattle.module_check.proofs.Adem.{doubled_step}
use Rattle.module_check.proofs.sq_n.power_below.Goals as goal

pub loop-power-preserved : goal.loop-power-preserved
loop-power-preserved c =
    let n = c.args.n in
    let power = c.loop-power.power in
    let turned : power * 2 ≡ 2 * power = omega arith in
    record {
      leads = ap (λ b. doubled_below n b n) turned ∙ doubled_step n power c.loop-power.invariant.positive (omega (arith, c.loop-power-test.true)) ∙ c.loop-power.invariant.leads;
      positive = omega (arith, c.loop-power.invariant.positive);
      below = omega (arith, c.loop-power-test.true, c.loop-power.invariant.below);
    }
