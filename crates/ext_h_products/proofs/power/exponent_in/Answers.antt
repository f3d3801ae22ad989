use Rattle.std.proofs.Common.{arith}
use Rattle.std.proofs.lemmas.Int.{ints}
use Rattle.ext_h_products.proofs.Powers.{no_power}
use Rattle.ext_h_products.proofs.power.exponent_in.Goals as goal

pub returns-else-pow-n-clause-none : goal.returns-else-pow-n-clause-none
returns-else-pow-n-clause-none c = λ n is l.
    let v = c.ilog2-v.result in
    no_power n v (omega (arith, ints, is, c.ilog2-v.ensures.power_le)) (omega (arith, ints, is, c.ilog2-v.ensures.next_power_gt)) (λ e. absurd (omega (arith, ints, is, e, c.pow.ensures, c.if-pow-n.false)))
