use Rattle.std.proofs.Common.{◌≡◌, suc, ◌-◌, drop, ap, arith}
use Rattle.milnor_basis.specs.Front.{front}
use Rattle.milnor_basis.proofs.Fronts.{front_at, front_small}
use Rattle.sq_calc.proofs.leading.leading.Goals as goal

pub overflow_mul-front : goal.overflow_mul-front
overflow_mul-front c =
    let r = c.args.r.now in
    let k = c.loop-i.i - 1 in
    let here : suc k ≡ c.loop-i.i = omega (arith, c.loop-i-test.true) in
    let same : front (drop (suc k) r) ≡ front (drop c.loop-i.i r) = ap (λ n. front (drop n r)) here in
    omega (arith, front_at r k, front_small r k, c.loop-i.invariant.front)

pub overflow_add-front : goal.overflow_add-front
overflow_add-front c =
    let r = c.args.r.now in
    let k = c.loop-i.i - 1 in
    let here : suc k ≡ c.loop-i.i = omega (arith, c.loop-i-test.true) in
    let same : front (drop (suc k) r) ≡ front (drop c.loop-i.i r) = ap (λ n. front (drop n r)) here in
    omega (arith, front_at r k, front_small r k, c.loop-i.invariant.front, c.exponent.ensures)
