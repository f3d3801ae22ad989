use Rattle.std.proofs.Common.{◌≡◌, ℕ, ◌+◌, ◌-◌, ◌<◌, pos, length, drop, get_or, sym, ap, ◌∙◌, arith}
use Rattle.milnor_basis.specs.Exponents.{degree_of}
use Rattle.milnor_basis.specs.Basis.{basis_of}
use Rattle.milnor_product.specs.Times.{times_at}
use Rattle.adem_laws.specs.Adem.{square}
use Rattle.adem_laws.proofs.Monomials.{degree_of-square}
use Rattle.adem_laws.proofs.Values.{length-value}
use Rattle.sq_calc.proofs.Products.{degree_more, product_more, sum_within}
use Rattle.sq_calc.proofs.convert.to_milnor.Goals as goal

pub times-requires-clause-reach : goal.times-requires-clause-reach
times-requires-clause-reach c =
    let m = c.args.mono.now in
    let i : ℕ = c.loop-i.i - 1 in
    let here : i + 1 ≡ c.loop-i.i = omega (arith, c.loop-i-test.true) in
    let l : i < length m = omega (arith, c.loop-i-test.true, c.loop-i.auto.i, ap length c.numbers-numbers.ensures) in
    let one : degree_of c.square.result ≡ get_or m i 0 = ap degree_of c.square.ensures ∙ degree_of-square (get_or c.numbers-numbers.result.now i 0) ∙ ap (λ xs. get_or xs i 0) c.numbers-numbers.ensures in
    let whole = degree_more m i c.loop-i.i c.loop-i.degree here l c.loop-i.invariant.degree in
    omega (arith, one, whole, sum_within m i, c.requires)

pub times-requires-clause-width : goal.times-requires-clause-width
times-requires-clause-width c =
    ap length c.loop-i.invariant.product
    ∙ length-value (drop c.loop-i.i c.args.mono.now)
    ∙ ap (λ k. length (basis_of k)) (sym c.loop-i.invariant.degree)

pub overflow_add-degree : goal.overflow_add-degree
overflow_add-degree c =
    let m = c.args.mono.now in
    let i : ℕ = c.loop-i.i - 1 in
    let here : i + 1 ≡ c.loop-i.i = omega (arith, c.loop-i-test.true) in
    let l : i < length m = omega (arith, c.loop-i-test.true, c.loop-i.auto.i, ap length c.numbers-numbers.ensures) in
    let number : get_or c.numbers-numbers.result.now i 0 ≡ get_or m i 0 = ap (λ xs. get_or xs i 0) c.numbers-numbers.ensures in
    let whole = degree_more m i c.loop-i.i c.loop-i.degree here l c.loop-i.invariant.degree in
    omega (arith, number, whole, sum_within m i, c.requires, c.max-greatest.ensures, c.max-greatest.type_inv)

pub loop-i-preserved : goal.loop-i-preserved
loop-i-preserved c =
    let m = c.args.mono.now in
    let i : ℕ = c.loop-i.i - 1 in
    let here : i + 1 ≡ c.loop-i.i = omega (arith, c.loop-i-test.true) in
    let l : i < length m = omega (arith, c.loop-i-test.true, c.loop-i.auto.i, ap length c.numbers-numbers.ensures) in
    let number : get_or c.numbers-numbers.result.now i 0 ≡ get_or m i 0 = ap (λ xs. get_or xs i 0) c.numbers-numbers.ensures in
    record {
      product =
          c.in_ok-product-2.ensures
          ∙ ap (λ s. times_at s (pos c.loop-i.degree) c.loop-i.product) (c.square.ensures ∙ ap square number)
          ∙ product_more m i c.loop-i.i c.loop-i.degree c.loop-i.product here l c.loop-i.invariant.product c.loop-i.invariant.degree;
      degree = ap (λ k. c.loop-i.degree + k) number ∙ degree_more m i c.loop-i.i c.loop-i.degree here l c.loop-i.invariant.degree;
    }
