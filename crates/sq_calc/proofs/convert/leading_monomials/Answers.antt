use Rattle.std.proofs.Common.{◌≡◌, ℕ, ◌-◌, ◌<◌, length, sym, ap, subst, ◌∙◌, arith}
use Rattle.std.specs.List.{sum}
use Rattle.milnor_basis.specs.Basis.{basis_of}
use Rattle.adem_laws.proofs.Monomials.{sum-monomial_of}
use Rattle.adem_laws.proofs.Values.{length-value}
use Rattle.sq_calc.proofs.Walk.{IsWalked, element_at, walk_start, walked_on, walked_over, walk_end}
use Rattle.sq_calc.proofs.convert.leading_monomials.Goals as goal

pub loop-i-init : goal.loop-i-init
loop-i-init c =
    rw (c.of_degree-elements.ensures, c.in_ok-rest.ensures, c.new-monomials.ensures.items) (walk_start c.args.deg c.args.v.now c.requires.width)

pub leading-requires : goal.leading-requires
leading-requires c =
    let l : c.loop-i.i - 1 < length c.of_degree-elements.result.now = omega (arith, c.loop-i-test.true, c.loop-i.auto.i) in
    let at = element_at c.args.deg (c.loop-i.i - 1) c.of_degree-elements.result.now c.index-elements-i.result c.of_degree-elements.ensures l c.index-elements-i.is in
    omega (arith, at.0, c.ranges.deg.fits)

pub to_milnor-requires : goal.to_milnor-requires
to_milnor-requires c =
    let l : c.loop-i.i - 1 < length c.of_degree-elements.result.now = omega (arith, c.loop-i-test.true, c.loop-i.auto.i) in
    let at = element_at c.args.deg (c.loop-i.i - 1) c.of_degree-elements.result.now c.index-elements-i.result c.of_degree-elements.ensures l c.index-elements-i.is in
    let whole = ap sum c.in_ok-mono.ensures ∙ sum-monomial_of c.index-elements-i.result ∙ at.0 in
    omega (arith, whole, c.requires.degree)

pub xor_with-requires : goal.xor_with-requires
xor_with-requires c =
    let l : c.loop-i.i - 1 < length c.of_degree-elements.result.now = omega (arith, c.loop-i-test.true, c.loop-i.auto.i) in
    let at = element_at c.args.deg (c.loop-i.i - 1) c.of_degree-elements.result.now c.index-elements-i.result c.of_degree-elements.ensures l c.index-elements-i.is in
    let whole = ap sum c.in_ok-mono.ensures ∙ sum-monomial_of c.index-elements-i.result ∙ at.0 in
    c.loop-i.invariant.width ∙ sym (ap length c.in_ok-to_milnor.ensures ∙ length-value c.in_ok-mono.mono ∙ ap (λ k. length (basis_of k)) whole)

pub loop-i-preserved-in_ok-push : goal.loop-i-preserved-in_ok-push
loop-i-preserved-in_ok-push c =
    let i : ℕ = c.loop-i.i - 1 in
    let l : i < length c.of_degree-elements.result.now = omega (arith, c.loop-i-test.true, c.loop-i.auto.i) in
    let at = element_at c.args.deg i c.of_degree-elements.result.now c.index-elements-i.result c.of_degree-elements.ensures l c.index-elements-i.is in
    walked_on c.args.deg i c.loop-i.i c.args.v.now c.loop-i.rest c.xor_with.new.self c.in_ok-to_milnor.field-0 c.loop-i.monomials.items c.push.new.self.items c.in_ok-mono.mono
    (omega (arith, c.loop-i-test.true))
    (omega (arith, l, ap length c.of_degree-elements.ensures))
    (c.in_ok-mono.ensures ∙ at.1)
    (sym c.if-get.ensures)
    c.in_ok-to_milnor.ensures
    c.xor_with.ensures
    c.in_ok-push.ensures.items
    c.loop-i.invariant

pub loop-i-preserved : goal.loop-i-preserved
loop-i-preserved c =
    walked_over c.args.deg (c.loop-i.i - 1) c.loop-i.i c.args.v.now c.loop-i.rest c.loop-i.monomials.items (omega (arith, c.loop-i-test.true)) (sym c.if-get.ensures) c.loop-i.invariant

pub returns : goal.returns
returns c =
    let none : c.loop-i.i ≡ 0 = omega (arith, c.loop-i-test.false) in
    walk_end c.args.deg c.args.v.now c.loop-i.rest c.loop-i.monomials.items (subst (λ k. IsWalked c.args.deg k c.args.v.now c.loop-i.rest c.loop-i.monomials.items) none c.loop-i.invariant)
