use Rattle.std.proofs.Common.{◌≡◌, ◌+◌, ◌<◌, ◌∷◌, ◌++◌, [], length, get_or, slice_get, Some, EachIndex, ap, sym, subst, ◌∙◌, arith}
use Rattle.milnor_basis.specs.Basis.{basis_of}
use Rattle.finite_module.specs.DerivedAction.{elements, span}
use Rattle.finite_module.proofs.Values.{width_of}
use Rattle.finite_module.proofs.Derivation.{derived_to_more, derived_to_all, next_element, element_own}
use Rattle.module_check.proofs.derive.derive_degree.Goals as goal

pub derived_operator-requires-clause-degree : goal.derived_operator-requires-clause-degree
derived_operator-requires-clause-degree c =
    let r = c.index-of_degree-k.result in
    let own = element_own c.args.n c.loop-k.k r (omega (arith, ap length c.of_degree-k-end.ensures)) (c.index-of_degree-k.is ∙ ap (λ xs. get_or xs c.loop-k.k r) c.of_degree.ensures) in
    omega (arith, own.1, c.requires.degree)

pub derived_operator-requires-clause-small : goal.derived_operator-requires-clause-small
derived_operator-requires-clause-small c =
    let r = c.index-of_degree-k.result in
    let own = element_own c.args.n c.loop-k.k r (omega (arith, ap length c.of_degree-k-end.ensures)) (c.index-of_degree-k.is ∙ ap (λ xs. get_or xs c.loop-k.k r) c.of_degree.ensures) in
    omega (arith, own.1, c.requires.small)

pub push-requires-clause-next : goal.push-requires-clause-next
push-requires-clause-next c =
    let r = c.index-of_degree-k.result in
    let within : c.loop-k.k < length (basis_of c.args.n) = omega (arith, ap length c.of_degree-k-end.ensures) in
    let here = c.index-of_degree-k.is ∙ ap (λ xs. get_or xs c.loop-k.k r) c.of_degree.ensures in
    subst (λ gs. slice_get (elements (span gs + 1)) (length c.loop-k.operators.operators) ≡ Some r) (sym c.loop-k.invariant.generators)
    (next_element c.args.spec.now c.args.n c.loop-k.k (span c.args.spec.now.generators + 1) r c.loop-k.operators.operators within here (omega (arith, c.requires.degree)) c.loop-k.invariant.operators)

pub push-requires-clause-widths : goal.push-requires-clause-widths
push-requires-clause-widths c =
    let r = c.index-of_degree-k.result in
    let operator = c.in_ok-operator.operator in
    subst (λ gs. EachIndex operator (λ i. length (get_or operator i []) ≡ width_of gs r i)) (sym c.loop-k.invariant.generators) c.in_ok-operator.ensures.widths

pub loop-k-preserved : goal.loop-k-preserved
loop-k-preserved c =
    let r = c.index-of_degree-k.result in
    let within : c.loop-k.k < length (basis_of c.args.n) = omega (arith, ap length c.of_degree-k-end.ensures) in
    let here = c.index-of_degree-k.is ∙ ap (λ xs. get_or xs c.loop-k.k r) c.of_degree.ensures in
    record {
      generators = c.push.ensures.generators ∙ c.loop-k.invariant.generators;
      operators = derived_to_more c.args.spec.now c.args.n c.loop-k.k r c.loop-k.operators.operators c.push.new.self.operators within here c.loop-k.invariant.operators (c.in_ok-push.ensures.ok ∙ ap (λ o. c.loop-k.operators.operators ++ o ∷ []) c.in_ok-operator.ensures.operator);
    }

pub returns-clause-after : goal.returns-clause-after
returns-clause-after c =
    c.loop-k.invariant.operators ∙ derived_to_all c.args.spec.now c.args.n c.loop-k.k (omega (arith, ap length c.of_degree-k-end.ensures, c.loop-k-test.false))
