use Rattle.std.proofs.Common.{◌≡◌, ◌+◌, ◌<◌, ◌++◌, ◌∷◌, [], List, Bool, length, map, get_or, slice_get, Some, EachIndex, ap, sym, subst, ◌∙◌, arith}
use Rattle.milnor_basis.specs.Exponents.{degree_of}
use Rattle.milnor_basis.specs.Basis.{basis_of}
use Rattle.finite_module.specs.DerivedAction.{elements, span}
use Rattle.finite_module.proofs.Derivation.{element_own}
use Rattle.finite_module.proofs.Values.{width_of}
use Rattle.built_laws.specs.Built.{operator_on}
use Rattle.module_build.specs.Inside.Construction.{order_of, generators_of, coefficient_by, HasValuesBelow}
use Rattle.module_build.proofs.OperatorLists.{next_of, one_of, none_of, all_of, widths_of, values_below}
use Rattle.module_build.proofs.build.add_degree.Goals as goal

pub loop-k-init : goal.loop-k-init
loop-k-init c = record {
  generators = c.requires.generators;
  operators = none_of c.args.n c.args.operators.now.operators (operator_on (generators_of (order_of c.args.construction.now)) (coefficient_by c.args.construction.now)) c.requires.before;
}

pub operator-requires-clause-before : goal.operator-requires-clause-before
operator-requires-clause-before c =
    let r = c.index-of_degree-k.result in
    let gs = generators_of (order_of c.args.construction.now) in
    let own = element_own c.args.n c.loop-k.k r (omega (arith, ap length c.of_degree-k-end.ensures)) (c.index-of_degree-k.is ∙ ap (λ xs. get_or xs c.loop-k.k r) c.of_degree.ensures) in
    subst (λ n. HasValuesBelow n (coefficient_by c.args.construction.now) c.loop-k.operators) (sym own.1)
    (subst (λ g. HasValuesBelow c.args.n (coefficient_by c.args.construction.now) (record { generators = g; operators = c.loop-k.operators.operators })) (sym c.loop-k.invariant.generators)
    (values_below gs (coefficient_by c.args.construction.now) c.loop-k.operators.operators c.args.n c.loop-k.k c.loop-k.invariant.operators))

pub push-requires-clause-next : goal.push-requires-clause-next
push-requires-clause-next c =
    let r = c.index-of_degree-k.result in
    let gs = generators_of (order_of c.args.construction.now) in
    subst (λ g. slice_get (elements (span g + 1)) (length c.loop-k.operators.operators) ≡ Some r) (sym c.loop-k.invariant.generators)
    (next_of c.args.n c.loop-k.k (span gs + 1) r c.loop-k.operators.operators (operator_on gs (coefficient_by c.args.construction.now)) (omega (arith, ap length c.of_degree-k-end.ensures)) (c.index-of_degree-k.is ∙ ap (λ xs. get_or xs c.loop-k.k r) c.of_degree.ensures) (omega (arith, c.requires.degree)) c.loop-k.invariant.operators)

pub push-requires-clause-widths : goal.push-requires-clause-widths
push-requires-clause-widths c =
    let r = c.index-of_degree-k.result in
    let operator = c.in_ok-operator.operator in
    subst (λ gs. EachIndex operator (λ i. length (get_or operator i []) ≡ width_of gs r i)) (sym c.loop-k.invariant.generators)
    (widths_of (generators_of (order_of c.args.construction.now)) (coefficient_by c.args.construction.now) r operator c.in_ok-operator.ensures)

pub loop-k-preserved : goal.loop-k-preserved
loop-k-preserved c =
    let r = c.index-of_degree-k.result in
    record {
      generators = c.push.ensures.generators ∙ c.loop-k.invariant.generators;
      operators = one_of c.args.n c.loop-k.k r c.loop-k.operators.operators c.push.new.self.operators c.in_ok-operator.operator (operator_on (generators_of (order_of c.args.construction.now)) (coefficient_by c.args.construction.now))
          (omega (arith, ap length c.of_degree-k-end.ensures)) (c.index-of_degree-k.is ∙ ap (λ xs. get_or xs c.loop-k.k r) c.of_degree.ensures) c.loop-k.invariant.operators c.in_ok-operator.ensures c.in_ok-push.ensures.ok;
    }

pub returns-clause-after : goal.returns-clause-after
returns-clause-after c =
    all_of c.args.n c.loop-k.k c.loop-k.operators.operators (operator_on (generators_of (order_of c.args.construction.now)) (coefficient_by c.args.construction.now)) (omega (arith, ap length c.of_degree-k-end.ensures, c.loop-k-test.false)) c.loop-k.invariant.operators
