use Rattle.std.proofs.Common.{◌≡◌, ◌+◌, ◌<◌, ◌∷◌, ◌++◌, [], length, get_or, slice_get, Some, EachIndex, ap, sym, subst, ◌∙◌, arith}
use Rattle.milnor_basis.specs.Basis.{basis_of}
use Rattle.finite_module.specs.DerivedAction.{derived_operator, elements, span}
use Rattle.finite_module.specs.Sample.{sample_generators, sample_file}
use Rattle.finite_module.specs.Operators.{HaveWidths}
use Rattle.finite_module.proofs.Values.{width_of}
use Rattle.finite_module.proofs.Derivation.{derived_to_more, derived_to_all, derived_widths_of, next_element, element_own}
use Rattle.finite_module.proofs.SampleFile.{next_operator}
use Rattle.finite_module.proofs.sample.push_degree.Goals as goal

pub push-requires-clause-next : goal.push-requires-clause-next
push-requires-clause-next c =
    let r = c.index-of_degree-k.result in
    let within : c.loop-k.k < length (basis_of c.args.degree) = omega (arith, ap length c.of_degree-k-end.ensures) in
    let here = c.index-of_degree-k.is ∙ ap (λ xs. get_or xs c.loop-k.k r) c.of_degree.ensures in
    subst (λ gs. slice_get (elements (span gs + 1)) (length c.loop-k.operators.operators) ≡ Some r) (sym c.loop-k.invariant.generators)
    (next_element (sample_file c.args.n) c.args.degree c.loop-k.k (span (sample_generators c.args.n) + 1) r c.loop-k.operators.operators within here (omega (arith, c.requires.degree)) c.loop-k.invariant.operators)

pub push-requires-clause-widths : goal.push-requires-clause-widths
push-requires-clause-widths c =
    let r = c.index-of_degree-k.result in
    let operator = c.in_ok-operator.operator in
    let own = element_own c.args.degree c.loop-k.k r (omega (arith, ap length c.of_degree-k-end.ensures)) (c.index-of_degree-k.is ∙ ap (λ xs. get_or xs c.loop-k.k r) c.of_degree.ensures) in
    let gs : c.generators.result.now ≡ sample_generators c.args.n = c.generators.ensures.generators ∙ c.loop-k.invariant.generators in
    let is : operator ≡ derived_operator (sample_file c.args.n) c.loop-k.operators.operators r = next_operator c.args.n c.args.degree c.loop-k.k r c.loop-k.operators.operators c.generators.result.now c.args.actions.now operator gs c.requires.actions c.loop-k.invariant.operators own.0 c.in_ok-operator.ensures in
    subst (λ gs. EachIndex operator (λ i. length (get_or operator i []) ≡ width_of gs r i)) (sym c.loop-k.invariant.generators)
    (derived_widths_of (sample_file c.args.n) c.loop-k.operators.operators operator r (subst (λ gs. HaveWidths gs c.loop-k.operators.operators) c.loop-k.invariant.generators c.generators.ensures.widths) own.0 is)

pub loop-k-preserved : goal.loop-k-preserved
loop-k-preserved c =
    let r = c.index-of_degree-k.result in
    let within : c.loop-k.k < length (basis_of c.args.degree) = omega (arith, ap length c.of_degree-k-end.ensures) in
    let here = c.index-of_degree-k.is ∙ ap (λ xs. get_or xs c.loop-k.k r) c.of_degree.ensures in
    let own = element_own c.args.degree c.loop-k.k r within here in
    let gs : c.generators.result.now ≡ sample_generators c.args.n = c.generators.ensures.generators ∙ c.loop-k.invariant.generators in
    let is : c.in_ok-operator.operator ≡ derived_operator (sample_file c.args.n) c.loop-k.operators.operators r = next_operator c.args.n c.args.degree c.loop-k.k r c.loop-k.operators.operators c.generators.result.now c.args.actions.now c.in_ok-operator.operator gs c.requires.actions c.loop-k.invariant.operators own.0 c.in_ok-operator.ensures in
    record {
      generators = c.push.ensures.generators ∙ c.loop-k.invariant.generators;
      operators = derived_to_more (sample_file c.args.n) c.args.degree c.loop-k.k r c.loop-k.operators.operators c.push.new.self.operators within here c.loop-k.invariant.operators (c.in_ok-push.ensures.ok ∙ ap (λ o. c.loop-k.operators.operators ++ o ∷ []) is);
    }

pub returns-clause-after : goal.returns-clause-after
returns-clause-after c =
    c.loop-k.invariant.operators ∙ derived_to_all (sample_file c.args.n) c.args.degree c.loop-k.k (omega (arith, ap length c.of_degree-k-end.ensures, c.loop-k-test.false))
