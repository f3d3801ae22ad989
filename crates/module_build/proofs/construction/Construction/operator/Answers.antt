use Rattle.std.proofs.Common.{◌≡◌, ◌<◌, ◌+◌, ◌-◌, ◌*◌, [], length, IfOk, ap, sym, subst, ◌∙◌, inl, inr, arith}
use Rattle.milnor_basis.specs.Exponents.{degree_of}
use Rattle.finite_module.specs.Module.{Module}
use Rattle.finite_module.specs.DerivedAction.{span}
use Rattle.built_laws.specs.Built.{action_of, values_on, operator_on}
use Rattle.module_build.specs.declared.coefficients.Coefficients.{Coefficients}
use Rattle.module_build.specs.declared.coefficients.Coefficients.TheVariants.{Same, Turned, Blocks, Pairs}
use Rattle.module_build.specs.declared.construction.Construction.TheVariants.{Dual}
use Rattle.module_build.specs.Inside.Splittings.{sum_over, AreSplittings}
use Rattle.module_build.specs.Inside.Construction.{blocks_at, pairs_at, size_of, coefficient_in, coefficient_by, order_of, generators_of, dual_by, IsDualOrder}
use Rattle.module_build.proofs.Arms.{operator_is, counts_are, numbers_are, tensor_entry, turned_entry, dual_order}
use Rattle.module_build.proofs.construction.Construction.operator.Goals as goal
use Rattle.milnor_laws.proofs.UnitActs.{empty_or_positive}

pub operator-requires-clause-count : goal.operator-requires-clause-count
operator-requires-clause-count c = counts_are c.args.self.now c.generators.result.now c.args.order.now (c.generators.ensures.generators ∙ c.requires.generators) c.requires.order

pub operator-requires-clause-numbers : goal.operator-requires-clause-numbers
operator-requires-clause-numbers c =
    let w : length c.operators.result.now.generators ≡ size_of c.args.self.now = ap (λ (m : Module). length m.generators) c.operators.ensures ∙ sym (ap size_of c.in-Shift.is) in
    numbers_are c.args.self.now c.args.order.now (length c.operators.result.now.generators) c.requires.order w

pub operator-requires-in-Sum-clause-count : goal.operator-requires-in-Sum-clause-count
operator-requires-in-Sum-clause-count c = counts_are c.args.self.now c.generators-in-Sum.result.now c.args.order.now (c.generators-in-Sum.ensures.generators ∙ c.requires.generators) c.requires.order

pub operator-requires-in-Sum-clause-numbers : goal.operator-requires-in-Sum-clause-numbers
operator-requires-in-Sum-clause-numbers c =
    let w : length c.operators-in-Sum.result.now.generators + length c.operators-in-Sum-2.result.now.generators ≡ size_of c.args.self.now = ap (λ (m : Module). length m.generators + length c.operators-in-Sum-2.result.now.generators) c.operators-in-Sum.ensures ∙ ap (λ (m : Module). length c.in-Sum.left.now.plain.generators + length m.generators) c.operators-in-Sum-2.ensures ∙ sym (ap size_of c.in-Sum.is) in
    numbers_are c.args.self.now c.args.order.now (length c.operators-in-Sum.result.now.generators + length c.operators-in-Sum-2.result.now.generators) c.requires.order w

pub operator-requires-in-Tensor-clause-count : goal.operator-requires-in-Tensor-clause-count
operator-requires-in-Tensor-clause-count c = counts_are c.args.self.now c.generators-in-Tensor.result.now c.args.order.now (c.generators-in-Tensor.ensures.generators ∙ c.requires.generators) c.requires.order

pub operator-requires-in-Tensor-clause-numbers : goal.operator-requires-in-Tensor-clause-numbers
operator-requires-in-Tensor-clause-numbers c =
    let w : length c.operators-in-Tensor.result.now.generators * length c.operators-in-Tensor-2.result.now.generators ≡ size_of c.args.self.now = ap (λ (m : Module). length m.generators * length c.operators-in-Tensor-2.result.now.generators) c.operators-in-Tensor.ensures ∙ ap (λ (m : Module). length c.in-Tensor.left.now.plain.generators * length m.generators) c.operators-in-Tensor-2.ensures ∙ sym (ap size_of c.in-Tensor.is) in
    numbers_are c.args.self.now c.args.order.now (length c.operators-in-Tensor.result.now.generators * length c.operators-in-Tensor-2.result.now.generators) c.requires.order w

pub operator-requires-in-Dual-clause-count : goal.operator-requires-in-Dual-clause-count
operator-requires-in-Dual-clause-count c = counts_are c.args.self.now c.generators-in-Dual.result.now c.args.order.now (c.generators-in-Dual.ensures.generators ∙ c.requires.generators) c.requires.order

pub operator-requires-in-Dual-clause-numbers : goal.operator-requires-in-Dual-clause-numbers
operator-requires-in-Dual-clause-numbers c =
    let w : length c.operators-in-Dual.result.now.generators ≡ size_of c.args.self.now = ap (λ (m : Module). length m.generators) c.operators-in-Dual.ensures ∙ sym (ap size_of c.in-Dual.is) in
    numbers_are c.args.self.now c.args.order.now (length c.operators-in-Dual.result.now.generators) c.requires.order w

pub returns-in-Shift : goal.returns-in-Shift
returns-in-Shift c =
    let self = c.args.self.now in
    let k : Coefficients = Same c.operators.result c.args.r.now in
    subst (λ x. IfOk c.operator.result (λ operator. operator ≡ x))
    (operator_is self k c.generators.result.now c.args.order.now c.degree.result c.args.r.now (c.generators.ensures.generators ∙ c.requires.generators) c.requires.order c.degree.ensures.degree c.degree.ensures.trimmed
    (λ x y lx ly. ap (λ m. (action_of m).coefficient c.args.r.now x y) c.operators.ensures ∙ sym (ap (λ s. coefficient_in s c.args.r.now x y) c.in-Shift.is)))
    c.operator.ensures

pub returns-in-Sum : goal.returns-in-Sum
returns-in-Sum c =
    let self = c.args.self.now in
    let k : Coefficients = Blocks c.operators-in-Sum.result c.operators-in-Sum-2.result c.args.r.now in
    subst (λ x. IfOk c.operator-in-Sum.result (λ operator. operator ≡ x))
    (operator_is self k c.generators-in-Sum.result.now c.args.order.now c.degree-in-Sum.result c.args.r.now (c.generators-in-Sum.ensures.generators ∙ c.requires.generators) c.requires.order c.degree-in-Sum.ensures.degree c.degree-in-Sum.ensures.trimmed
    (λ x y lx ly. ap (λ m. blocks_at m c.operators-in-Sum-2.result.now c.args.r.now x y) c.operators-in-Sum.ensures ∙ ap (λ m. blocks_at c.in-Sum.left.now.plain m c.args.r.now x y) c.operators-in-Sum-2.ensures ∙ sym (ap (λ s. coefficient_in s c.args.r.now x y) c.in-Sum.is)))
    c.operator-in-Sum.ensures

pub returns-in_ok-splittings-in-Tensor : goal.returns-in_ok-splittings-in-Tensor
returns-in_ok-splittings-in-Tensor c =
    let self = c.args.self.now in
    let pairs : Coefficients = Pairs c.operators-in-Tensor.result c.operators-in-Tensor-2.result c.in_ok-splittings-in-Tensor.field-0 in
    let xs = c.in_ok-splittings-in-Tensor.field-0.items in
    let m = c.in-Tensor.left.now.plain.generators in
    let k = c.in-Tensor.right.now.plain.generators in
    let left : c.basis.result.now ≡ span m = c.basis.ensures ∙ ap (λ (m : Module). span m.generators) c.operators-in-Tensor-3.ensures in
    let right : c.basis-in-Tensor.result.now ≡ span k = c.basis-in-Tensor.ensures ∙ ap (λ (m : Module). span m.generators) c.operators-in-Tensor-4.ensures in
    let are : AreSplittings (degree_of c.args.r.now - span k) (span m) c.args.r.now xs = subst (λ n. AreSplittings (degree_of c.args.r.now - n) (span m) c.args.r.now xs) right (subst (λ n. AreSplittings (degree_of c.args.r.now - c.basis-in-Tensor.result.now) n c.args.r.now xs) left c.in_ok-splittings-in-Tensor.ensures) in
    subst (λ x. IfOk c.operator-in-Tensor.result (λ operator. operator ≡ x))
    (operator_is self pairs c.generators-in-Tensor.result.now c.args.order.now c.degree-in-Tensor.result c.args.r.now (c.generators-in-Tensor.ensures.generators ∙ c.requires.generators) c.requires.order c.degree-in-Tensor.ensures.degree c.degree-in-Tensor.ensures.trimmed
    (λ x y lx ly. (ap (λ m. sum_over (pairs_at m c.operators-in-Tensor-2.result.now x y) xs) c.operators-in-Tensor.ensures ∙ ap (λ m. sum_over (pairs_at c.in-Tensor.left.now.plain m x y) xs) c.operators-in-Tensor-2.ensures ∙ tensor_entry c.in-Tensor.left c.in-Tensor.right c.args.r.now xs x y (omega (arith, lx, ap size_of c.in-Tensor.is)) are) ∙ sym (ap (λ s. coefficient_in s c.args.r.now x y) c.in-Tensor.is)))
    c.operator-in-Tensor.ensures

pub returns-else-degree-gt-UNIT_DEGREE : goal.returns-else-degree-gt-UNIT_DEGREE
returns-else-degree-gt-UNIT_DEGREE c =
    let self = c.args.self.now in
    let k : Coefficients = Turned c.operators-in-Dual.result c.args.r.now in
    let none : c.args.r.now ≡ [] = elim (empty_or_positive c.args.r.now c.degree-in-Dual.ensures.trimmed) [
      | inl e ↦ e
      | inr l ↦ absurd (omega (arith, c.degree-in-Dual.ensures.degree))
    ] in
    subst (λ x. IfOk c.operator-in-Dual.result (λ operator. operator ≡ x))
    (operator_is self k c.generators-in-Dual.result.now c.args.order.now c.degree-in-Dual-2.result c.args.r.now (c.generators-in-Dual.ensures.generators ∙ c.requires.generators) c.requires.order c.degree-in-Dual-2.ensures.degree c.degree-in-Dual-2.ensures.trimmed
    (λ x y lx ly. (ap (λ m. (action_of m).coefficient c.args.r.now y x) c.operators-in-Dual.ensures ∙ turned_entry c.in-Dual.given c.args.r.now x y none) ∙ sym (ap (λ s. coefficient_in s c.args.r.now x y) c.in-Dual.is)))
    c.operator-in-Dual.ensures

pub dual_operator-requires-clause-order : goal.dual_operator-requires-clause-order
dual_operator-requires-clause-order c =
    let m = c.in-Dual.given.now.plain in
    let e : c.args.before.now.generators ≡ generators_of (order_of (Dual c.in-Dual.given)) = c.requires.generators ∙ ap (λ s. generators_of (order_of s)) c.in-Dual.is in
    let f : c.args.order.now ≡ order_of (Dual c.in-Dual.given) = c.requires.order ∙ ap order_of c.in-Dual.is in
    subst (λ gs. IsDualOrder m gs c.args.order.now) (sym e) (subst (IsDualOrder m (generators_of (order_of (Dual c.in-Dual.given)))) (sym f) (dual_order c.in-Dual.given))

pub dual_operator-requires-clause-before : goal.dual_operator-requires-clause-before
dual_operator-requires-clause-before c =
    let m = c.in-Dual.given.now.plain in
    let gs = c.args.before.now.generators in
    let f : c.args.order.now ≡ order_of (Dual c.in-Dual.given) = c.requires.order ∙ ap order_of c.in-Dual.is in
    λ r i h l b. c.requires.before r i h l b ∙ ap (λ s. values_on gs (coefficient_by s) r i) c.in-Dual.is ∙ ap (λ o. values_on gs (dual_by m o) r i) (sym f)

pub returns-then-degree-gt-UNIT_DEGREE : goal.returns-then-degree-gt-UNIT_DEGREE
returns-then-degree-gt-UNIT_DEGREE c =
    let m = c.in-Dual.given.now.plain in
    let own = generators_of (order_of c.args.self.now) in
    let f : c.args.order.now ≡ order_of (Dual c.in-Dual.given) = c.requires.order ∙ ap order_of c.in-Dual.is in
    subst (λ x. IfOk c.dual_operator.result (λ operator. operator ≡ x))
    (ap (λ g. operator_on g (dual_by m c.args.order.now) c.args.r.now) c.requires.generators ∙ ap (λ o. operator_on own (dual_by m o) c.args.r.now) f ∙ sym (ap (λ s. operator_on own (coefficient_by s) c.args.r.now) c.in-Dual.is))
    c.dual_operator.ensures
