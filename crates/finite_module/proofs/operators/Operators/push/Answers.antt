use Rattle.std.proofs.Common.{◌≡◌, ◌+◌, Some, [], length, get_or, sym, subst, slice_get, EachIndex}
use Rattle.finite_module.specs.Module.{Module}
use Rattle.finite_module.specs.DerivedAction.{elements, span}
use Rattle.finite_module.proofs.Values.{operators_more, width_of}
use Rattle.finite_module.proofs.operators.Operators.push.Goals as goal

pub invariant_of-self-2 : goal.invariant_of-self-2
invariant_of-self-2 c =
    let next = subst (λ (m : Module). slice_get (elements (span m.generators + 1)) (length m.operators) ≡ Some c.args.r.now) (sym c.self.view_is) c.requires.next in
    let widths = subst (λ (m : Module). EachIndex c.args.operator (λ i. length (get_or c.args.operator i []) ≡ width_of m.generators c.args.r.now i)) (sym c.self.view_is) c.requires.widths in
    operators_more c.self.inside.basis c.self.inside.below.items c.self.inside.generators c.self.inside.list.items c.push.new.self.items c.args.r.now c.args.operator c.self.invariant next widths c.in_ok-push.ensures.items
