use Rattle.std.proofs.Common.{◌≡◌, ◌-ℤ◌, nat_abs, to_z, of_z, w32, subst, ap, arith}
use Rattle.std.proofs.lemmas.Int.{ints}
use Rattle.finite_module.specs.Module.{bottom}
use Rattle.finite_module.specs.DerivedAction.{top}
use Rattle.finite_module.proofs.Degrees.{AreNear, are_near}
use Rattle.finite_module.proofs.generators.Generators.span.Goals as goal

pub overflow_sub-result : goal.overflow_sub-result
overflow_sub-result c =
    let near = subst AreNear c.self.view_is (are_near c.self.inside.list.items c.self.invariant) in
    omega (arith, ints, c.top.ensures, c.bottom.ensures)

pub overflow_cast-result : goal.overflow_cast-result
overflow_cast-result c =
    let near = subst AreNear c.self.view_is (are_near c.self.inside.list.items c.self.invariant) in
    omega (arith, ints, c.top.ensures, c.bottom.ensures)

pub returns-clause-span : goal.returns-clause-span
returns-clause-span c =
    let near = subst AreNear c.self.view_is (are_near c.self.inside.list.items c.self.invariant) in
    let apart : to_z w32 (of_z w32 (to_z w32 (of_z w32 c.top.result) -ℤ to_z w32 (of_z w32 c.bottom.result))) ≡ top c.args.self.now -ℤ bottom c.args.self.now =
    omega (arith, ints, c.top.ensures, c.bottom.ensures) in
    ap nat_abs apart

pub returns-clause-small : goal.returns-clause-small
returns-clause-small c =
    let near = subst AreNear c.self.view_is (are_near c.self.inside.list.items c.self.invariant) in
    omega (arith, ints, c.top.ensures, c.bottom.ensures)
