use Rattle.std.proofs.Common.{◌≡◌, ◌-◌, to_z, of_z, w64, ap, sym, subst, ◌∙◌, IfOk, arith}
use Rattle.std.proofs.lemmas.Int.{ints}
use Rattle.module_spec.specs.Spec.{degree_at}
use Rattle.finite_module.specs.Module.{generators_in}
use Rattle.finite_module.proofs.Degrees.{IsPlaced, placed}
use Rattle.finite_module.proofs.generators.Generators.unit.Goals.{After-within-here}
use Rattle.finite_module.proofs.generators.Generators.unit.Goals as goal

-- the place of the generator among those of its degree
place_of : (c : After-within-here) → IsPlaced c.args.self.now c.args.i c.within-here.result.start (c.within-here.result.end - c.within-here.result.start)
place_of c =
    let degree : to_z w64 (of_z w64 c.from.result) ≡ degree_at c.args.self.now c.args.i = omega (arith, ints, c.from.ensures, c.degree.ensures.degree, c.degree.ensures.lowest, c.degree.ensures.highest) in
    placed c.args.self.now c.args.i c.within-here.result.start (c.within-here.result.end - c.within-here.result.start) c.requires (ap (generators_in c.args.self.now) (sym degree) ∙ c.within-here.ensures.generators)

pub overflow_sub-i : goal.overflow_sub-i
overflow_sub-i c = (place_of (goal.at.overflow_sub-i c).After-within-here).behind

pub unit-requires : goal.unit-requires
unit-requires c = (place_of (goal.at.unit-requires c).After-within-here).within

pub returns : goal.returns
returns c = subst (λ u. IfOk c.unit.result (λ v. v ≡ u)) (place_of (goal.at.returns c).After-within-here).vector c.unit.ensures
