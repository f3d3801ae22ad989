use Rattle.std.proofs.Common.{◌≡◌, ◌++◌, List, ℕ, [], ◌∷◌, to_z, of_z, w32, ap, sym, subst, ◌∙◌, arith}
use Rattle.std.proofs.lemmas.Int.{ints}
use Rattle.module_spec.specs.Spec.{Generator}
use Rattle.module_spec.specs.WellFormed.{AreByDegree}
use Rattle.finite_module.proofs.OneGenerator.{one_by_degree}
use Rattle.finite_module.proofs.generators.Generators.one.Goals as goal

pub invariant_of-result : goal.invariant_of-result
invariant_of-result c =
    let degree = to_z w32 (of_z w32 c.args.degree) in
    let same : degree ≡ c.args.degree = omega (arith, ints) in
    let g : List ℕ → Generator = λ name. record { name = name; degree = degree } in
    let pushed : c.push.new.self.items ≡ c.new-list.result.items ++ g c.in_ok-name.name.bytes.items ∷ [] = c.in_ok-push.ensures.items in
    let e : c.push.new.self.items ≡ g c.args.name.now ∷ [] = pushed ∙ ap (λ gs. gs ++ g c.in_ok-name.name.bytes.items ∷ []) c.new-list.ensures.items ∙ ap (λ name. g name ∷ []) c.in_ok-name.ensures.ok in
    subst AreByDegree (sym e) (one_by_degree (g c.args.name.now) (rw same c.requires.lowest) (rw same c.requires.highest))
