use Rattle.std.proofs.Common.{◌≡◌, ℕ, ℤ, List, ◌∷◌, [], ◌++◌, take, get_or, to_z, of_z, w32, w64, ap, sym, ◌∙◌, arith}
use Rattle.std.proofs.lemmas.Int.{ints}
use Rattle.module_spec.specs.Spec.{Generator}
use Rattle.module_build.specs.Names.{numbered_name}
use Rattle.module_build.specs.Inside.Construction.{nowhere, generators_of}
use Rattle.module_build.proofs.LimitCases.{generators_more, placed_within}
use Rattle.module_build.proofs.generators.named.Goals as goal

pub overflow_cast-placed : goal.overflow_cast-placed
overflow_cast-placed c =
    let w = placed_within c.args.basis.now c.loop-i.i c.requires (omega arith) in
    omega (arith, ints, w.low, w.high)

pub loop-i-preserved : goal.loop-i-preserved
loop-i-preserved c =
    let ps = c.args.basis.now in
    let i = c.loop-i.i in
    let w = placed_within ps i c.requires (omega arith) in
    let z : ℤ = (get_or ps i nowhere).degree in
    let same : to_z w32 (of_z w32 (to_z w64 (of_z w64 z))) ≡ z = omega (arith, ints, w.low, w.high) in
    let made : c.new.result ≡ record { name = numbered_name i; degree = z } = c.new.ensures ∙ ap (λ n. record { name = n; degree = to_z w32 (of_z w32 (to_z w64 (of_z w64 z))) }) c.in_ok-name.ensures ∙ ap (λ y. record { name = numbered_name i; degree = y }) same in
    c.in_ok-push.ensures.items
    ∙ ap (λ gs. gs ++ c.new.result ∷ []) c.loop-i.invariant
    ∙ ap (λ (g : Generator). generators_of (take i ps) ++ g ∷ []) made
    ∙ sym (generators_more ps i (omega arith))
