use Rattle.std.proofs.Common.{◌≡◌, ◌<◌, ◌++◌, ℕ, ℤ, ◌≤ℤ◌, List, length, replicate, w32, to_z, of_z, ap, sym, subst, ◌∙◌}
use Rattle.std.proofs.lemmas.Int.{to_z-of_z}
use Rattle.free_module.specs.FreeModule.{NeverFall, degree_at}
use Rattle.free_module.proofs.Generators.{NeverFall-replicate}
use Rattle.free_module.proofs.gens.Gens.push_many.Goals as goal

pub invariant_of-self-in-loop : goal.invariant_of-self-in-loop
invariant_of-self-in-loop c =
    let before = c.self.inside.degrees.items in
    let i = c.loop.counter in
    let d = c.args.degree in
    let same = to_z-of_z w32 d c.ranges.degree in
    let items : c.loop.self-inside.degrees.items ≡ before ++ replicate i d = c.loop.invariant.items ∙ ap (λ (xs : List ℤ). xs ++ replicate i (to_z w32 (of_z w32 d))) c.in_ok-reserve.ensures.items ∙ ap (λ (t : ℤ). before ++ replicate i t) same in
    let not_below : (g : ℕ) → g < length before → degree_at before g ≤ℤ d = rw (← c.self.view_is) at c.requires.not_below in
    subst NeverFall (sym items) (NeverFall-replicate before i d c.self.invariant not_below)
