use Rattle.std.proofs.Common.{◌≡◌, ◌+ℤ◌, ℕ, List, [], pos, slice_index_or, to_z, of_z, w32, arith, subst, ap, ◌∙◌}
use Rattle.std.proofs.lemmas.Int.{ints}
use Rattle.std.proofs.lemmas.List.{get_or_read}
use Rattle.milnor_basis.specs.Exponents.{degree_of}
use Rattle.free_module.proofs.MapRows.{degree_of-element}
use Rattle.free_module.proofs.target.Target.act_all.Goals as goal

pub act-requires-clause-reach : goal.act-requires-clause-reach
act-requires-clause-reach g c =
    let elements : List (List ℕ) = c.of_degree-r-items.result.now in
    let i = c.loop-r.r-index in
    let r : List ℕ = c.r-item.result in
    let read : r ≡ slice_index_or elements i [] = get_or_read elements i r c.loop-r-test.true c.r-item.is [] in
    let d : pos (degree_of (slice_index_or elements i [])) ≡ pos c.args.degree = degree_of-element elements (pos c.args.degree) i c.of_degree-r-items.ensures c.loop-r-test.true in
    let own : pos (degree_of r) ≡ pos c.args.degree = ap (λ x. pos (degree_of x)) read ∙ d in
    let reached : c.args.t +ℤ pos c.args.degree ≡ to_z w32 (of_z w32 c.args.t) +ℤ pos (degree_of r) = omega (arith, ints) in
    subst (g.Self.Target.reaches c.args.self.now c.args.basis.now) reached c.requires.reach
