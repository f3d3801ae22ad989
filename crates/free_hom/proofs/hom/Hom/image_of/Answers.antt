use Rattle.std.proofs.Common.{◌≡◌, ◌<◌, Bool, List, [], pos, Some, slice_get, IfOk, length, slice_index_or, to_z, of_z, w32, subst, ap, sym, ◌∙◌, arith, rules}
use Rattle.std.proofs.lemmas.Int.{ints}
use Rattle.std.proofs.lemmas.List.{get_or_default}
use Rattle.f2_vec.specs.Spans.{row}
use Rattle.free_module.specs.FreeModule.{degree_at, free_basis}
use Rattle.free_module.specs.LinearMap.{map_rows}
use Rattle.free_module.proofs.MapRows.{row-map_rows}
use Rattle.free_hom.proofs.hom.Hom.image_of.Goals as goal
use mir.Val.{SFits}

pub returns : goal.returns
returns g c =
    let target = g.T.Target.graded c.args.self.now.target.now in
    let source = c.args.self.now.source.now in
    let images = c.args.self.now.images.now in
    let t = c.args.t in
    let e = c.at-generator.result in
    let tt : to_z w32 (of_z w32 t) ≡ t = omega (arith, ints) in
    let element : slice_get (free_basis source t) c.args.i ≡ Some (e.0, e.1) = simp tt at c.at-generator.ensures.element in
    let h = row-map_rows target source images t c.args.i (e.0, e.1) element in
    let l : e.0 < length images = omega (arith, c.args.self.now.are_images.one_each) in
    let x = slice_index_or images e.0 c.index-self-generator.result in
    let im : x ≡ row images e.0 = get_or_default images e.0 c.index-self-generator.result [] l in
    let d = slice_index_or c.degrees.result.now e.0 (pos 0) in
    let fd : SFits w32 d = search rules in
    let dd : d ≡ degree_at source e.0 = ap (λ xs. slice_index_or xs e.0 (pos 0)) c.degrees.ensures in
    let q : to_z w32 (of_z w32 d) ≡ degree_at source e.0 = omega (arith, ints) in
    let same : target.action e.1 (to_z w32 (of_z w32 d)) x ≡ row (map_rows target source images t) c.args.i =
    ap (λ z. target.action e.1 z x) q ∙ ap (target.action e.1 (degree_at source e.0)) im ∙ sym h in
    subst (λ (y : List Bool). IfOk c.act.result (λ w. w ≡ y)) same c.act.ensures
