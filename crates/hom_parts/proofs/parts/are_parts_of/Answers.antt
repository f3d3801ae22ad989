use Rattle.std.proofs.Common.{◌≡◌, ◌+◌, length, w32, to_z, of_z, sym, ◌∙◌, subst, arith}
use Rattle.std.proofs.lemmas.Int.{ints}
use Rattle.std.proofs.lemmas.List.{length-map}
use Rattle.std.proofs.lemmas.Result.{IfOk-weaker}
use Rattle.f2_vec.specs.Vectors.{zeros}
use Rattle.f2_vec.specs.Spans.{row, HaveWidth, combination}
use Rattle.f2_vec.proofs.Sums.{one_within}
use Rattle.f2_matrix.proofs.Pivots.{first_within}
use Rattle.f2_kernel.proofs.Tested.{parts_from}
use Rattle.free_module.specs.FreeModule.{free_width}
use Rattle.free_module.specs.LinearMap.{map_rows}
use Rattle.hom_parts.proofs.parts.are_parts_of.Goals as goal

pub are_clear-requires : goal.are_clear-requires
are_clear-requires g c = λ i j p l first.
    let inside = one_within (row c.args.kernel.now j) p first.one in
    let wide = c.requires.kernel j (first_within c.args.kernel.now j p first) in
    omega (arith, inside, wide, c.requires.chosen i l)

pub returns : goal.returns
returns g c =
    let m = c.args.map.now in
    let target = g.T.Target.graded m.target.now in
    let tt : to_z w32 (of_z w32 c.args.t) ≡ c.args.t = omega (arith, ints) in
    let n = c.args.cols in
    let rows = map_rows target m.source.now m.images.now c.args.t in
    let image = c.args.image.now in
    let chosen = c.args.chosen.now in
    let kernel = c.args.kernel.now in
    let basis = c.in_ok-is_basis.ensures.0 c.if-not-is_basis.false in
    let height : c.in_ok-height.height ≡ free_width m.source.now c.args.t = simp tt at c.in_ok-height.ensures in
    let long : free_width m.source.now c.args.t ≡ length rows = sym (length-map _ _) in
    let count : length image + length kernel ≡ length rows = c.add_up-fit.ensures.0 c.if-not-fit.false ∙ height ∙ long in
    let many : length chosen ≡ length image = search in
    IfOk-weaker c.vanish.result _ _
    (λ is e. (
      λ t.
          parts_from n rows image chosen kernel c.requires.image (subst (λ k. HaveWidth k chosen) long c.requires.chosen) (subst (λ k. HaveWidth k kernel) long c.requires.kernel) c.requires.reduced c.requires.nonzero count many basis.0 basis.1
          (c.are_clear.ensures.0 c.if-not-are_clear.false)
          (λ i l. subst (λ k. combination k (row chosen i) rows ≡ row image i) (sym c.requires.cols) ((simp tt at c.in_ok-reach.ensures).0 c.if-not-reach.false i (omega (arith, l, many))))
          (λ i l. subst (λ k. combination k (row kernel i) rows ≡ zeros k) (sym c.requires.cols) ((simp tt at e).0 t i l)),
      λ h. (simp tt at e).1 (λ i l. subst (λ k. combination k (row kernel i) rows ≡ zeros k) c.requires.cols (h.relations i l).vanishes),
    ))
    c.vanish.ensures
