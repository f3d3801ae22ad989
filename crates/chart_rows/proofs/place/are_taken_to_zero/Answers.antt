use Rattle.std.proofs.Common.{◌≡◌, ◌<◌, Bool, List, [], length, to_z, of_z, w32, ap, sym, subst, ◌∙◌, arith}
use Rattle.std.proofs.lemmas.Int.{ints}
use Rattle.std.proofs.lemmas.List.{get_or_read}
use Rattle.f2_vec.specs.Vectors.{IsZero}
use Rattle.f2_vec.specs.Spans.{row}
use Rattle.free_module.specs.LinearMap.{mapped}
use Rattle.chart_rows.proofs.place.are_taken_to_zero.Goals as goal

pub returns-then-not-is_zero : goal.returns-then-not-is_zero
returns-then-not-is_zero g c =
    let hom = c.args.hom.now in
    let target = g.T.Target.graded hom.target.now in
    let i = c.loop-vector.vector-index in
    let vectors = c.args.vectors.now in
    let within : i < length vectors = omega arith in
    let same : to_z w32 (of_z w32 c.args.t) ≡ c.args.t = omega (arith, ints) in
    let here : c.vector-item.result ≡ row vectors i = get_or_read vectors i c.vector-item.result within c.vector-item.is [] in
    let value : c.in_ok-apply.field-0 ≡ mapped target hom.source.now hom.images.now c.args.t c.vector-item.result = simp same at c.in_ok-apply.ensures in
    let is = value ∙ ap (mapped target hom.source.now hom.images.now c.args.t) here in (
      λ f. absurd (cc f),
      λ all.
          let zero : IsZero c.in_ok-apply.field-0 = subst (λ (v : List Bool). IsZero v) (sym is) (all i within) in
          let told = c.is_zero-in-loop-vector.ensures.1 zero in
          absurd (cc (told, c.if-not-is_zero.true)),
    )
