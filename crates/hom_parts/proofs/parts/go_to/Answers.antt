use Rattle.std.proofs.Common.{◌≡◌, ℕ, ◌<◌, [], length, refl, ap, sym, ◌∙◌, subst, w32, to_z, of_z, arith, inl, inr}
use Rattle.std.proofs.lemmas.Bool.{cases_eq, false≢true, iff_false}
use Rattle.std.proofs.lemmas.Int.{ints}
use Rattle.std.proofs.lemmas.List.{get_or_read}
use Rattle.f2_vec.specs.Vectors.{IsZero}
use Rattle.f2_vec.specs.Spans.{row}
use Rattle.free_module.specs.FreeModule.{free_width}
use Rattle.free_module.specs.LinearMap.{mapped}
use Rattle.hom_parts.proofs.Values.{length-mapped, same_from_sum, sum_of_same}
use Rattle.hom_parts.proofs.parts.go_to.Goals as goal

pub apply-requires-clause-width : goal.apply-requires-clause-width
apply-requires-clause-width g c =
    let vectors = c.args.vectors.now in
    let k = c.loop-i.i in
    let tt : to_z w32 (of_z w32 c.args.t) ≡ c.args.t = omega (arith, ints) in
    let here : c.index-vectors-i.result ≡ row vectors k = get_or_read vectors k c.index-vectors-i.result c.loop-i-test.true c.index-vectors-i.is [] in
    ap length here ∙ c.requires.vectors k c.loop-i-test.true ∙ ap (free_width c.args.map.now.source.now) (sym tt)

pub xor_with-requires : goal.xor_with-requires
xor_with-requires g c =
    let m = c.args.map.now in
    let target = g.T.Target.graded m.target.now in
    let vectors = c.args.vectors.now in
    let values = c.args.values.now in
    let k = c.loop-i.i in
    let l : k < length values = omega (arith, c.loop-i-test.true, c.requires.as_many) in
    let keeps = g.met.T.Target.keeps_widths m.target.now in
    let tt : to_z w32 (of_z w32 c.args.t) ≡ c.args.t = omega (arith, ints) in
    let made : c.in_ok-rest.rest ≡ mapped target m.source.now m.images.now c.args.t c.index-vectors-i.result = simp tt at c.in_ok-rest.ensures in
    let value : c.index-values-i.result ≡ row values k = get_or_read values k c.index-values-i.result l c.index-values-i.is [] in
    ap length made ∙ length-mapped target m.source.now m.images.now c.args.t c.index-vectors-i.result keeps m.are_images ∙ sym (ap length value ∙ c.requires.values k l)

pub loop-i-preserved : goal.loop-i-preserved
loop-i-preserved g c = λ j b.
    let m = c.args.map.now in
    let target = g.T.Target.graded m.target.now in
    let vectors = c.args.vectors.now in
    let values = c.args.values.now in
    let k = c.loop-i.i in
    let l : k < length values = omega (arith, c.loop-i-test.true, c.requires.as_many) in
    let keeps = g.met.T.Target.keeps_widths m.target.now in
    let tt : to_z w32 (of_z w32 c.args.t) ≡ c.args.t = omega (arith, ints) in
    let made : c.in_ok-rest.rest ≡ mapped target m.source.now m.images.now c.args.t c.index-vectors-i.result = simp tt at c.in_ok-rest.ensures in
    let here : c.index-vectors-i.result ≡ row vectors k = get_or_read vectors k c.index-vectors-i.result c.loop-i-test.true c.index-vectors-i.is [] in
    let value : c.index-values-i.result ≡ row values k = get_or_read values k c.index-values-i.result l c.index-values-i.is [] in
    let lr : length c.in_ok-rest.rest ≡ target.width c.args.t = ap length made ∙ length-mapped target m.source.now m.images.now c.args.t c.index-vectors-i.result keeps m.are_images in
    let lv : length c.index-values-i.result ≡ target.width c.args.t = ap length value ∙ c.requires.values k l in
    let same : c.in_ok-rest.rest ≡ c.index-values-i.result = same_from_sum (target.width c.args.t) c.in_ok-rest.rest c.index-values-i.result lr lv (subst IsZero c.xor_with.ensures (c.is_zero.ensures.0 c.if-not-is_zero.false)) in
    let one : mapped target m.source.now m.images.now c.args.t (row vectors k) ≡ row values k = ap (mapped target m.source.now m.images.now c.args.t) (sym here) ∙ sym made ∙ same ∙ value in
    let before : (i : ℕ) → i < k → mapped target m.source.now m.images.now c.args.t (row vectors i) ≡ row values i = simp tt at c.loop-i.invariant in
    let all : mapped target m.source.now m.images.now c.args.t (row vectors j) ≡ row values j = elim (cases_eq j k) [
      | inl e ↦ ap (λ i. mapped target m.source.now m.images.now c.args.t (row vectors i)) e ∙ one ∙ ap (row values) (sym e)
      | inr d ↦ before j (omega (arith, b, d))
    ] in
    simp tt all

pub returns-then-not-is_zero : goal.returns-then-not-is_zero
returns-then-not-is_zero g c =
    let m = c.args.map.now in
    let target = g.T.Target.graded m.target.now in
    let vectors = c.args.vectors.now in
    let values = c.args.values.now in
    let k = c.loop-i.i in
    let l : k < length values = omega (arith, c.loop-i-test.true, c.requires.as_many) in
    let keeps = g.met.T.Target.keeps_widths m.target.now in
    let tt : to_z w32 (of_z w32 c.args.t) ≡ c.args.t = omega (arith, ints) in
    let made : c.in_ok-rest.rest ≡ mapped target m.source.now m.images.now c.args.t c.index-vectors-i.result = simp tt at c.in_ok-rest.ensures in
    let here : c.index-vectors-i.result ≡ row vectors k = get_or_read vectors k c.index-vectors-i.result c.loop-i-test.true c.index-vectors-i.is [] in
    let value : c.index-values-i.result ≡ row values k = get_or_read values k c.index-values-i.result l c.index-values-i.is [] in
    let lr : length c.in_ok-rest.rest ≡ target.width c.args.t = ap length made ∙ length-mapped target m.source.now m.images.now c.args.t c.index-vectors-i.result keeps m.are_images in (
      λ t. absurd (false≢true t),
      λ h.
          let same : c.in_ok-rest.rest ≡ c.index-values-i.result = made ∙ ap (mapped target m.source.now m.images.now c.args.t) here ∙ h k c.loop-i-test.true ∙ sym value in
          absurd (iff_false c.is_zero.ensures c.if-not-is_zero.true (subst IsZero (sym c.xor_with.ensures) (sum_of_same (target.width c.args.t) c.in_ok-rest.rest c.index-values-i.result lr same))),
    )

pub returns : goal.returns
returns g c =
    let m = c.args.map.now in
    let tt : to_z w32 (of_z w32 c.args.t) ≡ c.args.t = omega (arith, ints) in
    let all : (i : ℕ) → i < c.loop-i.i → mapped (g.T.Target.graded m.target.now) m.source.now m.images.now c.args.t (row c.args.vectors.now i) ≡ row c.args.values.now i = simp tt at c.loop-i.invariant in
    (λ t. λ i l. all i (omega (arith, l, c.loop-i-test.false)), λ h. refl)
