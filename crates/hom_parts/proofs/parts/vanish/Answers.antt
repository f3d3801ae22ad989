use Rattle.std.proofs.Common.{◌≡◌, ℕ, ◌<◌, Bool, List, [], length, refl, ap, sym, ◌∙◌, w32, to_z, of_z, arith, inl, inr}
use Rattle.std.proofs.lemmas.Bool.{cases_eq, false≢true, iff_false}
use Rattle.std.proofs.lemmas.Int.{ints}
use Rattle.std.proofs.lemmas.List.{get_or_read}
use Rattle.f2_vec.specs.Vectors.{bit, zeros}
use Rattle.f2_vec.specs.Spans.{row}
use Rattle.f2_vec.proofs.Sums.{bit-zeros, zeros_from_bits}
use Rattle.free_module.specs.FreeModule.{free_width}
use Rattle.free_module.specs.LinearMap.{mapped}
use Rattle.hom_parts.proofs.Values.{length-mapped}
use Rattle.hom_parts.proofs.parts.vanish.Goals as goal

pub apply-requires-clause-width : goal.apply-requires-clause-width
apply-requires-clause-width g c =
    let vectors = c.args.vectors.now in
    let k = c.loop-vector.vector-index in
    let tt : to_z w32 (of_z w32 c.args.t) ≡ c.args.t = omega (arith, ints) in
    let here : c.vector-item.result ≡ row vectors k = get_or_read vectors k c.vector-item.result c.loop-vector-test.true c.vector-item.is [] in
    ap length here ∙ c.requires.vectors k c.loop-vector-test.true ∙ ap (free_width c.args.map.now.source.now) (sym tt)

pub loop-vector-preserved : goal.loop-vector-preserved
loop-vector-preserved g c = λ j l.
    let m = c.args.map.now in
    let target = g.T.Target.graded m.target.now in
    let vectors = c.args.vectors.now in
    let k = c.loop-vector.vector-index in
    let keeps = g.met.T.Target.keeps_widths m.target.now in
    let tt : to_z w32 (of_z w32 c.args.t) ≡ c.args.t = omega (arith, ints) in
    let here : c.vector-item.result ≡ row vectors k = get_or_read vectors k c.vector-item.result c.loop-vector-test.true c.vector-item.is [] in
    let value : c.in_ok-value.value ≡ mapped target m.source.now m.images.now c.args.t (row vectors k) = simp tt at c.in_ok-value.ensures ∙ ap (mapped target m.source.now m.images.now c.args.t) here in
    let n = target.width c.args.t in
    let none : mapped target m.source.now m.images.now c.args.t (row vectors k) ≡ zeros n = zeros_from_bits n (mapped target m.source.now m.images.now c.args.t (row vectors k)) (length-mapped target m.source.now m.images.now c.args.t (row vectors k) keeps m.are_images) (λ q. ap (λ (v : List Bool). bit v q) (sym value) ∙ c.is_zero.ensures.0 c.if-not-is_zero.false q) in
    let before : (i : ℕ) → i < k → mapped target m.source.now m.images.now c.args.t (row vectors i) ≡ zeros (target.width c.args.t) = simp tt at c.loop-vector.invariant in
    let all : mapped target m.source.now m.images.now c.args.t (row vectors j) ≡ zeros (target.width c.args.t) = elim (cases_eq j k) [
      | inl e ↦ ap (λ i. mapped target m.source.now m.images.now c.args.t (row vectors i)) e ∙ none
      | inr d ↦ before j (omega (arith, l, d))
    ] in
    simp tt all

pub returns-then-not-is_zero : goal.returns-then-not-is_zero
returns-then-not-is_zero g c =
    let m = c.args.map.now in
    let target = g.T.Target.graded m.target.now in
    let vectors = c.args.vectors.now in
    let k = c.loop-vector.vector-index in
    let tt : to_z w32 (of_z w32 c.args.t) ≡ c.args.t = omega (arith, ints) in
    let here : c.vector-item.result ≡ row vectors k = get_or_read vectors k c.vector-item.result c.loop-vector-test.true c.vector-item.is [] in
    let value : c.in_ok-value.value ≡ mapped target m.source.now m.images.now c.args.t (row vectors k) = simp tt at c.in_ok-value.ensures ∙ ap (mapped target m.source.now m.images.now c.args.t) here in (
      λ t. absurd (false≢true t),
      λ h. absurd (iff_false c.is_zero.ensures c.if-not-is_zero.true (λ q. ap (λ (v : List Bool). bit v q) (value ∙ h k c.loop-vector-test.true) ∙ bit-zeros (target.width c.args.t) q)),
    )

pub returns : goal.returns
returns g c =
    let m = c.args.map.now in
    let target = g.T.Target.graded m.target.now in
    let tt : to_z w32 (of_z w32 c.args.t) ≡ c.args.t = omega (arith, ints) in
    let all : (i : ℕ) → i < c.loop-vector.vector-index → mapped target m.source.now m.images.now c.args.t (row c.args.vectors.now i) ≡ zeros (target.width c.args.t) = simp tt at c.loop-vector.invariant in
    (λ t. λ i l. all i (omega (arith, l, c.loop-vector-test.false)), λ h. refl)
