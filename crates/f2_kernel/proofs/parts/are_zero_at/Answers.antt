use Rattle.std.proofs.Common.{◌≡◌, Bool, List, [], refl, ap, sym, ◌∙◌, arith, inl, inr}
use Rattle.std.proofs.lemmas.Bool.{cases_eq, false≢true, both_ways, iff_false, false_from_ne_true}
use Rattle.std.proofs.lemmas.List.{get_or_read}
use Rattle.f2_vec.specs.Vectors.{bit}
use Rattle.f2_vec.specs.Spans.{row}
use Rattle.f2_kernel.proofs.parts.are_zero_at.Goals as goal

pub loop-vector-preserved : goal.loop-vector-preserved
loop-vector-preserved c = λ i p l mark.
    let vectors = c.args.vectors.now in
    let k = c.loop-vector.vector-index in
    let here : c.vector-item.result ≡ row vectors k = get_or_read vectors k c.vector-item.result c.loop-vector-test.true c.vector-item.is [] in
    elim (cases_eq i k) [
      | inl e ↦ false_from_ne_true (bit (row vectors i) p) (λ one. iff_false c.have_common_one.ensures c.if-have_common_one.false (p, ap (λ (v : List Bool). bit v p) here ∙ ap (λ j. bit (row vectors j) p) (sym e) ∙ one, mark))
      | inr d ↦ c.loop-vector.invariant i p (omega (arith, l, d)) mark
    ]

pub returns-then-have_common_one : goal.returns-then-have_common_one
returns-then-have_common_one c =
    let vectors = c.args.vectors.now in
    let k = c.loop-vector.vector-index in
    let here : c.vector-item.result ≡ row vectors k = get_or_read vectors k c.vector-item.result c.loop-vector-test.true c.vector-item.is [] in
    let found = c.have_common_one.ensures.0 c.if-have_common_one.true in (
      λ t. absurd (false≢true t),
      λ h. absurd (both_ways (bit (row vectors k) found.0) (h k found.0 c.loop-vector-test.true found.2) (ap (λ (v : List Bool). bit v found.0) (sym here) ∙ found.1)),
    )

pub returns : goal.returns
returns c = (λ t. λ i p l mark. c.loop-vector.invariant i p (omega (arith, l, c.loop-vector-test.false)) mark, λ h. refl)
