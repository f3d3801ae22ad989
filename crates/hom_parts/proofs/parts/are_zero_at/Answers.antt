use Rattle.std.proofs.Common.{◌≡◌, ◌<◌, Bool, List, [], length, refl, ap, sym, ◌∙◌, subst, arith, inl, inr}
use Rattle.std.proofs.lemmas.Bool.{cases_eq, false≢true, both_ways}
use Rattle.std.proofs.lemmas.List.{get_or_read}
use Rattle.f2_vec.specs.Vectors.{bit}
use Rattle.f2_vec.specs.Spans.{row}
use Rattle.hom_parts.proofs.parts.are_zero_at.Goals as goal

pub get-requires : goal.get-requires
get-requires c =
    let vectors = c.args.vectors.now in
    let k = c.loop-vector.vector-index in
    let here : c.vector-item.result ≡ row vectors k = get_or_read vectors k c.vector-item.result c.loop-vector-test.true c.vector-item.is [] in
    subst (λ (v : List Bool). c.args.place < length v) (sym here) (c.requires k c.loop-vector-test.true)

pub loop-vector-preserved : goal.loop-vector-preserved
loop-vector-preserved c = λ i l.
    let vectors = c.args.vectors.now in
    let k = c.loop-vector.vector-index in
    let here : c.vector-item.result ≡ row vectors k = get_or_read vectors k c.vector-item.result c.loop-vector-test.true c.vector-item.is [] in
    elim (cases_eq i k) [
      | inl e ↦ ap (λ j. bit (row vectors j) c.args.place) e ∙ ap (λ (v : List Bool). bit v c.args.place) (sym here) ∙ sym c.get.ensures ∙ c.if-get.false
      | inr d ↦ c.loop-vector.invariant i (omega (arith, l, d))
    ]

pub returns-then-get : goal.returns-then-get
returns-then-get c =
    let vectors = c.args.vectors.now in
    let k = c.loop-vector.vector-index in
    let here : c.vector-item.result ≡ row vectors k = get_or_read vectors k c.vector-item.result c.loop-vector-test.true c.vector-item.is [] in (
      λ t. absurd (false≢true t),
      λ h. absurd (both_ways (bit (row vectors k) c.args.place) (h k c.loop-vector-test.true) (ap (λ (v : List Bool). bit v c.args.place) (sym here) ∙ sym c.get.ensures ∙ c.if-get.true)),
    )

pub returns : goal.returns
returns c = (λ t. λ i l. c.loop-vector.invariant i (omega (arith, l, c.loop-vector-test.false)), λ h. refl)
