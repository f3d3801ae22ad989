use Rattle.std.proofs.Common.{◌≡◌, Bool, false, List, [], refl, ap, sym, ◌∙◌, subst, arith, inl, inr}
use Rattle.std.proofs.lemmas.Bool.{cases_eq, false≢true, both_ways, iff_false}
use Rattle.std.proofs.lemmas.List.{get_or_read}
use Rattle.f2_vec.specs.Vectors.{bit, IsFirstOne}
use Rattle.f2_vec.specs.Spans.{row}
use Rattle.f2_matrix.proofs.Elimination.{IsFirstOne-unique}
use Rattle.f2_matrix.proofs.Pivots.{first_within}
use Rattle.hom_parts.proofs.parts.are_clear.Goals as goal
use Rattle.hom_parts.proofs.parts.are_clear.Goals.{in-Some+else-not-are_zero_at, in_default}

pub are_zero_at-requires : goal.are_zero_at-requires
are_zero_at-requires c = λ i l.
    let rows = c.args.rows.now in
    let k = c.loop-line.line-index in
    let here : c.line-item.result ≡ row rows k = get_or_read rows k c.line-item.result c.loop-line-test.true c.line-item.is [] in
    c.requires i k c.in-Some.pivot l (subst (λ (v : List Bool). IsFirstOne v c.in-Some.pivot) here c.in-Some.ensures.first)

pub loop-line-preserved : goal.loop-line-preserved
loop-line-preserved c = λ i j p b l first.
    let rows = c.args.rows.now in
    let vectors = c.args.vectors.now in
    let k = c.loop-line.line-index in
    let here : c.line-item.result ≡ row rows k = get_or_read rows k c.line-item.result c.loop-line-test.true c.line-item.is [] in
    elim (cases_eq j k) [
      | inl e ↦
          let first_here : IsFirstOne c.line-item.result p = subst (λ (v : List Bool). IsFirstOne v p) (ap (row rows) e ∙ sym here) first in
          elim c.match-first_one.branch [
            | in-Some+else-not-are_zero_at w ↦
                let same = IsFirstOne-unique c.line-item.result p w.in-Some.pivot first_here w.in-Some.ensures.first in
                subst (λ q. bit (row vectors i) q ≡ false) (sym same) (w.are_zero_at.ensures.0 w.if-not-are_zero_at.false i l)
            | in_default w ↦ absurd (both_ways (bit c.line-item.result p) (w.in_default.ensures.none.0 refl p) first_here.one)
          ]
      | inr d ↦ c.loop-line.invariant i j p (omega (arith, b, d)) l first
    ]

pub returns-then-not-are_zero_at : goal.returns-then-not-are_zero_at
returns-then-not-are_zero_at c =
    let rows = c.args.rows.now in
    let k = c.loop-line.line-index in
    let here : c.line-item.result ≡ row rows k = get_or_read rows k c.line-item.result c.loop-line-test.true c.line-item.is [] in
    let first = subst (λ (v : List Bool). IsFirstOne v c.in-Some.pivot) here c.in-Some.ensures.first in (
      λ t. absurd (false≢true t),
      λ h. absurd (iff_false c.are_zero_at.ensures c.if-not-are_zero_at.true (λ i l. h i k c.in-Some.pivot l first)),
    )

pub returns : goal.returns
returns c = (
  λ t. λ i j p l first. c.loop-line.invariant i j p (omega (arith, first_within c.args.rows.now j p first, c.loop-line-test.false)) l first,
  λ h. refl,
)
