use Rattle.std.proofs.Common.{◌≡◌, Bool, true, List, [], take, subst, arith, refl, inl, inr}
use Rattle.std.proofs.lemmas.Bool.{cases_lt, both_ways}
use Rattle.std.proofs.lemmas.List.{get_or_read}
use Rattle.f2_vec.specs.Vectors.{bit, IsZero, IsFirstOne}
use Rattle.f2_vec.specs.Spans.{row}
use Rattle.f2_matrix.specs.Reduction.{has_one}
use Rattle.f2_matrix.proofs.Elimination.{IsFirstOne-unique}
use Rattle.f2_matrix.proofs.Parts.{has_left}
use Rattle.f2_choice.proofs.Form.{none_behind}
use Rattle.f2_choice.proofs.parts.rows_before.Goals as goal

pub returns-in_default-2-clause-others : goal.returns-in_default-2-clause-others
returns-in_default-2-clause-others c = λ j l.
    let i = c.loop-i.i in
    let rows = c.args.rows.now in
    let v : c.index-rows-i.result ≡ row rows i = get_or_read rows i c.index-rows-i.result c.loop-i-test.true c.index-rows-i.is [] in
    let zero : IsZero (row rows i) = subst IsZero v (c.in_default.ensures.none.0 refl) in
    none_behind rows i j c.args.end c.requires l (λ p f. absurd (both_ways (bit (row rows i) p) (zero p) f.one))

pub returns-in_default-clause-others : goal.returns-in_default-clause-others
returns-in_default-clause-others c = λ j l.
    let i = c.loop-i.i in
    let rows = c.args.rows.now in
    let v : c.index-rows-i.result ≡ row rows i = get_or_read rows i c.index-rows-i.result c.loop-i-test.true c.index-rows-i.is [] in
    let first : IsFirstOne (row rows i) c.in-Some.pivot = subst (λ (z : List Bool). IsFirstOne z c.in-Some.pivot) v c.in-Some.ensures.first in
    none_behind rows i j c.args.end c.requires l (λ p f. omega (arith, IsFirstOne-unique (row rows i) p c.in-Some.pivot f first, c.if-pivot-end.false))

pub loop-i-preserved : goal.loop-i-preserved
loop-i-preserved c = λ j l.
    let i = c.loop-i.i in
    let rows = c.args.rows.now in
    let v : c.index-rows-i.result ≡ row rows i = get_or_read rows i c.index-rows-i.result c.loop-i-test.true c.index-rows-i.is [] in
    let first : IsFirstOne (row rows i) c.in-Some.pivot = subst (λ (z : List Bool). IsFirstOne z c.in-Some.pivot) v c.in-Some.ensures.first in
    elim (cases_lt j i) [
      | inl m ↦ c.loop-i.invariant j m
      | inr m ↦ let e : i ≡ j = omega arith in subst (λ k. has_one (take c.args.end (row rows k)) ≡ true) e (has_left c.args.end (row rows i) c.in-Some.pivot first c.if-pivot-end.true)
    ]
