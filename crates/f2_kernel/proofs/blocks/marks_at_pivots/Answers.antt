use Rattle.std.proofs.Common.{◌≡◌, ℕ, ◌+◌, ◌-◌, ◌/◌, ◌<◌, List, [], length, ap, sym, subst, ◌∙◌, arith}
use Rattle.std.proofs.lemmas.List.{get_or_read}
use Rattle.f2_vec.specs.Spans.{row}
use Rattle.f2_matrix.specs.Preimages.{pivot_of}
use Rattle.f2_matrix.proofs.Pivots.{is_pivot}
use Rattle.f2_kernel.proofs.AtMarks.{AreListed, one_listed, none_listed}
use Rattle.f2_kernel.proofs.blocks.marks_at_pivots.Goals as goal
use Rattle.f2_kernel.proofs.blocks.marks_at_pivots.Goals.{then-i-eq0+in_ok-push, else-i-eq0+else-pivot-word}

pub loop-i-init : goal.loop-i-init
loop-i-init c = λ j l. absurd (omega arith)

pub loop-i-preserved : goal.loop-i-preserved
loop-i-preserved c =
    let rows = c.args.rows.now in
    let i = c.loop-i.i in
    let here : c.pivot-word.result ≡ pivot_of (row rows i) = c.pivot-word.ensures ∙ ap pivot_of (get_or_read rows i c.index-rows-i.result c.loop-i-test.true c.index-rows-i.is []) in
    elim c.if-i-eq0.branch [
      | then-i-eq0+in_ok-push w ↦
          subst (λ (z : List ℕ). AreListed (i + 1) rows z) (sym (ap (λ v. v.items) w.words-is ∙ w.in_ok-push.ensures.items))
          (one_listed i (c.pivot-word.result / 64) rows c.loop-i.words.items c.loop-i.invariant (ap (λ z. z / 64) here))
      | else-i-eq0+else-pivot-word w ↦
          let some : 0 < i = omega (arith, w.if-i-eq0.false) in
          let within : i - 1 < length rows = omega (arith, c.loop-i-test.true) in
          let before : w.pivot.result ≡ pivot_of (row rows (i - 1)) = w.pivot.ensures ∙ ap pivot_of (get_or_read rows (i - 1) w.index-rows-i-else-i-eq0.result within w.index-rows-i-else-i-eq0.is []) in
          subst (λ (z : List ℕ). AreListed (i + 1) rows z) (sym (ap (λ v. v.items) w.words-is))
          (none_listed i rows c.loop-i.words.items c.loop-i.invariant some (ap (λ z. z / 64) (sym before) ∙ w.if-pivot-word.false ∙ ap (λ z. z / 64) here))
    ]

pub returns : goal.returns
returns c = record {
  marked = λ j l. c.in_ok-vector.ensures.marks_all j (pivot_of (row c.args.rows.now j)) (is_pivot (row c.args.rows.now j) (c.requires.nonzero j l));
  listed = λ j l. c.loop-i.invariant j (omega (arith, l, c.loop-i-test.false));
}
