use Rattle.std.proofs.Common.{◌≡◌, ℕ, List, ◌+◌, ◌∙◌, ap, arith}
use Rattle.std.specs.List.{flat_map, range_with_len}
use Rattle.bidegree.specs.LastDegrees.{last_degree}
use Rattle.ext_chart.specs.Dump.{row_text}
use Rattle.ext_chart.proofs.DumpSteps.{text-more}
use Rattle.ext_chart.proofs.dump_text.dump.Goals as goal
use Rattle.ext_chart.proofs.dump_text.dump.Goals.{else-loop-s-test, then-loop-s-test+in_ok-lines+in_ok-extend_from_slice+else-s-s-end}

pub loop-s-preserved : goal.loop-s-preserved
loop-s-preserved g c =
    let row : ℕ → ℕ → List ℕ = row_text (g.R.Shown.seen c.args.table.now).resolved.plain.generators (g.R.Shown.seen c.args.table.now).rows in
    let last = last_degree c.args.shape c.args.range in
    let s = c.loop-s.s in
    text-more (λ i. row (last i) i) s c.loop-s.text.items c.in_ok-lines.lines.items c.as_slice.result.now _ c.loop-s.invariant (c.in_ok-lines.ensures ∙ ap (λ n. row n s) c.last_degree.ensures) c.as_slice.ensures.value c.in_ok-extend_from_slice.ensures.items

pub returns : goal.returns
returns g c =
    let row : ℕ → ℕ → List ℕ = row_text (g.R.Shown.seen c.args.table.now).resolved.plain.generators (g.R.Shown.seen c.args.table.now).rows in
    let last = last_degree c.args.shape c.args.range in
    let s = c.loop-s.s in
    elim c.loop-s-test.branch [
      | else-loop-s-test w ↦ absurd (omega arith)
      | then-loop-s-test+in_ok-lines+in_ok-extend_from_slice+else-s-s-end w ↦
          let end : s ≡ c.args.range.s = omega arith in
          let all = text-more (λ i. row (last i) i) s c.loop-s.text.items w.in_ok-lines.lines.items w.as_slice.result.now _ c.loop-s.invariant (w.in_ok-lines.ensures ∙ ap (λ n. row n s) w.last_degree.ensures) w.as_slice.ensures.value w.in_ok-extend_from_slice.ensures.items in
          ap (λ v. v.items) w.text-is ∙ (all ∙ ap (λ n. flat_map (λ i. row (last i) i) (range_with_len 0 (n + 1))) end)
    ]
