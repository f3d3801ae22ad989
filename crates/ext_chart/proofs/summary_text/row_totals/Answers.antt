use Rattle.std.proofs.Common.{◌≡◌, ℕ, ◌+◌, map, ap, ◌∙◌, arith}
use Rattle.std.specs.List.{range_with_len}
use Rattle.bidegree.specs.LastDegrees.{last_degree}
use Rattle.resolution_laws.specs.Resolution.{generator_count}
use Rattle.ext_chart.specs.Summary.{row_total}
use Rattle.finite_module.proofs.Values.{one_value_more}
use Rattle.ext_chart.proofs.summary_text.row_totals.Goals as goal
use Rattle.ext_chart.proofs.summary_text.row_totals.Goals.{else-loop-s-test, then-loop-s-test+in_ok-row_total+in_ok-push+else-s-s-end}

pub loop-s-preserved : goal.loop-s-preserved
loop-s-preserved g c =
    let row : ℕ → ℕ → ℕ = row_total (generator_count (g.R.Shown.seen c.args.table.now).rows) in
    let last = last_degree c.args.shape c.args.range in
    let s = c.loop-s.s in
    one_value_more (λ i. row (last i) i) c.loop-s.totals.items _ c.in_ok-row_total.field-0 s c.loop-s.invariant (c.in_ok-row_total.ensures ∙ ap (λ n. row n s) c.last_degree.ensures) c.in_ok-push.ensures.items

pub returns : goal.returns
returns g c =
    let row : ℕ → ℕ → ℕ = row_total (generator_count (g.R.Shown.seen c.args.table.now).rows) in
    let last = last_degree c.args.shape c.args.range in
    let s = c.loop-s.s in
    elim c.loop-s-test.branch [
      | else-loop-s-test w ↦ absurd (omega arith)
      | then-loop-s-test+in_ok-row_total+in_ok-push+else-s-s-end w ↦
          let end : s ≡ c.args.range.s = omega arith in
          let all = one_value_more (λ i. row (last i) i) c.loop-s.totals.items _ w.in_ok-row_total.field-0 s c.loop-s.invariant (w.in_ok-row_total.ensures ∙ ap (λ n. row n s) w.last_degree.ensures) w.in_ok-push.ensures.items in
          ap (λ v. v.items) w.totals-is ∙ (all ∙ ap (λ n. map (λ i. row (last i) i) (range_with_len 0 (n + 1))) end)
    ]
