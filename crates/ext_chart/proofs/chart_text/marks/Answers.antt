use Rattle.std.proofs.Common.{◌≡◌, ◌+◌, ◌-◌, Bool, List, length, map, ap, ◌∙◌, arith}
use Rattle.std.specs.List.{range_with_len}
use Rattle.resolution_laws.specs.Resolution.{generator_count}
use Rattle.chart_lines.specs.Chart.{mark, count_marks}
use Rattle.finite_module.proofs.Values.{map_more}
use Rattle.ext_chart.proofs.chart_text.marks.Goals as goal
use Rattle.ext_chart.proofs.chart_text.marks.Goals.{else-loop-k-test, then-loop-k-test+in_ok-push+else-k-t}

pub loop-k-preserved : goal.loop-k-preserved
loop-k-preserved g c = record {
  marks = map_more (count_marks (generator_count (g.R.Shown.seen c.args.table.now).rows) c.args.s) c.args.s c.loop-k.k c.loop-k.marks.items _ c.mark.result c.loop-k.auto.k c.loop-k.invariant.marks (c.mark.ensures ∙ ap (λ (l : List (List Bool)). mark (length l)) c.images.ensures.images) c.in_ok-push.ensures.items;
  below = omega arith;
}

pub returns : goal.returns
returns g c =
    let f = count_marks (generator_count (g.R.Shown.seen c.args.table.now).rows) c.args.s in
    let below = c.loop-k.invariant.below in
    elim c.loop-k-test.branch [
      | else-loop-k-test w ↦
          let none : c.loop-k.k - c.args.s ≡ c.args.t + 1 - c.args.s = omega arith in
          ap (λ v. v.items) w.marks-is ∙ (c.loop-k.invariant.marks ∙ ap (λ n. map f (range_with_len c.args.s n)) none)
      | then-loop-k-test+in_ok-push+else-k-t w ↦
          let last : c.loop-k.k ≡ c.args.t = omega arith in
          let all = map_more f c.args.s c.loop-k.k c.loop-k.marks.items _ w.mark.result c.loop-k.auto.k c.loop-k.invariant.marks (w.mark.ensures ∙ ap (λ (l : List (List Bool)). mark (length l)) w.images.ensures.images) w.in_ok-push.ensures.items in
          ap (λ v. v.items) w.marks-is ∙ (all ∙ ap (λ n. map f (range_with_len c.args.s (n + 1 - c.args.s))) last)
    ]
