use Rattle.std.proofs.Common.{◌≡◌, ◌+◌, ◌-◌, map, ap, ◌∙◌, arith}
use Rattle.std.specs.List.{range_with_len}
use Rattle.live_view.specs.Chart.{mark_of, marks_of}
use Rattle.finite_module.proofs.Values.{map_more}
use Rattle.live_view.proofs.chart.marks.Goals as goal
use Rattle.live_view.proofs.chart.marks.Goals.{else-loop-k-test, then-loop-k-test+in_ok-push+else-k-t}

pub loop-k-preserved : goal.loop-k-preserved
loop-k-preserved c = record {
  marks = map_more (marks_of c.args.view.now c.args.s) c.args.s c.loop-k.k c.loop-k.marks.items _ c.mark_or_space.result c.loop-k.auto.k c.loop-k.invariant.marks (c.mark_or_space.ensures ∙ ap mark_of c.count.ensures) c.in_ok-push.ensures.items;
  below = omega arith;
}

pub returns : goal.returns
returns c =
    let f = marks_of c.args.view.now c.args.s in
    let below = c.loop-k.invariant.below in
    elim c.loop-k-test.branch [
      | else-loop-k-test w ↦
          let none : c.loop-k.k - c.args.s ≡ c.args.t + 1 - c.args.s = omega arith in
          ap (λ v. v.items) w.marks-is ∙ (c.loop-k.invariant.marks ∙ ap (λ n. map f (range_with_len c.args.s n)) none)
      | then-loop-k-test+in_ok-push+else-k-t w ↦
          let last : c.loop-k.k ≡ c.args.t = omega arith in
          let all = map_more f c.args.s c.loop-k.k c.loop-k.marks.items _ w.mark_or_space.result c.loop-k.auto.k c.loop-k.invariant.marks (w.mark_or_space.ensures ∙ ap mark_of w.count.ensures) w.in_ok-push.ensures.items in
          ap (λ v. v.items) w.marks-is ∙ (all ∙ ap (λ n. map f (range_with_len c.args.s (n + 1 - c.args.s))) last)
    ]
