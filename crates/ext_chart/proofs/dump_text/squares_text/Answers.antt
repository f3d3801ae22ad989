use Rattle.std.proofs.Common.{◌≡◌, ◌+◌, ◌∙◌, ap, arith}
use Rattle.std.specs.List.{flat_map, range_with_len}
use Rattle.ext_chart.specs.Dump.{square_text}
use Rattle.ext_chart.proofs.DumpSteps.{text-more}
use Rattle.ext_chart.proofs.dump_text.squares_text.Goals as goal
use Rattle.ext_chart.proofs.dump_text.squares_text.Goals.{else-loop-k-test, then-loop-k-test+in_ok-lines+in_ok-extend_from_slice+else-k-t}

pub loop-k-preserved : goal.loop-k-preserved
loop-k-preserved g c =
    text-more (square_text (g.R.Shown.seen c.args.table.now).resolved.plain.generators (g.R.Shown.seen c.args.table.now).rows c.args.s) c.loop-k.k c.loop-k.text.items c.in_ok-lines.lines.items c.as_slice.result.now _ c.loop-k.invariant c.in_ok-lines.ensures c.as_slice.ensures.value c.in_ok-extend_from_slice.ensures.items

pub returns : goal.returns
returns g c =
    let f = square_text (g.R.Shown.seen c.args.table.now).resolved.plain.generators (g.R.Shown.seen c.args.table.now).rows c.args.s in
    elim c.loop-k-test.branch [
      | else-loop-k-test w ↦ absurd (omega arith)
      | then-loop-k-test+in_ok-lines+in_ok-extend_from_slice+else-k-t w ↦
          let last : c.loop-k.k ≡ c.args.t = omega arith in
          let all = text-more f c.loop-k.k c.loop-k.text.items w.in_ok-lines.lines.items w.as_slice.result.now _ c.loop-k.invariant w.in_ok-lines.ensures w.as_slice.ensures.value w.in_ok-extend_from_slice.ensures.items in
          ap (λ v. v.items) w.text-is ∙ (all ∙ ap (λ n. flat_map f (range_with_len 0 (n + 1))) last)
    ]
