use Rattle.std.proofs.Common.{◌≡◌, ◌+◌, length, map, ap, ◌∙◌, arith}
use Rattle.std.specs.List.{sum, range_with_len}
use Rattle.resolution_laws.specs.Resolution.{generator_count}
use Rattle.ext_chart.proofs.SummarySteps.{total-more}
use Rattle.ext_chart.proofs.summary_text.row_total.Goals as goal

pub loop-k-preserved : goal.loop-k-preserved
loop-k-preserved g c =
    total-more (generator_count (g.R.Shown.seen c.args.table.now).rows c.args.s) c.loop-k.k c.loop-k.total (length c.images-count.result.now) c.in-Some.more c.loop-k.invariant (ap length c.images-count.ensures.images) c.in-Some.ensures.1

pub returns-in-Some : goal.returns-in-Some
returns-in-Some g c =
    let f = generator_count (g.R.Shown.seen c.args.table.now).rows c.args.s in
    let last : c.loop-k.k ≡ c.args.t = omega arith in
    total-more f c.loop-k.k c.loop-k.total (length c.images-count.result.now) c.in-Some.more c.loop-k.invariant (ap length c.images-count.ensures.images) c.in-Some.ensures.1
    ∙ ap (λ n. sum (map f (range_with_len 0 (n + 1)))) last
