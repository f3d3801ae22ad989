use Rattle.std.proofs.Common.{◌≡◌, ◌+◌, ℕ, map, refl, ap, ◌∙◌, arith}
use Rattle.std.specs.List.{sum, range_with_len}
use Rattle.bidegree.specs.LastDegrees.{last_degree}
use Rattle.ext_chart.proofs.SummarySteps.{total-more}
use Rattle.ext_chart.proofs.summary_text.square_count.Goals as goal

pub loop-s-preserved : goal.loop-s-preserved
loop-s-preserved c =
    let f : ℕ → ℕ = λ i. last_degree c.args.shape c.args.range i + 1 in
    let one : c.from.result + 1 ≡ f c.loop-s.s = ap (λ n. n + 1) (c.from.ensures ∙ c.last_degree.ensures) in
    record {
      count = total-more f c.loop-s.s c.loop-s.count (c.from.result + 1) _ c.loop-s.invariant.count one refl;
      below = omega (arith, c.loop-s.invariant.below, c.last_degree.type_inv, c.from.ensures);
    }

pub returns-2 : goal.returns-2
returns-2 c =
    let f : ℕ → ℕ = λ i. last_degree c.args.shape c.args.range i + 1 in
    let one : c.from.result + 1 ≡ f c.loop-s.s = ap (λ n. n + 1) (c.from.ensures ∙ c.last_degree.ensures) in
    let end : c.loop-s.s ≡ c.args.range.s = omega arith in
    total-more f c.loop-s.s c.loop-s.count (c.from.result + 1) _ c.loop-s.invariant.count one refl
    ∙ ap (λ n. sum (map f (range_with_len 0 (n + 1)))) end
