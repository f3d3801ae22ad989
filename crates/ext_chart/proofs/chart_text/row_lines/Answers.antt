use Rattle.std.proofs.Common.{arith, ◌≡◌, ◌+◌, ◌-◌, ◌++◌, ap, ◌∙◌}
use Rattle.bidegree.specs.LastDegrees.{last_degree}
use Rattle.resolution_laws.specs.Resolution.{generator_count}
use Rattle.chart_lines.specs.Chart.{count_marks, row_line, row_lines}
use Rattle.chart_lines.proofs.Rows.{append-row_lines}
use Rattle.ext_chart.proofs.chart_text.row_lines.Goals as goal

pub loop-i-preserved : goal.loop-i-preserved
loop-i-preserved g c =
    let marks = count_marks (generator_count (g.R.Shown.seen c.args.table.now).rows) in
    let last = last_degree c.args.shape c.args.range in
    let s = c.args.range.s in
    let i = c.loop-i.i in
    let before = c.loop-i.text.items in
    let line = c.in_ok-line.line.items in
    let here : s - i ≡ s + 1 - i - 1 = omega arith in
    let rest : s + 1 - (i + 1) ≡ s + 1 - i - 1 = omega arith in
    let text : c.extend_from_slice.new.self.items ≡ before ++ line = c.in_ok-extend_from_slice.ensures.items ∙ ap (λ m. before ++ m) c.as_slice.ensures.value in
    let one : line ≡ row_line marks (last (s + 1 - i - 1)) (s + 1 - i - 1) =
    c.in_ok-line.ensures ∙ ap (λ n. row_line marks n (s - i)) c.last_degree.ensures ∙ ap (λ n. row_line marks (last n) n) here in
    ap (λ m. m ++ row_lines marks last (s + 1 - (i + 1))) text
    ∙ (ap (λ n. (before ++ line) ++ row_lines marks last n) rest
    ∙ append-row_lines marks last (s + 1 - i) before line _ (omega arith) one c.loop-i.invariant)
