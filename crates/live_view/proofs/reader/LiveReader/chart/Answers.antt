use Rattle.std.proofs.Common.{◌≡◌, ap, ◌∙◌}
use Rattle.live_view.specs.Chart.{live_chart}
use Rattle.live_view.specs.Handles.{LiveState}
use Rattle.live_view.specs.Published.{last_view, IsPartOfCharts}
use Rattle.std.proofs.lemmas.Result.{IfOk-weaker}
use Rattle.live_view.proofs.Follows.{part_of_charts}
use Rattle.live_view.proofs.reader.LiveReader.chart.Goals as goal

pub returns-clause-part : goal.returns-clause-part
returns-clause-part c =
    let new = c.look.new.self in
    let old = c.args.self.now in
    let bottom : new.bottom ≡ old.bottom = ap (λ (w : LiveState). w.bottom) c.look.ensures.same in
    let range : new.range ≡ old.range = ap (λ (w : LiveState). w.range) c.look.ensures.same in
    IfOk-weaker c.kept_chart.result (λ text. text.items ≡ live_chart new.bottom new.range (last_view new.known.published)) (λ text. IsPartOfCharts old.bottom old.range new.known.published text.items)
    (λ text is. part_of_charts old.bottom old.range new.known.published text.items c.right_view_is_canonical.ensures c.right_chart_is_part.ensures c.look.ensures.published (is ∙ λ i. live_chart (bottom i) (range i) (last_view new.known.published)))
    c.kept_chart.ensures
