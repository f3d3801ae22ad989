use Rattle.std.proofs.Common.{ap, ◌∙◌}
use Rattle.std.specs.List.{flat_map}
use Rattle.std.proofs.lemmas.List.{take_all}
use Rattle.finite_module.proofs.TextSteps.{flat_map_take}
use Rattle.ext_chart.specs.Classes.{product_line}
use Rattle.ext_chart.proofs.class_products.product_lines.Goals as goal

pub loop-line-preserved : goal.loop-line-preserved
loop-line-preserved c =
    c.in_ok-extend_from_slice.ensures.items
    ∙ flat_map_take product_line c.args.lines.now c.loop-line.line-index c.line-item.result c.loop-line.text.items _ c.loop-line-test.true c.loop-line.invariant
    (c.as_slice.ensures.value ∙ (c.in_ok-shown.ensures ∙ ap product_line c.line-item.is))

pub returns : goal.returns
returns c = c.loop-line.invariant ∙ ap (flat_map product_line) (take_all c.loop-line.line-index c.args.lines.now c.loop-line-test.false)
