use Rattle.std.proofs.Common.{ap, ◌∙◌, arith}
use Rattle.std.specs.List.{flat_map}
use Rattle.std.proofs.lemmas.List.{take_all}
use Rattle.module_spec.specs.Spec.{powers}
use Rattle.finite_module.specs.Text.{square_line}
use Rattle.finite_module.proofs.TextSteps.{flat_map_take}
use Rattle.finite_module.proofs.text.square_lines.Goals as goal

pub loop-n-preserved : goal.loop-n-preserved
loop-n-preserved c =
    let line = square_line c.args.operators.now c.args.i in
    let more = flat_map_take line powers c.loop-n.n-index 0 c.loop-n.text.items c.in_ok-line.line.items (omega arith) c.loop-n.invariant c.in_ok-line.ensures in
    cc (c.in_ok-extend_from_slice.ensures.items, c.as_slice.ensures.value)

pub returns : goal.returns
returns c = c.loop-n.invariant ∙ ap (flat_map (square_line c.args.operators.now c.args.i)) (take_all c.loop-n.n-index powers (omega arith))
