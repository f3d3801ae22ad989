use Rattle.std.proofs.Common.{◌≡◌, ◌++◌, length, ap, ◌∙◌, arith}
use Rattle.std.specs.List.{flat_map, range_with_len}
use Rattle.module_spec.specs.Spec.{powers}
use Rattle.finite_module.specs.Text.{square_line}
use Rattle.finite_module.proofs.TextSteps.{flat_map_range}
use Rattle.finite_module.proofs.text.action_lines.Goals as goal

pub loop-i-preserved : goal.loop-i-preserved
loop-i-preserved c =
    c.in_ok-extend_from_slice.ensures.items ∙ ap (λ lines. c.loop-i.text.items ++ lines) c.as_slice.ensures.value
    ∙ flat_map_range (λ i. flat_map (square_line c.args.operators.now i) powers) c.loop-i.i c.loop-i.text.items c.in_ok-lines.lines.items c.loop-i.invariant c.in_ok-lines.ensures

pub returns : goal.returns
returns c =
    let gs : length c.generators.result.now ≡ length c.args.operators.now.generators = ap length c.generators.ensures.generators in
    let all : c.loop-i.i ≡ length c.args.operators.now.generators = omega arith in
    c.loop-i.invariant ∙ ap (λ n. flat_map (λ i. flat_map (square_line c.args.operators.now i) powers) (range_with_len 0 n)) all
