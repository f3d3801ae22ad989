use Rattle.std.proofs.Common.{◌≡◌, [], length, ap, ◌∙◌, arith}
use Rattle.std.specs.List.{flat_map, range_with_len}
use Rattle.module_spec.specs.Spec.{powers}
use Rattle.module_build.specs.FileText.{action_of_square}
use Rattle.module_build.specs.Inside.Written.{written_after}
use Rattle.module_build.proofs.FileSteps.{written_range}
use Rattle.module_build.proofs.file.actions.Goals as goal

pub loop-i-preserved : goal.loop-i-preserved
loop-i-preserved c =
    written_range (λ i. flat_map (action_of_square c.args.given.now.plain i) powers) c.loop-i.i [] c.loop-i.text.items c.add_actions.new.text.items c.loop-i.invariant c.in_ok-add_actions.ensures

pub returns : goal.returns
returns c =
    let all : c.loop-i.i ≡ length c.args.given.now.plain.generators = omega (arith, c.count-i-end.ensures.count) in
    c.loop-i.invariant ∙ ap (λ n. written_after [] (flat_map (λ i. flat_map (action_of_square c.args.given.now.plain i) powers) (range_with_len 0 n))) all
