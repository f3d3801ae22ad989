use Rattle.std.proofs.Common.{ap, ◌∙◌}
use Rattle.std.specs.List.{flat_map}
use Rattle.std.proofs.lemmas.List.{take_all}
use Rattle.module_spec.specs.Spec.{powers}
use Rattle.module_build.specs.FileText.{action_of_square}
use Rattle.module_build.specs.Inside.Written.{written_after}
use Rattle.module_build.proofs.FileSteps.{power_small, written_take}
use Rattle.module_build.proofs.file.add_actions.Goals as goal

pub add_action-requires-clause-square : goal.add_action-requires-clause-square
add_action-requires-clause-square c = (power_small c.loop-n.n-index c.loop-n-test.true).0

pub add_action-requires-clause-small : goal.add_action-requires-clause-small
add_action-requires-clause-small c = (power_small c.loop-n.n-index c.loop-n-test.true).1

pub loop-n-preserved : goal.loop-n-preserved
loop-n-preserved c =
    written_take (action_of_square c.args.given.now.plain c.args.i) powers c.loop-n.n-index 0 c.args.text.now.items c.loop-n.text.items c.add_action.new.text.items c.loop-n-test.true c.loop-n.invariant c.in_ok-add_action.ensures

pub returns : goal.returns
returns c = c.loop-n.invariant ∙ ap (λ ns. written_after c.args.text.now.items (flat_map (action_of_square c.args.given.now.plain c.args.i) ns)) (take_all c.loop-n.n-index powers c.loop-n-test.false)
