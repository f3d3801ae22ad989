use Rattle.std.proofs.Common.{◌∙◌, sym, rules}
use Rattle.module_json.proofs.Numbering.{numbers_turn, numbers_end}
use Rattle.module_json.proofs.entry.numbers.Goals as goal

pub returns-in_default-clause-numbers : goal.returns-in_default-clause-numbers
returns-in_default-clause-numbers c =
    sym (c.loop-name.invariant.left ∙ numbers_end c.args.gens.now c.loop-name.numbers.items c.args.names.now c.loop-name.name-index _ c.loop-name-test.true c.in_default.ensures.number)

pub loop-name-preserved : goal.loop-name-preserved
loop-name-preserved c = record {
  left = rw c.in_ok-push.ensures.items (c.loop-name.invariant.left ∙ numbers_turn c.args.gens.now c.loop-name.numbers.items c.args.names.now c.loop-name.name-index _ c.in-Some.number c.loop-name-test.true c.in-Some.ensures.number);
  below = search rules;
}
