use Rattle.module_check.proofs.Powers.{powers_decide}
use Rattle.module_check.proofs.relations.check_relations.Goals as goal

pub returns-in-Ok-clause-holds : goal.returns-in-Ok-clause-holds
returns-in-Ok-clause-holds c =
    powers_decide c.args.operators.now c.requires.order c.requires.identity c.generators.ensures.widths c.in-Ok.ensures
