use Rattle.ext_run.proofs.Continuing.{continued}
use Rattle.ext_run.proofs.texts.told_alone.Goals as goal

pub returns-in-Ok-clause-continued : goal.returns-in-Ok-clause-continued
returns-in-Ok-clause-continued g c = continued _ _ _ _ c.args.form _ _ _ _ c.resolve_alone-resolved.ensures.resolved c.canonical_table_is_minimal_resolution.ensures c.modules_are_graded_modules.ensures c.in-Ok.table c.told-text.result c.in-Ok.is c.told-text.ensures.told c.told-text.ensures.why
