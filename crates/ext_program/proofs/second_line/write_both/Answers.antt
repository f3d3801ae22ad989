use Rattle.edge.proofs.Written.{HasPrefixMore-front, HasPrefixMore-behind}
use Rattle.ext_program.proofs.second_line.write_both.Goals as goal

pub returns-in_err-write_all-clause-prefix : goal.returns-in_err-write_all-clause-prefix
returns-in_err-write_all-clause-prefix g c = HasPrefixMore-front _ _ _ _ c.write_all.ensures.prefix

pub returns-clause-prefix : goal.returns-clause-prefix
returns-clause-prefix g c = HasPrefixMore-behind _ _ _ _ _ c.in_ok-write_all.ensures.whole c.write_all-2.ensures.prefix
