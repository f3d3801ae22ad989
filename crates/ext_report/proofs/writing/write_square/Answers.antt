use Rattle.edge.proofs.Written.{HasPrefixMore-front, HasPrefixMore-behind}
use Rattle.ext_report.proofs.writing.write_square.Goals as goal

pub returns-in_err-write_all-clause-prefix : goal.returns-in_err-write_all-clause-prefix
returns-in_err-write_all-clause-prefix g c = HasPrefixMore-front _ _ _ _ c.write_all.ensures.prefix

pub returns-in_err-write_exponents-clause-prefix : goal.returns-in_err-write_exponents-clause-prefix
returns-in_err-write_exponents-clause-prefix g c =
    HasPrefixMore-behind _ _ _ _ _ c.in_ok-write_all.ensures.whole (HasPrefixMore-front _ _ _ _ c.in_err-write_exponents.ensures.prefix)

pub returns-clause-prefix : goal.returns-clause-prefix
returns-clause-prefix g c =
    HasPrefixMore-behind _ _ _ _ _ c.in_ok-write_all.ensures.whole (HasPrefixMore-behind _ _ _ _ _ c.in_ok-write_exponents.ensures.whole c.write_all-2.ensures.prefix)
