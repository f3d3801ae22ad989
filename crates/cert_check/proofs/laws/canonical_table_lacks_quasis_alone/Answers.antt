use Rattle.cert_check.proofs.Verdict.{lacks_quasis_alone}
use Rattle.cert_check.proofs.laws.canonical_table_lacks_quasis_alone.Goals as goal

pub returns : goal.returns
returns c = lacks_quasis_alone c.modules_are_graded_modules.ensures c.canonical_table_is_minimal_resolution.ensures
