use Rattle.ext_run.proofs.Accepted.{accepts_what_is_made}
use Rattle.ext_run.proofs.laws.verify_accepts_what_is_made.Goals as goal

pub returns : goal.returns
returns g c = accepts_what_is_made c.canonical_table_lacks_quasis_alone.ensures _ _ _ _
