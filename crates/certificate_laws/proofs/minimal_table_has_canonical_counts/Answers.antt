use Rattle.certificate_laws.proofs.Minimal.{canonical_counts}
use Rattle.certificate_laws.proofs.minimal_table_has_canonical_counts.Goals as goal

pub returns : goal.returns
returns c = canonical_counts c.canonical_table_is_minimal_resolution.ensures
