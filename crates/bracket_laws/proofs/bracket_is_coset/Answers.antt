use Rattle.bracket_laws.proofs.Coset.{bracket_is_coset}
use Rattle.bracket_laws.proofs.bracket_is_coset.Goals as goal

pub returns : goal.returns
returns c = bracket_is_coset c.canonical_table_is_minimal_resolution.ensures
