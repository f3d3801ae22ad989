use Rattle.bracket_laws.proofs.HasMember.{bracket_has_member}
use Rattle.bracket_laws.proofs.bracket_has_member.Goals as goal

pub returns : goal.returns
returns c = bracket_has_member c.canonical_table_is_minimal_resolution.ensures
