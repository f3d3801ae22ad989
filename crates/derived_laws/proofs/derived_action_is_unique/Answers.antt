use Rattle.derived_laws.proofs.UniqueDerived.{derived_is_unique}
use Rattle.derived_laws.proofs.Refused.{refused_has_no_module}
use Rattle.derived_laws.proofs.derived_action_is_unique.Goals as goal

pub returns : goal.returns
returns c = record { unique = derived_is_unique; refused = refused_has_no_module }
