use Rattle.adem_laws.proofs.AdmissibleBasis.{admissibles_are_basis, values_lead}
use Rattle.adem_laws.proofs.Forms.{admissible_form_is_unique}
use Rattle.adem_laws.proofs.Monomials.{admissibles_are}
use Rattle.adem_laws.proofs.admissible_basis.Goals as goal

pub returns : goal.returns
returns c = record { members = admissibles_are; leading = values_lead; basis = admissibles_are_basis; form = admissible_form_is_unique }
