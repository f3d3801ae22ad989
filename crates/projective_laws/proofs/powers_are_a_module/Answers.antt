use Rattle.projective_laws.proofs.Multinomials.{powers_act}
use Rattle.projective_laws.proofs.Periods.{binomials_have_period, binomials_of_negatives}
use Rattle.projective_laws.proofs.powers_are_a_module.Goals as goal

pub returns : goal.returns
returns c = record { products = powers_act; period = binomials_have_period; negatives = binomials_of_negatives }
