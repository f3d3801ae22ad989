use Rattle.f2_matrix.proofs.Eliminate.{has_reduction}
use Rattle.f2_matrix.proofs.existence.reduction_exists.Goals as goal

pub returns : goal.returns
returns c = has_reduction
