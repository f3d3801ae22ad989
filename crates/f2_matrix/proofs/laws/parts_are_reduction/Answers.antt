use Rattle.f2_matrix.proofs.Determined.{parts_are_reduction}
use Rattle.f2_matrix.proofs.laws.parts_are_reduction.Goals as goal

pub returns : goal.returns
returns c = parts_are_reduction
