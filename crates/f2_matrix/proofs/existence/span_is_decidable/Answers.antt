use Rattle.f2_matrix.proofs.Eliminate.{in_span_or_not}
use Rattle.f2_matrix.proofs.existence.span_is_decidable.Goals as goal

pub returns : goal.returns
returns c = in_span_or_not
