use Rattle.text_laws.proofs.Shapes.{in_shape_of_range}
use Rattle.text_laws.proofs.products_in_shape_are_of_range.Goals as goal

pub returns : goal.returns
returns c = in_shape_of_range
