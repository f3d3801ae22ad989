use Rattle.ext_products.proofs.Several.{answers-unique}
use Rattle.ext_products.proofs.laws.products_answer_is_unique.Goals as goal

pub returns : goal.returns
returns c = answers-unique
