use Rattle.ext_products.proofs.Several.{answer-of-one}
use Rattle.ext_products.proofs.laws.products_answer_of_one.Goals as goal

pub returns : goal.returns
returns c = answer-of-one
