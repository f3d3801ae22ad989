use Rattle.ext_products.proofs.Several.{answer-of-each}
use Rattle.ext_products.proofs.laws.products_answer_of_each.Goals as goal

pub returns : goal.returns
returns c = answer-of-each
