use Rattle.ext_products.proofs.OneProduct.{one_answers-unique}
use Rattle.ext_products.proofs.laws.one_product_answer_is_unique.Goals as goal

pub returns : goal.returns
returns c = one_answers-unique
