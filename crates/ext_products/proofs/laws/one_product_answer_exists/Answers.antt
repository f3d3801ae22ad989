use Rattle.ext_products.proofs.OneProduct.{one_answers-exist}
use Rattle.ext_products.proofs.laws.one_product_answer_exists.Goals as goal

pub returns : goal.returns
returns c = one_answers-exist c.each_class_lifts.ensures c.lifts_give_one_product.ensures
