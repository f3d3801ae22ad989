use Rattle.ext_products.proofs.Several.{answers-exist}
use Rattle.ext_products.proofs.laws.products_answer_exists.Goals as goal

pub returns : goal.returns
returns c = answers-exist c.each_class_lifts.ensures c.lifts_give_one_product.ensures
