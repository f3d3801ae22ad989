use Rattle.ext_table.proofs.Layouts.{layout-exists}
use Rattle.ext_table.proofs.laws.each_layout_has_answer.Goals as goal

pub returns : goal.returns
returns c = layout-exists c.each_class_lifts.ensures c.lifts_give_one_product.ensures
