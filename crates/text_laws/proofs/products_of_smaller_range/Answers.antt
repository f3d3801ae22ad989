use Rattle.text_laws.proofs.Products.{smaller_range}
use Rattle.text_laws.proofs.products_of_smaller_range.Goals as goal

pub returns : goal.returns
returns c = smaller_range c.squares_are_same_in_each_range.ensures c.products_are_same_in_each_range.ensures c.products_of_classes_are_of_elements.ensures
