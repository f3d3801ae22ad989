use Rattle.yoneda_laws.proofs.Linear.{of_classes}
use Rattle.yoneda_laws.proofs.products_of_classes_are_of_elements.Goals as goal

pub returns : goal.returns
returns c = of_classes c.canonical_table_is_minimal_resolution.ensures
