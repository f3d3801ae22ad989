use Rattle.bracket_laws.proofs.UnitRow.{units_have_no_zero_products}
use Rattle.bracket_laws.proofs.units_have_no_zero_products.Goals as goal

pub returns : goal.returns
returns c = units_have_no_zero_products c.canonical_table_is_minimal_resolution.ensures
