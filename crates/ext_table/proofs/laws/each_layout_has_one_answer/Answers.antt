use Rattle.ext_table.proofs.Layouts.{layout-unique}
use Rattle.ext_table.proofs.laws.each_layout_has_one_answer.Goals as goal

pub returns : goal.returns
returns c = layout-unique
