use Rattle.ext_chart.proofs.Stems.{stems_alike}
use Rattle.ext_chart.proofs.laws.stems_are_told_alike.Goals as goal

pub returns : goal.returns
returns c = stems_alike c.new_generators_are_not_met.ensures c.rows_in_stems_are_whole.ensures c.squares_in_stems_are_those_of_table.ensures
