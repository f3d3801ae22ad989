use Rattle.chart_rows.proofs.Parts.{no_chart}
use Rattle.chart_rows.proofs.laws.refused_parts_are_no_chart.Goals as goal

pub returns : goal.returns
returns c = λ m parts n fault refused all. no_chart m parts n fault refused all
