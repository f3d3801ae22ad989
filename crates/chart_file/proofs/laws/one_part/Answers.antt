use Rattle.chart_file.proofs.Heads.{part_once}
use Rattle.chart_file.proofs.laws.one_part.Goals as goal

pub returns : goal.returns
returns c = part_once
