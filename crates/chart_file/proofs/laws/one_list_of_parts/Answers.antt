use Rattle.chart_file.proofs.Files.{parts_once}
use Rattle.chart_file.proofs.laws.one_list_of_parts.Goals as goal

pub returns : goal.returns
returns c = parts_once
