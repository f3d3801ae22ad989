use Rattle.chart_file.proofs.Files.{parts_still, one_part_more}
use Rattle.chart_file.proofs.laws.parts_go_on.Goals as goal

pub returns : goal.returns
returns c = λ digest before file parts h. (parts_still digest before file parts h, one_part_more digest before file parts h)
