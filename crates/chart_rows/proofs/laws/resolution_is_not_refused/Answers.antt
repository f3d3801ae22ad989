use Rattle.chart_rows.proofs.Parts.{only_order}
use Rattle.chart_rows.proofs.laws.resolution_is_not_refused.Goals as goal

pub returns : goal.returns
returns c = λ m parts n fault are of refused. only_order c.resolution_may_stand.ensures m parts n fault are of refused
