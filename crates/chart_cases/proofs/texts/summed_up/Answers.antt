use Rattle.bidegree.specs.declared.shape.Shape.TheVariants.{Rectangle}
use Rattle.ext_chart.proofs.Seen.{through_seen}
use Rattle.chart_cases.proofs.texts.summed_up.Goals as goal

pub summary-requires : goal.summary-requires
summary-requires c = through_seen _ Rectangle _ c.in_ok-table.ensures.through
