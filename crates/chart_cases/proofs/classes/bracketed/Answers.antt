use Rattle.std.proofs.Common.{arith}
use Rattle.chart_cases.proofs.classes.bracketed.Goals as goal

pub bracket-requires-clause-sphere_table : goal.bracket-requires-clause-sphere_table
bracket-requires-clause-sphere_table c = λ s l. let long = c.in_ok-sphere.ensures.through s (omega arith) in omega arith
