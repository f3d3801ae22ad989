use Rattle.std.proofs.Common.{◌≡◌}
use Rattle.ext_chart.specs.Inside.Targets.{text_over}
use Rattle.ext_chart.proofs.DumpSteps.{lines_through}
use Rattle.ext_chart.proofs.lines.square_lines.Given as goal

abbrev pub invariant-loop-i : goal.invariant-loop-i
invariant-loop-i l = l.text.items ≡ lines_through (text_over l.target l.t) l.s l.t l.images l.i
