-- With the lines of the rows that are left the text is whole.
use Rattle.std.proofs.Common.{◌≡◌, ◌++◌, drop}
use Rattle.ext_chart.specs.Summary.{total_lines}
use Rattle.ext_chart.proofs.summary_text.total_lines.Given as goal

abbrev pub invariant-loop-s : goal.invariant-loop-s
invariant-loop-s l = l.text.items ++ total_lines l.s (drop l.s l.totals) ≡ total_lines 0 l.totals
