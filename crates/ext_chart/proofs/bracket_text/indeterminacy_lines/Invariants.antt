use Rattle.std.proofs.Common.{◌≡◌, take}
use Rattle.std.specs.List.{flat_map}
use Rattle.ext_chart.specs.Classes.{indeterminacy_line}
use Rattle.ext_chart.proofs.bracket_text.indeterminacy_lines.Given as goal

abbrev pub invariant-loop-row : goal.invariant-loop-row
invariant-loop-row l = l.text.items ≡ flat_map (indeterminacy_line l.s l.t) (take l.row-index l.rows)
