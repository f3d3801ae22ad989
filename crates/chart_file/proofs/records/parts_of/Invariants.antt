use Rattle.chart_file.proofs.Files.{AreRead}
use Rattle.chart_file.proofs.records.parts_of.Given as goal

abbrev pub invariant-loop-i : goal.invariant-loop-i
invariant-loop-i l = AreRead l.bodies l.i l.parts.items
