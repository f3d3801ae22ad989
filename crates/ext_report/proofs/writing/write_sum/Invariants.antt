use Rattle.std.proofs.Common.{◌≤◌}
use Rattle.ext_chart.specs.Classes.{class_text}
use Rattle.ext_report.proofs.Sums.{HasTerms}
use Rattle.ext_report.proofs.writing.write_sum.Given as goal

abbrev pub invariant-loop-i : goal.invariant-loop-i
invariant-loop-i g l = record {
  terms : HasTerms (class_text l.s l.t) l.v l.some l.i (g.S.Sink.written l.initial.sink) (g.S.Sink.written l.sink);
  never_fall : g.S.Sink.faults l.initial.sink ≤ g.S.Sink.faults l.sink;
}
