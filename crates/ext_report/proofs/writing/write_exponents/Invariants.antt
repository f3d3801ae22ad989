use Rattle.std.proofs.Common.{◌≡◌, ◌≤◌}
use Rattle.edge.specs.Sink.{with_more}
use Rattle.ext_report.proofs.Joined.{joined}
use Rattle.ext_report.proofs.writing.write_exponents.Given as goal

abbrev pub invariant-loop-i : goal.invariant-loop-i
invariant-loop-i g l = record {
  written : g.S.Sink.written l.sink ≡ with_more (g.S.Sink.written l.initial.sink) (joined l.r l.i);
  never_fall : g.S.Sink.faults l.initial.sink ≤ g.S.Sink.faults l.sink;
}
