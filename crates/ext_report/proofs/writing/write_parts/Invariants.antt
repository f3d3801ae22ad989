use Rattle.std.proofs.Common.{◌≡◌, ◌≤◌, take}
use Rattle.edge.specs.Sink.{with_more}
use Rattle.ext_report.specs.Parts.{parts_text}
use Rattle.ext_report.proofs.writing.write_parts.Given as goal

abbrev pub invariant-loop-part : goal.invariant-loop-part
invariant-loop-part g l = record {
  written : g.S.Sink.written l.sink ≡ with_more (g.S.Sink.written l.initial.sink) (parts_text (take l.part-index l.parts));
  never_fall : g.S.Sink.faults l.initial.sink ≤ g.S.Sink.faults l.sink;
}
