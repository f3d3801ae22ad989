use Rattle.std.proofs.Common.{ap, ◌∙◌}
use Rattle.edge.specs.Sink.{with_more}
use Rattle.edge.proofs.Written.{HasPrefixMore-front, HasPrefixMore-behind, HasPrefixMore-of}
use Rattle.ext_report.specs.Lines.{refusal_line, place_line}
use Rattle.ext_report.proofs.lines.write_refusal.Goals as goal

pub returns-in_err-write_parts-clause-prefix : goal.returns-in_err-write_parts-clause-prefix
returns-in_err-write_parts-clause-prefix g c =
    HasPrefixMore-front (refusal_line c.args.fault.now) (place_line c.args.fault.now) _ _ (HasPrefixMore-of _ _ _ _ c.refusal_line.ensures c.write_parts.ensures.prefix)

pub returns-clause-prefix : goal.returns-clause-prefix
returns-clause-prefix g c =
    HasPrefixMore-behind (refusal_line c.args.fault.now) (place_line c.args.fault.now) _ _ _ (c.in_ok-write_parts.ensures.whole ∙ ap (with_more (g.E.Sink.written c.args.err.now)) c.refusal_line.ensures)
    (HasPrefixMore-of _ _ _ _ c.place_line.ensures c.write_parts-2.ensures.prefix)
