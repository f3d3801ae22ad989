use Rattle.std.proofs.Common.{◌∙◌}
use Rattle.edge.proofs.Written.{with_more-next, within-next}
use Rattle.edge.proofs.sink.write_all.Goals as goal

pub loop-done-preserved : goal.loop-done-preserved
loop-done-preserved g c = record {
  written = with_more-next _ _ _ c.args.bytes.now c.loop-done.done c.in_ok-count.count c.loop-done.invariant.written c.in_ok-count.ensures.taken;
  no_fault = c.in_ok-count.ensures.no_fault ∙ c.loop-done.invariant.no_fault;
  within = within-next c.args.bytes.now c.loop-done.done c.in_ok-count.count c.loop-done.invariant.within c.in_ok-count.ensures.count.1;
}
