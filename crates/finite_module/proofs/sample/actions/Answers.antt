use Rattle.std.proofs.Common.{ap, ◌∙◌, arith}
use Rattle.finite_module.specs.Sample.{entry_of}
use Rattle.finite_module.proofs.SampleFile.{some_in_range, none_in_range, entries_made}
use Rattle.finite_module.proofs.sample.actions.Goals as goal
use Rattle.finite_module.proofs.sample.actions.Goals.{in-Some+in_ok-push-in-Some, in-None}

pub loop-k-preserved : goal.loop-k-preserved
loop-k-preserved c = elim c.match-branch-2.branch [
  | in-Some+in_ok-push-in-Some w ↦ ap (λ v. v.items) w.actions-is
      ∙ some_in_range (entry_of c.args.n) c.loop-k.k c.loop-k.actions.items c.loop-k.invariant w.push.new.self.items c.in_ok-action.field-0 w.in-Some.action c.in_ok-action.ensures w.in-Some.is w.in_ok-push-in-Some.ensures.items
  | in-None w ↦ ap (λ v. v.items) w.actions-is
      ∙ none_in_range (entry_of c.args.n) c.loop-k.k c.loop-k.actions.items c.loop-k.invariant c.in_ok-action.field-0 c.in_ok-action.ensures w.in-None.is
]

pub returns : goal.returns
returns c = entries_made c.args.n c.loop-k.k c.loop-k.actions.items c.loop-k.invariant (omega (arith, c.piece_count-k-end.ensures))
