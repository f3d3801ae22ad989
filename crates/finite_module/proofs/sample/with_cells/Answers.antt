use Rattle.std.proofs.Common.{ap, ◌∙◌, arith}
use Rattle.finite_module.specs.Sample.{cell_of, by_text}
use Rattle.finite_module.proofs.SampleFile.{some_more, none_more}
use Rattle.finite_module.proofs.sample.with_cells.Goals as goal
use Rattle.finite_module.proofs.sample.with_cells.Goals.{in-Some+in_ok-push-in-Some, in-None}

pub loop-k-preserved : goal.loop-k-preserved
loop-k-preserved c = elim c.match-branch-2.branch [
  | in-Some+in_ok-push-in-Some w ↦ ap (λ v. v.items) w.generators-is
      ∙ some_more (cell_of c.args.n c.args.cell) by_text c.loop-k.k-index 0 (omega arith) c.args.generators.items c.loop-k.generators.items c.loop-k.invariant w.push.new.self.items c.in_ok-generator.field-0 w.in-Some.generator c.in_ok-generator.ensures w.in-Some.is w.in_ok-push-in-Some.ensures.items
  | in-None w ↦ ap (λ v. v.items) w.generators-is
      ∙ none_more (cell_of c.args.n c.args.cell) by_text c.loop-k.k-index 0 (omega arith) c.args.generators.items c.loop-k.generators.items c.loop-k.invariant c.in_ok-generator.field-0 c.in_ok-generator.ensures w.in-None.is
]
