use Rattle.std.proofs.Common.{◌≡◌, [], ◌∷◌, ◌++◌, true, false, sym, ◌∙◌}
use Rattle.std.proofs.lemmas.List.{append-nil}
use Rattle.module_check.proofs.Sides.{reaching_more}
use Rattle.module_check.proofs.relations.reaching.Goals.{then-reaches+in_ok-push, else-reaches}
use Rattle.module_check.proofs.relations.reaching.Goals as goal

pub loop-i-preserved : goal.loop-i-preserved
loop-i-preserved c =
    elim c.if-reaches.branch [
      | then-reaches+in_ok-push w ↦
          let now : c.if-reaches.numbers.items ≡ c.loop-i.numbers.items ++ c.loop-i.i ∷ [] = cc (w.in_ok-push.ensures.items) in
          reaching_more c.args.generators.now c.args.n c.loop-i.i true (sym w.if-reaches.true ∙ c.reaches.ensures) c.loop-i.numbers.items c.if-reaches.numbers.items c.loop-i.invariant now
      | else-reaches w ↦
          let now : c.if-reaches.numbers.items ≡ c.loop-i.numbers.items ++ [] = cc (append-nil c.loop-i.numbers.items) in
          reaching_more c.args.generators.now c.args.n c.loop-i.i false (sym w.if-reaches.false ∙ c.reaches.ensures) c.loop-i.numbers.items c.if-reaches.numbers.items c.loop-i.invariant now
    ]
