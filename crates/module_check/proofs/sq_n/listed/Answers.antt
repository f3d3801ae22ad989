use Rattle.std.proofs.Common.{◌≡◌, ◌&&◌, ◌==◌, false, sym, ◌∙◌}
use Rattle.module_spec.specs.Spec.{Entry}
use Rattle.module_check.proofs.Adem.{listed_here, not_listed_here, first_differs, second_differs}
use Rattle.module_check.proofs.sq_n.listed.Goals as goal
use Rattle.module_check.proofs.sq_n.listed.Goals.{else-number-from-via-then-number-from+else-generator-i, else-number-from-via-else-number-from}

pub returns-then-generator-i : goal.returns-then-generator-i
returns-then-generator-i c =
    let e : Entry = record { n = c.entry-number.result.0; generator = c.entry-number.result.1; sum = c.entry-number.result.2.now } in
    sym (listed_here c.args.spec.now.entries c.loop-k.k c.args.n c.args.i e c.entry-number.ensures (c.if-number-from.true ∙ c.from.ensures) c.if-generator-i.true) ∙ c.loop-k.invariant

pub loop-k-preserved : goal.loop-k-preserved
loop-k-preserved c =
    let e : Entry = record { n = c.entry-number.result.0; generator = c.entry-number.result.1; sum = c.entry-number.result.2.now } in
    let other : (e.n == c.args.n && e.generator == c.args.i) ≡ false = elim c.else-number-from.branch [
      | else-number-from-via-then-number-from+else-generator-i w ↦ second_differs _ _ _ _ w.if-generator-i.false
      | else-number-from-via-else-number-from w ↦ first_differs _ _ _ _ (λ h. w.if-number-from.false (h ∙ sym c.from.ensures))
    ] in
    sym (not_listed_here c.args.spec.now.entries c.loop-k.k c.args.n c.args.i e c.entry-number.ensures other) ∙ c.loop-k.invariant
