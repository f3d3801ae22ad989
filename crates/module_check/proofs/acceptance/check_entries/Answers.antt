use Rattle.std.proofs.Common.{sym, ◌∙◌}
use Rattle.module_check.proofs.Entries.{listed_more, listed_found}
use Rattle.module_check.proofs.acceptance.check_entries.Goals as goal

pub returns-then-not-same-clause-fails : goal.returns-then-not-same-clause-fails
returns-then-not-same-clause-fails c _ =
    sym c.loop-index.invariant
    ∙ listed_found c.args.operators.now c.args.spec.now.entries c.loop-index.index (record { n = c.entry-n.result.0; generator = c.entry-n.result.1; sum = c.entry-n.result.2.now }) c.entry-n.ensures (sym c.in_ok-same.ensures ∙ c.if-not-same.true)

pub loop-index-preserved : goal.loop-index-preserved
loop-index-preserved c =
    sym (listed_more c.args.operators.now c.args.spec.now.entries c.loop-index.index (record { n = c.entry-n.result.0; generator = c.entry-n.result.1; sum = c.entry-n.result.2.now }) c.entry-n.ensures (sym c.in_ok-same.ensures ∙ c.if-not-same.false))
    ∙ c.loop-index.invariant
