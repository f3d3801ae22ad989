use Rattle.module_json.proofs.Entries.{AreRead}
use Rattle.module_json.proofs.entry.entries.Given as goal

abbrev pub invariant-loop-value : goal.invariant-loop-value
invariant-loop-value l = AreRead l.gens l.actions l.value-index l.entries.items
