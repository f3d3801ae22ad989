use Rattle.std.proofs.Common.{◌≡◌, drop}
use Rattle.module_check.specs.Acceptance.{listed_from}
use Rattle.module_check.proofs.acceptance.check_entries.Given as goal

abbrev pub invariant-loop-index : goal.invariant-loop-index
invariant-loop-index l = listed_from l.operators l.index (drop l.index l.spec.entries) ≡ listed_from l.operators 0 l.spec.entries
