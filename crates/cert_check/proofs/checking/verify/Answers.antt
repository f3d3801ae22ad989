use Rattle.cert_check.proofs.Verdict.{ok_decides, fault_decides, then, certified_is_resolution, certified_has_counts}
use Rattle.cert_check.proofs.checking.verify.Goals as goal

pub returns-clause-ok : goal.returns-clause-ok
returns-clause-ok c = ok_decides c.args.table.now c.args.range c.first_fault.result c.first_fault.ensures.ok c.first_fault.ensures.fault

pub returns-clause-fault : goal.returns-clause-fault
returns-clause-fault c = fault_decides c.args.table.now c.args.range c.first_fault.result c.first_fault.ensures.ok c.first_fault.ensures.fault

pub returns-clause-minimal : goal.returns-clause-minimal
returns-clause-minimal c = then c.args.table.now c.args.range c.first_fault.result (certified_is_resolution c.args.table.now c.args.range c.modules_are_graded_modules.ensures c.first_fault.ensures.is_table c.minimal_table_is_minimal_resolution.ensures) c.first_fault.ensures.ok

pub returns-clause-counts : goal.returns-clause-counts
returns-clause-counts c = then c.args.table.now c.args.range c.first_fault.result (certified_has_counts c.args.table.now c.args.range c.modules_are_graded_modules.ensures c.first_fault.ensures.is_table c.minimal_table_has_canonical_counts.ensures c.canonical_table_exists.ensures) c.first_fault.ensures.ok
