use Rattle.std.proofs.Common.{◌≡◌, ◌+◌, [], replicate, sym, ap, subst}
use Rattle.bidegree.specs.declared.range.TheConstants.{MAX_S}
use Rattle.finite_module.specs.Checked.{Checked}
use Rattle.square.specs.Tables.{Staircase, AllRead}
use Rattle.save_file.proofs.Pushing.{AllRead-none}
use Rattle.save_file.proofs.resuming.prepared.Goals as goal

of_none : (m : Checked) (table : Staircase) → table ≡ record { resolved = m; start = []; rows = replicate (MAX_S + 1) []; spare = 0 } → AllRead table.rows
of_none m table is = subst AllRead (sym (ap (λ (x : Staircase). x.rows) is)) (AllRead-none (MAX_S + 1))

pub returns-clause-all_read : goal.returns-clause-all_read
returns-clause-all_read c = of_none c.args.module c.in_ok-table.table c.in_ok-table.ensures
