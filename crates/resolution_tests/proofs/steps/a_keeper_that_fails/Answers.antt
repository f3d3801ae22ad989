use Rattle.std.proofs.Common.{List, [], ◌+◌, sym, ap, subst}
use Rattle.bidegree.specs.declared.range.TheConstants.{MAX_S}
use Rattle.resolution_laws.specs.Start.{Entry}
use Rattle.square.specs.Tables.{Staircase}
use Rattle.square.specs.Keeping.{HoldsTable}
use Rattle.square.specs.Inside.MemKeep.{Kept}
use Rattle.square.proofs.Growing.{HoldsTable-none}
use Rattle.resolution_tests.proofs.steps.a_keeper_that_fails.Goals as goal

pub resolve_alone-resolved-requires-clause-of_table : goal.resolve_alone-resolved-requires-clause-of_table
resolve_alone-resolved-requires-clause-of_table g c =
    let table = c.in_ok-table.table in
    let P : List Entry → Type 0 = λ list. HoldsTable list table.rows in
    record {
      holds = subst P (sym (ap (λ (k : Kept). k.list) c.in_ok-keeper.ensures)) (subst (HoldsTable []) (sym (ap (λ (t : Staircase). t.rows) c.in_ok-table.ensures)) (HoldsTable-none (MAX_S + 1)));
      resolved = tt;
      start = tt;
    }
