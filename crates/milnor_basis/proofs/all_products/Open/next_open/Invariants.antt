-- Nothing can stand in the columns that were passed.
use Rattle.std.proofs.Common.{◌≡◌, ◌<◌, ◌≤◌, ℕ}
use Rattle.milnor_basis.specs.Inside.FreeRows.{greatest_of}
use Rattle.milnor_basis.proofs.all_products.Open.next_open.Given as goal

abbrev pub invariant-loop-next : goal.invariant-loop-next
invariant-loop-next l = record {
  low : l.next ≤ l.column;
  shut : (j : ℕ) → l.next < j → j ≤ l.column → greatest_of j l.most l.self.columns ≡ 0;
}

abbrev pub decreases-loop-next : goal.decreases-loop-next
decreases-loop-next l = l.next
