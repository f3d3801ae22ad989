use Rattle.std.proofs.Common.{◌≡◌, ℕ, ◌<◌, ◌≤◌, length, get_or}
use Rattle.f2_vec.specs.Spans.{row}
use Rattle.f2_choice.specs.Inside.Columns.{with_element}
use Rattle.f2_choice.proofs.parts.add_elements.Given as goal

abbrev pub invariant-loop-k : goal.invariant-loop-k
invariant-loop-k l = record {
  turned : (j : ℕ) → j < l.k → j < length l.fn.columns → row l.columns j ≡ with_element l.n (get_or l.places j 0) (row l.fn.columns j);
  kept : (j : ℕ) → l.k ≤ j → row l.columns j ≡ row l.fn.columns j;
}
