-- The ones from place `from` on are left to take.
use Rattle.std.proofs.Common.{◌≡◌, ◌≤◌, ◌-◌, ◌++◌, map, drop}
use Rattle.std.specs.List.{items_where_true}
use Rattle.free_module.specs.Inside.Terms.{term_at}
use Rattle.free_module.proofs.terms.with_block.Given as goal

abbrev pub invariant-loop-i : goal.invariant-loop-i
invariant-loop-i l = record {
  reached : l.start ≤ l.from;
  within : l.from ≤ l.end;
  rest : l.terms.items ++ map (term_at l.offset) (items_where_true (drop l.from l.v) (drop (l.from - l.start) l.elements)) ≡ l.fn.terms.items ++ map (term_at l.offset) (items_where_true (drop l.start l.v) l.elements);
}

abbrev pub decreases-loop-i : goal.decreases-loop-i
decreases-loop-i l = l.end - l.from
