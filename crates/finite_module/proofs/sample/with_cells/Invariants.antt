-- The cells with the first numbers stand behind the generators that were there.
use Rattle.std.proofs.Common.{◌≡◌, ◌++◌, take, filter_map}
use Rattle.finite_module.specs.Sample.{cell_of, by_text}
use Rattle.finite_module.proofs.sample.with_cells.Given as goal

abbrev pub invariant-loop-k : goal.invariant-loop-k
invariant-loop-k l = l.generators.items ≡ l.fn.generators.items ++ filter_map (cell_of l.n l.cell) (take l.k-index by_text)
