-- The degrees below n are counted.
use Rattle.std.proofs.Common.{◌≡◌, ◌*◌, length}
use Rattle.milnor_basis.specs.Inside.Counted.{IsCounted}
use Rattle.milnor_basis.proofs.counts.Counts.new.Given as goal

abbrev pub invariant-loop-n : goal.invariant-loop-n
invariant-loop-n l = record { below : length l.numbers.items ≡ 9 * l.n; counted : IsCounted l.numbers.items }
