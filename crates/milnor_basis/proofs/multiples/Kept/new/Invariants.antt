use Rattle.std.proofs.Common.{◌≡◌}
use Rattle.std.specs.Vec.{vec_len}
use Rattle.milnor_basis.proofs.multiples.Kept.new.Given as goal

abbrev pub invariant-loop : goal.invariant-loop
invariant-loop l = vec_len l.pairs ≡ l.counter
