use Rattle.std.proofs.Common.{◌≡◌, take}
use Rattle.resolution_laws.specs.Resolution.{degrees_from}
use Rattle.square.specs.Tables.{contents}
use Rattle.square.proofs.row.Row.generators.Given as goal

abbrev pub invariant-loop-i : goal.invariant-loop-i
invariant-loop-i l = l.gens ≡ degrees_from l.fn.bottom (take l.i (contents l.self.squares))
