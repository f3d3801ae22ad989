use Rattle.std.proofs.Common.{◌≡◌, pos, ◌-ℤ◌, take}
use Rattle.resolution_laws.specs.Resolution.{degrees_from, row_of}
use Rattle.square.specs.Tables.{plain_rows}
use Rattle.chain_map.proofs.rows.lowered_generators.Given as goal

abbrev pub invariant-loop-k : goal.invariant-loop-k
invariant-loop-k l = l.gens ≡ degrees_from (pos 0 -ℤ pos l.above) (take l.k (row_of (plain_rows l.table.rows) l.s))
