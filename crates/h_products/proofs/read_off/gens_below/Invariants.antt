use Rattle.std.proofs.Common.{◌≡◌, take}
use Rattle.resolution_laws.specs.Resolution.{degrees_from, row_of}
use Rattle.square.specs.Squares.{bottom_of}
use Rattle.resolution_images.specs.BareRows.{squares_of}
use Rattle.h_products.proofs.read_off.gens_below.Given as goal

abbrev pub invariant-loop-k : goal.invariant-loop-k
invariant-loop-k l = l.gens ≡ degrees_from (bottom_of l.images.resolved) (take l.k (row_of (squares_of l.images.rows) l.s))
