-- The generators of the squares before k, whatever squares the row is that of.
use Rattle.std.proofs.Common.{◌≡◌, List, take}
use Rattle.resolution_laws.specs.Resolution.{Content, degrees_from}
use Rattle.resolution_images.specs.BareRows.{IsBareRowOf}
use Rattle.resolution_images.proofs.row.Row.first_gens.Given as goal

abbrev pub invariant-loop-k : goal.invariant-loop-k
invariant-loop-k l = (squares : List Content) → IsBareRowOf l.fn.bottom squares l.self → l.gens ≡ degrees_from l.fn.bottom (take l.k squares)
