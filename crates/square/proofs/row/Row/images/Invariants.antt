use Rattle.std.proofs.Common.{◌≡◌, take}
use Rattle.resolution_laws.specs.Resolution.{images_of}
use Rattle.square.specs.Tables.{contents}
use Rattle.square.proofs.row.Row.images.Given as goal

abbrev pub invariant-loop-i : goal.invariant-loop-i
invariant-loop-i l = l.images.items ≡ images_of (take l.i (contents l.self.squares))
