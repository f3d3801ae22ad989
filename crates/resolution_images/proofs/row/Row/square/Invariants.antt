-- The images from square i on.
use Rattle.std.proofs.Common.{◌≡◌, drop}
use Rattle.resolution_images.specs.BareRows.{cut}
use Rattle.resolution_images.proofs.row.Row.square.Given as goal

abbrev pub invariant-loop-i : goal.invariant-loop-i
invariant-loop-i l = cut (drop l.i l.self.counts) l.rest ≡ drop l.i (cut l.self.counts l.self.images)
