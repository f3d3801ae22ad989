use Rattle.std.proofs.Common.{◌≡◌, ◌<◌, ◌^◌, take}
use Rattle.square.specs.Tables.{contents, row_width}
use Rattle.square.proofs.row.Row.width.Given as goal

abbrev pub invariant-loop-i : goal.invariant-loop-i
invariant-loop-i l = record { is : l.width ≡ row_width (take l.i (contents l.self.squares)) l.k; fits : l.width < 2 ^ 64 }
