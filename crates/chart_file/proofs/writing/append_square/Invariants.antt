use Rattle.std.proofs.Common.{◌≡◌, ◌++◌, take}
use Rattle.std.specs.List.{flat_map}
use Rattle.f2_vec.specs.Bytes.{packed}
use Rattle.chart_file.proofs.writing.append_square.Given as goal

abbrev pub invariant-loop-image : goal.invariant-loop-image
invariant-loop-image l = l.body.items ≡ l.initial.body.items ++ flat_map packed (take l.image-index l.image-items)
