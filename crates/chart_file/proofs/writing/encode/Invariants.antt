use Rattle.std.proofs.Common.{◌≡◌, ◌++◌, take}
use Rattle.std.specs.List.{flat_map}
use Rattle.chart_file.specs.Parts.{bare_bytes}
use Rattle.chart_file.proofs.writing.encode.Given as goal

abbrev pub invariant-loop-square : goal.invariant-loop-square
invariant-loop-square l = l.body.items ≡ l.initial.body.items ++ flat_map bare_bytes (take l.square-index l.square-items)
