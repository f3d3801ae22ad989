use Rattle.std.proofs.Common.{◌≡◌, ◌++◌, length}
use Rattle.std.specs.List.{flat_map}
use Rattle.chart_file.specs.Parts.{bare_bytes}
use Rattle.chart_file.proofs.reading.decode.Given as goal

abbrev pub invariant-loop-rest : goal.invariant-loop-rest
invariant-loop-rest l = record {
  above_same : l.part.above ≡ l.above;
  first_same : l.part.first ≡ l.first;
  read : flat_map bare_bytes l.part.squares ++ l.rest ≡ l.initial.rest;
}

abbrev pub decreases-loop-rest : goal.decreases-loop-rest
decreases-loop-rest l = length l.rest
