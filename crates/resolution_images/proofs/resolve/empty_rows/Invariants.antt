-- So many rows of no square so far.
use Rattle.std.proofs.Common.{◌≡◌, replicate}
use Rattle.resolution_images.specs.BareRows.{no_bare_row}
use Rattle.resolution_images.proofs.resolve.empty_rows.Given as goal

abbrev pub invariant-loop : goal.invariant-loop
invariant-loop l = l.rows.items ≡ replicate l.counter no_bare_row
