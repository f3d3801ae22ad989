-- Each row is done below degree k.
use Rattle.std.proofs.Common.{◌≡◌, ◌+◌, length}
use Rattle.square.specs.Squares.{over}
use Rattle.resolution_images.specs.Inside.Columns.{AreMadeThrough}
use Rattle.resolution_images.proofs.resolve.rows_through.Given as goal

abbrev pub invariant-loop-k : goal.invariant-loop-k
invariant-loop-k l = record {
  count : length l.rows.items ≡ l.extent.last + 1;
  through : AreMadeThrough (over l.module) l.extent 0 l.k l.rows.items;
}
