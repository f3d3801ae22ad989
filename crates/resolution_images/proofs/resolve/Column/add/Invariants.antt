-- The rows below s are done, and the kernel in hand is what the next square has to cover.
use Rattle.std.proofs.Common.{◌≡◌, ◌≤◌, ◌+◌, length}
use Rattle.square.specs.Squares.{over}
use Rattle.resolution_images.specs.Made.{IsToCover}
use Rattle.resolution_images.specs.Inside.Columns.{AreMadeThrough}
use Rattle.resolution_images.proofs.resolve.Column.add.Given as goal

abbrev pub invariant-loop-s : goal.invariant-loop-s
invariant-loop-s l = record {
  count : length l.rows ≡ length l.fn.rows;
  stem : l.self.k ≤ l.self.extent.n + l.s;
  through : AreMadeThrough (over l.self.module.now) l.self.extent l.s l.self.k l.rows;
  cover : IsToCover (over l.self.module.now) l.self.extent l.s l.self.k l.below;
}
