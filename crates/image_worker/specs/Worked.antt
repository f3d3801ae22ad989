-- What workers did at images.
use Rattle.std.specs.Prelude.{◌≡◌, ℕ, List, Ok}
use Rattle.bidegree.specs.declared.range.Range.{Range}
use Rattle.bidegree.specs.declared.shape.Shape.{Shape}
use Rattle.finite_module.specs.Checked.{Checked}
use Rattle.resolution_images.specs.BareRows.{BareRow}
use Rattle.square_board.specs.Workers.{HasMadeBy}
use Rattle.image_worker.specs.Stocks.{ImageRows, fronts_of}
use Rattle.image_worker.specs.Words.{image_words}

-- So many workers made the images of a range of this shape. One history of a board, which its machine accepts from no square on, led
-- to these rows. Each entry is of a worker, and the entries of each are pairs in its order: it took one square after the other, each
-- once the one before it had ended, and each has ended.
pub record AreImagesBy (workers : ℕ) (resolved : Checked) (range : Range) (shape : Shape) (rows : List BareRow) : Type 0 where
  pub first : ImageRows
  pub subject : first.subject ≡ record { resolved = resolved; range = range; shape = shape }
  pub none : (i : ℕ) → fronts_of first i ≡ 0
  pub last : ImageRows
  pub rows_are : last.rows ≡ rows
  pub worked : HasMadeBy image_words workers first range (Ok tt) last
