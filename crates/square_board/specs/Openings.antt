-- What a board was made with.
use Rattle.std.specs.Prelude.{◌≡◌, ℕ, ◌+◌, ℤ, nat_lt, List}
use Rattle.bidegree.specs.declared.range.Range.{Range}
use Rattle.bidegree.specs.declared.shape.Shape.{Shape}
use Rattle.board_core.specs.declared.event.Entry.{Entry as Event}
use Rattle.board_core.specs.Laws.{given_in}
use Rattle.board_core.specs.Machine.{Squares, IsStart, squares_of, stands_in}
use Rattle.square_board.specs.declared.opening.Opening.{Opening}
use Rattle.square_board.specs.Courses.{Course}
use Rattle.square_board.specs.Stocks.{StockWords}

-- the squares of each row below its front
abbrev pub below_fronts : (ℕ → ℕ) → Squares
below_fronts fronts = λ s k. nat_lt k (fronts s)

-- the start lists the squares below these fronts, each by its row and its degree, once and after its parents
pub record ListsSquares (stands : Squares) (low : ℤ) (start : List (ℕ × ℤ)) (fronts : ℕ → ℕ) : Type 0 where
  pub once : IsStart stands low start
  pub squares : (s k : ℕ) → squares_of low start s k ≡ nat_lt k (fronts s)

module _ {T O I M : Type 0} (w : StockWords T O I M) where
  -- what the squares are squares of, the bottom degree, the shape, and the squares that stand on the one below them
  abbrev pub subject_of : Opening T → O
  subject_of opening = w.subject opening.first.value

  abbrev pub bottom_of : Opening T → ℤ
  bottom_of opening = w.bottom (subject_of opening)

  abbrev pub shape_of : Opening T → Shape
  shape_of opening = w.shape (subject_of opening)

  abbrev pub stands_of : Opening T → Squares
  stands_of opening = stands_in (shape_of opening) opening.range.s opening.range.t

  -- the course of the board through these events
  abbrev pub course_of : Opening T → List Event → Course
  course_of opening history = record {
    shape = shape_of opening;
    rows = opening.range.s;
    degrees = opening.range.t;
    bottom = bottom_of opening;
    start = opening.start;
    history = history;
  }

  -- how many squares row i has after these events: those of the stock at the opening, and those that were given since
  abbrev pub front_after : Opening T → List Event → ℕ → ℕ
  front_after opening history i = w.fronts opening.first.value i + given_in i history

  -- The board was made with this stock and this range.
  pub record IsOpenedWith (opening : Opening T) (stock : T) (range : Range) : Type 0 where
    pub first_is : opening.first.value ≡ stock
    pub range_is : opening.range ≡ range
    pub lists : ListsSquares (stands_of opening) (bottom_of opening) opening.start (w.fronts stock)
