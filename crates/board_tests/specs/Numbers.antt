-- A stock whose squares are numbers, for tests of the board.
use Rattle.std.specs.Prelude.{◌≡◌, ℕ, ◌+◌, ◌≤◌, pos, List, length, slice_index_or, ⊤}
use Rattle.bidegree.specs.declared.range.Range.{Range}
use Rattle.bidegree.specs.declared.shape.Shape.{Shape}
use Rattle.bidegree.specs.declared.shape.Shape.TheVariants.{Stems}
use Rattle.board_core.specs.Machine.{IsStaircase, stands_in}
use Rattle.square_board.specs.Openings.{below_fronts}
use Rattle.square_board.specs.Stocks.{StockWords}

-- the shape and the range of its squares, and how many of each row are done
pub record NumbersState : Type 0 where
  pub subject : Shape × Range
  pub fronts : List ℕ

abbrev pub front_in : List ℕ → ℕ → ℕ
front_in fronts s = slice_index_or fronts s 0

-- What is so of each: there is a front for each row of the range, and what is done are squares of it that have those that they
-- stand on.
pub record AreNumbers (subject : Shape × Range) (fronts : List ℕ) : Type 0 where
  pub few : subject.1.s ≤ 127
  pub short : subject.1.t ≤ 255
  pub corner : subject.0 ≡ Stems → subject.1.s ≤ subject.1.t
  pub rows : length fronts ≡ subject.1.s + 1
  pub within : (i : ℕ) → front_in fronts i ≤ subject.1.t + 1
  pub stairs : IsStaircase (stands_in subject.0 subject.1.s subject.1.t) (below_fronts (front_in fronts))

-- Each stock reaches its own range. A number is made of any two, and a stock takes any number.
abbrev pub numbers_words : StockWords NumbersState (Shape × Range) (ℕ × ℕ) ℕ
numbers_words = record {
  subject = λ numbers. numbers.subject;
  bottom = λ subject. pos 0;
  shape = λ subject. subject.0;
  reaches = λ subject range. subject.1 ≡ range;
  fronts = λ numbers. front_in numbers.fronts;
  takes = λ numbers. ⊤;
  is_for = λ subject s k inputs. ⊤;
  is_made = λ inputs made. ⊤;
  is_count = λ subject s k n. ⊤;
  gives = λ old s t new. ⊤;
  lacks = λ old s t new. ⊤;
  fails = λ old s t new. ⊤;
}
