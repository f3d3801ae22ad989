-- Lists of the first squares of a stock.
use Rattle.std.specs.Prelude.{◌≡◌, ℕ, ℤ, ◌&&◌, ◌||◌, nat_lt, nat_eq, List}
use Rattle.board_core.specs.Machine.{Squares, IsStart, squares_of}

-- the start lists the squares of the rows below row s, and the first n of row s
pub record ListsPart (stands : Squares) (low : ℤ) (start : List (ℕ × ℤ)) (fronts : ℕ → ℕ) (s n : ℕ) : Type 0 where
  pub once : IsStart stands low start
  pub squares : (i k : ℕ) →
      squares_of low start i k ≡ (nat_lt k (fronts i) && (nat_lt i s || (nat_eq i s && nat_lt k n)))
