-- Squares that were taken.
use Rattle.std.specs.Prelude.{ℕ, ℤ}

-- a square that was taken: by whom, its row and its degree, and what it is made from
pub record Taking (I : Type 0) : Type 0 where
  pub who : ℕ
  pub s : ℕ
  pub t : ℤ
  pub inputs : I

-- products that are made ahead: for the squares of this row past its next one, which is so far above the bottom
pub record Advance : Type 0 where
  pub s : ℕ
  pub front : ℕ
