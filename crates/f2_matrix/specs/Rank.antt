-- How many rows span all vectors of their length.
use Rattle.std.specs.Prelude.{◌≡◌, ℕ, ◌≤◌, Bool, false, List, length}
use Rattle.f2_vec.specs.Vectors.{bit}
use Rattle.f2_vec.specs.Spans.{HaveWidth, IsInKernel, IsInSpan}

abbrev pub SpanAll : ℕ → List (List Bool) → Type 0
SpanAll n rows = (v : List Bool) → length v ≡ n → IsInSpan n rows v

-- there are at least as many rows as the dimension, and where there are just as many only zero coefficients give zero
pub record IsFull (n : ℕ) (rows : List (List Bool)) : Type 0 where
  pub many : n ≤ length rows
  pub independent : length rows ≡ n → (c : List Bool) → IsInKernel n rows c → (k : ℕ) → bit c k ≡ false

abbrev pub SpanningRowsAreFull : Type 0
SpanningRowsAreFull = (n : ℕ) (rows : List (List Bool)) → HaveWidth n rows → SpanAll n rows → IsFull n rows
