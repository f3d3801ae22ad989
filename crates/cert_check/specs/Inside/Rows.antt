-- What is looked at in the kernel rows of a square.
use Rattle.std.specs.Prelude.{ℕ, ◌-◌, ◌<◌, Bool, List, length}
use Rattle.f2_vec.specs.Vectors.{IsZeroFrom}
use Rattle.f2_vec.specs.Spans.{row}

-- the last coordinates of each of the rows, so many, are 0
abbrev pub EndInZeros : ℕ → List (List Bool) → Type 0
EndInZeros count rows = (i : ℕ) → i < length rows → IsZeroFrom (row rows i) (length (row rows i) - count)
