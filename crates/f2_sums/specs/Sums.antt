-- Rows added to a vector at whose places it has a 1.
use Rattle.std.specs.Prelude.{ℕ, Bool, List, map}
use Rattle.f2_vec.specs.Vectors.{sum_of, bit}
use Rattle.f2_vec.specs.Spans.{combination}

-- v with each row of b added at whose place it has a 1; ps has a place for each row of b
abbrev pub cleared_at : ℕ → List ℕ → List (List Bool) → List Bool → List Bool
cleared_at n ps b v = sum_of v (combination n (map (bit v) ps) b)

-- rows of length `cols` whose sums are held, with room for those of up to `most` rows
pub record Block : Type 0 where
  pub cols : ℕ
  pub most : ℕ
  pub rows : List (List Bool)
