-- The choice, among candidates in order, of those that rows and earlier candidates do not give.
use Rattle.std.specs.Prelude.{◌≡◌, ℕ, ◌<◌, ◌↔◌, Bool, false, List, ◌++◌, length, take}
use Rattle.std.specs.List.{items_where_true}
use Rattle.f2_vec.specs.Vectors.{bit}
use Rattle.f2_vec.specs.Spans.{row, IsInSpan}

-- chosen are the candidates, in order, without each that lies in the span of old and the candidates before it
pub record IsChosen (n : ℕ) (old candidates chosen : List (List Bool)) : Type 0 where
  pub kept : List Bool
  pub one_each : length kept ≡ length candidates
  pub dropped : (i : ℕ) → i < length candidates →
      (bit kept i ≡ false) ↔ IsInSpan n (old ++ take i candidates) (row candidates i)
  pub chosen_are : chosen ≡ items_where_true kept candidates
