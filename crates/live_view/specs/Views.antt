-- Views of a board: for each row, how many generators each of its finished squares has.
use Rattle.std.specs.Prelude.{◌≡◌, ℕ, suc, ◌+◌, ◌≤◌, List, [], ◌∷◌, length, replicate, slice_get, slice_index_or, Some}
use Rattle.bidegree.specs.declared.range.TheConstants.{MAX_S}
use mathlib.Core.List.{IsPrefix}
use Rattle.resolution_laws.specs.Resolution.{Module}
use Rattle.resolution_laws.specs.Start.{Entry, IsCanonicalStart}
use Rattle.square_worker.specs.Kept.{IsCount}

-- row s of a view, none past its last row
abbrev pub row_of : List (List ℕ) → ℕ → List ℕ
row_of view s = slice_index_or view s []

-- the view's squares are a staircase: no row has more than the row below it
abbrev pub IsStaircase : List (List ℕ) → Type 0
IsStaircase view = (s : ℕ) → length (row_of view (suc s)) ≤ length (row_of view s)

-- A view is right if its squares are a staircase, and each of its numbers is that of the square there, in the table of this start. Over
-- the empty start these are the squares of the canonical resolution.
pub record IsRight (m : Module) (start : List Entry) (view : List (List ℕ)) : Type 0 where
  pub staircase : IsStaircase view
  pub counts : (s k n : ℕ) → slice_get (row_of view s) k ≡ Some n → IsCount m start s k n

-- the view without a square, of all rows that a table has
abbrev pub blank : List (List ℕ)
blank = replicate (MAX_S + 1) []

-- the first view is within the second, which has all of its squares, and as many rows
abbrev pub IsWithin : List (List ℕ) → List (List ℕ) → Type 0
IsWithin [] [] = Unit {0}
IsWithin [] (q ∷ more) = ⊥
IsWithin (r ∷ view) [] = ⊥
IsWithin (r ∷ view) (q ∷ more) = IsPrefix r q × IsWithin view more

-- ---- the law

-- a view that is right over a start of canonical squares is right for the canonical resolution
abbrev pub RightViewIsCanonical : Type 0
RightViewIsCanonical = (m : Module) (start : List Entry) (view : List (List ℕ)) → IsCanonicalStart m start →
    IsRight m start view → IsRight m [] view
