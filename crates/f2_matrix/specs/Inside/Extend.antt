-- What one row more does to the parts of a reduction.
use Rattle.std.specs.Prelude.{◌≡◌, ℕ, ◌+◌, ◌<◌, ◌≤◌, Bool, false, if◌then◌else◌, List, [], ◌∷◌, ◌++◌, length, map}
use Rattle.std.specs.List.{insert}
use Rattle.f2_vec.specs.Vectors.{bit, sum_of}
use Rattle.f2_vec.specs.Spans.{row}
use Rattle.f2_matrix.specs.Reduction.{Reduction}
use Rattle.f2_matrix.specs.Preimages.{pivot_of}
use Rattle.f2_matrix.specs.Inside.RowOperations.{cleared}

-- a vector with a 0 behind it
abbrev pub longer : List Bool → List Bool
longer v = v ++ false ∷ []

-- a row with its pivot at p stands behind k of the rows, whose pivots rise
pub record IsPlaceFor (p : ℕ) (rows : List (List Bool)) (k : ℕ) : Type 0 where
  pub within : k ≤ length rows
  pub before : (i : ℕ) → i < k → pivot_of (row rows i) ≤ p
  pub after : k < length rows → p < pivot_of (row rows k)

-- the rows cleared by w at place p, and w put at place k among them
abbrev pub with_pivot : List Bool → ℕ → ℕ → List (List Bool) → List (List Bool)
with_pivot w p k rows = insert (map (cleared w p) rows) k w

-- new is old with a 0 behind each row of coefficients, and then c put among the kernel rows by its pivot, where it clears
-- them and the preimages
pub record IsWithRelation (c : List Bool) (old new : Reduction) : Type 0 where
  pub cols : new.cols ≡ old.cols
  pub height : new.height ≡ old.height + 1
  pub image : new.image ≡ old.image
  pub chosen : new.chosen ≡ map (cleared c (pivot_of c)) (map longer old.chosen)
  pub place : ℕ
  pub is_place : IsPlaceFor (pivot_of c) old.kernel place
  pub kernel : new.kernel ≡ with_pivot c (pivot_of c) place (map longer old.kernel)

-- ys is xs with c added to each row beside which there is a 1 in column q
pub record IsAddedBeside (c : List Bool) (q : ℕ) (beside xs ys : List (List Bool)) : Type 0 where
  pub as_many : length ys ≡ length xs
  pub rows : (i : ℕ) → i < length xs → row ys i ≡ (if bit (row beside i) q then sum_of (row xs i) c else row xs i)

-- new is old with a 0 behind each row of coefficients, and then w put among the image rows by its pivot q, where it clears
-- them, and c among the preimages, where it is added as w is to the image rows
pub record IsWithPivot (w : List Bool) (q : ℕ) (c : List Bool) (old new : Reduction) : Type 0 where
  pub cols : new.cols ≡ old.cols
  pub height : new.height ≡ old.height + 1
  pub place : ℕ
  pub is_place : IsPlaceFor q old.image place
  pub image : new.image ≡ with_pivot w q place old.image
  pub added : List (List Bool)
  pub is_added : IsAddedBeside c q old.image (map longer old.chosen) added
  pub chosen : new.chosen ≡ insert added place c
  pub kernel : new.kernel ≡ map longer old.kernel
