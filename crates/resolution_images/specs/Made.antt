-- Rows that are made so far, and the kernel that the next square has to cover.
use Rattle.std.specs.Prelude.{◌≡◌, ℕ, zero, suc, ◌+◌, ℤ, pos, ◌+ℤ◌, Bool, List, [], ◌∷◌, ◌++◌, length, replicate, take, ⊤}
use Rattle.f2_matrix.specs.Reduction.{Rows}
use Rattle.resolution_laws.specs.Resolution.{Module, Content, square_in, IsCanonicalTable}
use Rattle.stem_laws.specs.Stems.{in_stems, degrees_in_stems, target_in_stems, AreToCover}
use Rattle.resolution_images.specs.declared.resolve.Extent.{Extent}
use Rattle.resolution_images.specs.BareRows.{BareRow, IsBareRowOf}

-- the row with one more square, whose generators are of degree t and have these images
abbrev pub with_one_square : BareRow → ℤ → List (List Bool) → BareRow
with_one_square row t new = record {
  degrees = row.degrees ++ replicate (length new) t;
  images = row.images ++ new;
  counts = row.counts ++ length new ∷ [];
}

-- a table that reaches so far
abbrev pub IsTableOf : Module → Extent → List (List Content) → Type 0
IsTableOf m e table = IsCanonicalTable m e.last (e.n + e.last) table

-- the row has the first j squares of row i, all where there are fewer
abbrev pub IsMadeThrough : Module → Extent → ℕ → ℕ → BareRow → Type 0
IsMadeThrough m e i j row = (table : List (List Content)) → IsTableOf m e table →
    IsBareRowOf m.bottom (take j (in_stems m e.n table i)) row

-- these are the degrees of the generators under row s through k degrees above the bottom: those of the squares of the row
-- below. Row 0 has the module under it, and then nothing is said
abbrev pub AreUnder : Module → Extent → ℕ → ℕ → List ℤ → Type 0
AreUnder m e zero k degrees = ⊤
AreUnder m e (suc i) k degrees = (table : List (List Content)) → IsTableOf m e table →
    degrees ≡ degrees_in_stems m e.n table i (suc k)

-- the square in row i and k degrees above the bottom is this one
abbrev pub IsSquareInStems : Module → Extent → ℕ → ℕ → Content → Type 0
IsSquareInStems m e i k content = (table : List (List Content)) → IsTableOf m e table →
    content ≡ square_in (in_stems m e.n table i) k

-- the vectors of the kernel are what the square in row s and k degrees above the bottom has to cover: the whole module in
-- row 0, the kernel of the row below in others
pub record IsToCover (m : Module) (e : Extent) (s k : ℕ) (kernel : Rows) : Type 0 where
  pub cols : (table : List (List Content)) → IsTableOf m e table →
      kernel.cols ≡ (target_in_stems m e.n table s k).width (m.bottom +ℤ pos k)
  pub covers : (table : List (List Content)) → IsTableOf m e table → AreToCover m e.n table s k kernel.rows
