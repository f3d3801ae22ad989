-- The rows of a resolution without its kernels: of each square the images of its generators.
use Rattle.std.specs.Prelude.{◌≡◌, ◌⊎◌, ℕ, ◌+◌, ◌≤◌, ℤ, Bool, List, [], ◌∷◌, length, map, take, drop, slice_index_or}
use Rattle.bidegree.specs.declared.range.Range.{Range}
use Rattle.finite_module.specs.Checked.{Checked}
use Rattle.resolution_laws.specs.Resolution.{Module, Content, degrees_from, images_of, row_of, IsCanonicalTable}
use Rattle.stem_laws.specs.Stems.{in_stems}

-- of a row the degrees of its generators, their images, and how many generators each square has
pub record BareRow : Type 0 where
  pub degrees : List ℤ
  pub images : List (List Bool)
  pub counts : List ℕ

-- the row of no square
abbrev pub no_bare_row : BareRow
no_bare_row = record { degrees = []; images = []; counts = [] }

-- row s of these, the row of no square past the last one
abbrev pub bare_row_in : List BareRow → ℕ → BareRow
bare_row_in rows s = slice_index_or rows s no_bare_row

-- the row is that of these squares, the first of which is of degree b
pub record IsBareRowOf (b : ℤ) (squares : List Content) (row : BareRow) : Type 0 where
  pub degrees : row.degrees ≡ degrees_from b squares
  pub images : row.images ≡ images_of squares
  pub counts : row.counts ≡ map (λ c. length c.images) squares

-- the row is that of some squares, the first of which is of degree b
abbrev pub IsSomeRow : ℤ → BareRow → Type 0
IsSomeRow b row = (squares : List Content) × IsBareRowOf b squares row

-- the rows are those of the module's canonical resolution through row s and t degrees above the bottom, of which there is just one
pub record AreOfCanonical (m : Module) (s t : ℕ) (bare : List BareRow) : Type 0 where
  pub rows : length bare ≡ s + 1
  pub each : (table : List (List Content)) → IsCanonicalTable m s t table →
      (i : ℕ) → i ≤ s → IsBareRowOf m.bottom (row_of table i) (bare_row_in bare i)

-- the rows are those of the module's canonical resolution through row s, in stems 0 to n above the bottom
pub record AreOfStems (m : Module) (s n : ℕ) (bare : List BareRow) : Type 0 where
  pub rows : length bare ≡ s + 1
  pub each : (table : List (List Content)) → IsCanonicalTable m s (n + s) table →
      (i : ℕ) → i ≤ s → IsBareRowOf m.bottom (in_stems m n table i) (bare_row_in bare i)

-- the rows are those of the rectangle through row s and t degrees above the bottom, or those in the stems of which the
-- last square in row s is in that degree
abbrev pub AreOfRange : Module → ℕ → ℕ → List BareRow → Type 0
AreOfRange m s t bare = AreOfCanonical m s t bare ⊎ ((n : ℕ) × (n + s ≡ t) × AreOfStems m s n bare)

-- what is held of the canonical resolution of a module through a range
pub record BareTable : Type 0 where
  pub resolved : Checked
  pub range : Range
  pub rows : List BareRow

-- images cut into squares of these numbers of generators, in order. The squares stand without kernels
abbrev pub cut : List ℕ → List (List Bool) → List Content
cut [] images = []
cut (n ∷ counts) images = record { images = take n images; kernel = [] } ∷ cut counts (drop n images)

-- the squares of a row
abbrev pub contents_of : BareRow → List Content
contents_of row = cut row.counts row.images

-- the squares of all rows
abbrev pub squares_of : List BareRow → List (List Content)
squares_of rows = map contents_of rows
