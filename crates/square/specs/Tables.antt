-- Tables of squares, and what a square is made from.
use Rattle.std.specs.Prelude.{◌≡◌, ℕ, zero, suc, ◌+◌, ◌*◌, ◌^◌, ◌<◌, ◌≤◌, ◌⊎◌, ℤ, pos, ◌+ℤ◌, Bool, nat_eq, if◌then◌else◌, List, [], ◌∷◌, ◌++◌, length, map, take, slice_get, slice_index_or, Option, Some, None, option_and_then, IfSome}
use Rattle.bidegree.specs.Above.{above_of}
use Rattle.bidegree.specs.declared.range.Range.{Range}
use Rattle.bidegree.specs.declared.range.TheConstants.{MAX_S, MAX_T}
use Rattle.milnor_basis.specs.Basis.{basis_of}
use Rattle.f2_matrix.specs.Reduction.{Reduction, Rows}
use Rattle.finite_module.specs.Checked.{Checked}
use Rattle.resolution_laws.specs.Resolution.{Content, square_in, row_of, below_of}
use Rattle.resolution_laws.specs.Start.{Entry, entry_at, HasShape, IsOf}
use Rattle.square.specs.Squares.{Placed, content_of, entry_of, target_width, width_with, source_width, WasRead, IsQuasi, square_matrix, over, bottom_of}

-- ---- rows

-- a row of squares, and how many more have room in it
pub record Shelf : Type 0 where
  pub squares : List Placed
  pub room : ℕ

abbrev pub contents : List Placed → List Content
contents squares = map content_of squares

-- The dimension, k degrees above the first square of a row, of the free module on the generators of these squares.
abbrev pub row_width : List Content → ℕ → ℕ
row_width [] k = 0
row_width (c ∷ squares) zero = length c.images * length (basis_of 0)
row_width (c ∷ squares) (suc k) = length c.images * length (basis_of (suc k)) + row_width squares k

-- ---- tables

-- A table of squares of one module: row s has the squares (s, 0), (s, 1), .. . The start is the squares that were read, and
-- there is room for `spare` squares more, whatever their rows.
pub record Staircase : Type 0 where
  pub resolved : Checked
  pub start : List Entry
  pub rows : List (List Placed)
  pub spare : ℕ

abbrev pub row_in : List (List Placed) → ℕ → List Placed
row_in rows s = slice_index_or rows s []

-- the contents of a table
abbrev pub plain_rows : List (List Placed) → List (List Content)
plain_rows rows = map contents rows

abbrev pub content_at : List (List Placed) → ℕ → ℕ → Content
content_at rows s k = square_in (row_of (plain_rows rows) s) k

-- the square in row s and of degree t
abbrev pub square_at : Staircase → ℕ → ℤ → Option Placed
square_at table s t = option_and_then (λ k. slice_get (row_in table.rows s) k) (above_of (bottom_of table.resolved) t)

-- the rows with one square more at the end of row s
abbrev pub with_square : List (List Placed) → ℕ → Placed → List (List Placed)
with_square [] s q = []
with_square (row ∷ rows) zero q = (row ++ q ∷ []) ∷ rows
with_square (row ∷ rows) (suc s) q = row ∷ with_square rows s q

abbrev pub AllRead : List (List Placed) → Type 0
AllRead rows = (s k : ℕ) (q : Placed) → slice_get (row_in rows s) k ≡ Some q → WasRead q

-- each square of the range is there
abbrev pub IsThrough : Range → List (List Placed) → Type 0
IsThrough range rows = (s : ℕ) → s ≤ range.s → range.t < length (row_in rows s)

-- the part of a table in a range
abbrev pub cut : Range → List (List Content) → List (List Content)
cut range rows = map (take (range.t + 1)) (take (range.s + 1) rows)

-- the square (s, k) is not there, and those that it stands on, (s, k - 1) and (s - 1, k), are
pub record IsNext (rows : List (List Placed)) (s k : ℕ) : Type 0 where
  pub absent : length (row_in rows s) ≤ k
  pub before : (j : ℕ) → suc j ≡ k → j < length (row_in rows s)
  pub below : (i : ℕ) → suc i ≡ s → k < length (row_in rows i)

-- It is so in degree t, and the place is within the limits of a range.
pub record IsNextAt (table : Staircase) (s : ℕ) (t : ℤ) : Type 0 where
  pub above : ℕ
  pub degree : t ≡ bottom_of table.resolved +ℤ pos above
  pub row : s ≤ MAX_S
  pub within : above ≤ MAX_T
  pub next : IsNext table.rows s above

-- the dimensions, k degrees above the bottom, of what d_s goes to and of F_s with `count` new generators, where the next square
-- of row s is
abbrev pub next_target_width : Staircase → ℕ → ℕ → ℕ
next_target_width table s k = target_width (over table.resolved) (below_of (plain_rows table.rows) s k)
    (take k (row_of (plain_rows table.rows) s))

abbrev pub next_width : Staircase → ℕ → ℕ → ℕ → ℕ
next_width table s k count = width_with (over table.resolved) (take k (row_of (plain_rows table.rows) s)) count

abbrev pub next_widths : Staircase → ℕ → ℕ → ℕ → ℕ × ℕ
next_widths table s k count = (next_target_width table s k, next_width table s k count)

-- both fit 64 bits
abbrev pub FitWords : ℕ × ℕ → Type 0
FitWords w = (w.0 < 2 ^ 64) × (w.1 < 2 ^ 64)

-- A square of this content can have been read at (s, t): so far every square was, the content fits over those before it, and
-- its dimensions fit 64 bits.
pub record IsReadable (table : Staircase) (s : ℕ) (t : ℤ) (content : Content) : Type 0 where
  pub all_read : AllRead table.rows
  pub place : IsNextAt table s t
  pub shape : HasShape (over table.resolved) (below_of (plain_rows table.rows) s place.above)
      (take place.above (row_of (plain_rows table.rows) s)) content
  pub target_fits : target_width (over table.resolved) (below_of (plain_rows table.rows) s place.above)
      (take place.above (row_of (plain_rows table.rows) s))
      < 2 ^ 64
  pub source_fits : source_width (over table.resolved) (take place.above (row_of (plain_rows table.rows) s)) content
      < 2 ^ 64

-- reduction is that of the matrix of d_s in degree t with the generators of this content, where the next square of row s is,
-- and its kernel rows are the content's
pub record IsQuasiBehind (table : Staircase) (s : ℕ) (t : ℤ) (content : Content) (reduction : Reduction) : Type 0 where
  pub above : ℕ
  pub degree : t ≡ bottom_of table.resolved +ℤ pos above
  pub quasi : IsQuasi (over table.resolved) (below_of (plain_rows table.rows) s above)
      (take above (row_of (plain_rows table.rows) s)) content reduction
  pub kernel : reduction.kernel ≡ content.kernel

-- The square was read at (s, t), the next of its row behind the squares of the table: it has this content, and this reduction if
-- any, and its start is the table's with the square itself.
pub record IsReadBehind (table : Staircase) (s : ℕ) (t : ℤ) (content : Content) (quasi : Option Reduction) (q : Placed)
    : Type 0 where
  pub resolved_is : q.resolved ≡ table.resolved
  pub start_is : q.start ≡ table.start ++ entry_of q ∷ []
  pub s_is : q.s ≡ s
  pub degree : t ≡ bottom_of table.resolved +ℤ pos q.above
  pub content_is : q.content ≡ content
  pub quasi_is : q.quasi ≡ quasi

-- The square continues the table's start: it has that start, or every square so far was read, and so was it.
abbrev pub IsContinued : Staircase → Placed → Type 0
IsContinued table q = (q.start ≡ table.start) ⊎ (AllRead table.rows × (q.start ≡ table.start ++ entry_of q ∷ []))

-- reduction is that of the matrix of d_s in degree t with the generators of the square there
pub record IsQuasiAt (table : Staircase) (s : ℕ) (t : ℤ) (reduction : Reduction) : Type 0 where
  pub above : ℕ
  pub degree : t ≡ bottom_of table.resolved +ℤ pos above
  pub quasi : IsQuasi (over table.resolved) (below_of (plain_rows table.rows) s above)
      (take above (row_of (plain_rows table.rows) s)) (content_at table.rows s above) reduction

-- the square, where it is in a row, with this reduction
abbrev pub reduced_in_row : List Placed → ℕ → Reduction → List Placed
reduced_in_row [] k r = []
reduced_in_row (q ∷ row) zero r = record q { quasi = Some r } ∷ row
reduced_in_row (q ∷ row) (suc k) r = q ∷ reduced_in_row row k r

-- the rows, where the square (s, k) has this reduction
abbrev pub with_quasi : List (List Placed) → ℕ → ℕ → Reduction → List (List Placed)
with_quasi [] s k r = []
with_quasi (row ∷ rows) zero k r = reduced_in_row row k r ∷ rows
with_quasi (row ∷ rows) (suc s) k r = row ∷ with_quasi rows s k r

-- The square in row s and of degree t is there without a reduction, and this one has its kernel rows.
pub record LacksQuasi (table : Staircase) (s : ℕ) (t : ℤ) (reduction : Reduction) : Type 0 where
  pub square : Placed
  pub there : square_at table s t ≡ Some square
  pub bare : square.quasi ≡ None
  pub kernel : reduction.kernel ≡ square.content.kernel

-- the matrix of d_s in degree t, with the generators of the square there
pub record IsMatrixAt (table : Staircase) (s : ℕ) (t : ℤ) (matrix : Rows) : Type 0 where
  pub above : ℕ
  pub degree : t ≡ bottom_of table.resolved +ℤ pos above
  pub cols : matrix.cols ≡ target_width (over table.resolved) (below_of (plain_rows table.rows) s above)
      (take above (row_of (plain_rows table.rows) s))
  pub rows : matrix.rows ≡ square_matrix (over table.resolved) (below_of (plain_rows table.rows) s above)
      (take above (row_of (plain_rows table.rows) s)) (content_at table.rows s above)

-- the matrix of d_s in degree t, where the next square of row s is, with generators of these images
pub record IsMatrixBehind (table : Staircase) (s : ℕ) (t : ℤ) (images : List (List Bool)) (matrix : Rows)
    : Type 0 where
  pub above : ℕ
  pub degree : t ≡ bottom_of table.resolved +ℤ pos above
  pub cols : matrix.cols ≡ next_target_width table s above
  pub rows : matrix.rows ≡ square_matrix (over table.resolved) (below_of (plain_rows table.rows) s above)
      (take above (row_of (plain_rows table.rows) s)) (record { images = images; kernel = [] })

-- what is known of the square at (s, k) of a table: its place and its module, what it holds, that the table's start has the same
-- as its own at its place and at each place beneath it, and that its own is the whole start where it was made
pub record IsIn (table : Staircase) (s k : ℕ) (q : Placed) : Type 0 where
  pub s_is : q.s ≡ s
  pub above_is : q.above ≡ k
  pub within : k ≤ MAX_T
  pub resolved_is : q.resolved ≡ table.resolved
  pub is_of : IsOf (over table.resolved) table.start s k q.content
  pub beneath : (i j : ℕ) → i ≤ s → j ≤ k → entry_at q.start i j ≡ entry_at table.start i j
  pub start_is : entry_at table.start s k ≡ None → q.start ≡ table.start

-- What is known of each table: it has a row for each s, of lengths that never rise, squares stand at their places, and each that was
-- read is there.
pub record IsTable (table : Staircase) : Type 0 where
  pub rows : length table.rows ≡ MAX_S + 1
  pub never_rise : (s : ℕ) → length (row_in table.rows (suc s)) ≤ length (row_in table.rows s)
  pub placed : (s k : ℕ) (q : Placed) → slice_get (row_in table.rows s) k ≡ Some q → IsIn table s k q
  pub started : (s k : ℕ) (content : Content) → entry_at table.start s k ≡ Some content →
      k < length (row_in table.rows s)

-- the square stands at (s, k) over this module, or in degree t
pub record IsPlaced (resolved : Checked) (s k : ℕ) (q : Placed) : Type 0 where
  pub resolved_is : q.resolved ≡ resolved
  pub s_is : q.s ≡ s
  pub above_is : q.above ≡ k

pub record IsPlacedAt (resolved : Checked) (s : ℕ) (t : ℤ) (q : Placed) : Type 0 where
  pub resolved_is : q.resolved ≡ resolved
  pub s_is : q.s ≡ s
  pub degree : t ≡ bottom_of resolved +ℤ pos q.above

-- the squares are the first of row s
abbrev pub AreOfRow : Checked → ℕ → List Placed → Type 0
AreOfRow resolved s squares = (k : ℕ) (q : Placed) → slice_get squares k ≡ Some q → IsPlaced resolved s k q

-- ---- what a square is made from

-- The place of the square, and the contents of the squares that it stands on: those of its row before it, and those of the
-- row below through its degree, none for row 0.
pub record Footing : Type 0 where
  pub resolved : Checked
  pub start : List Entry
  pub s : ℕ
  pub above : ℕ
  pub squares : List Content
  pub below : Option (List Content)

-- the square (i, k) of those
abbrev pub content_in : Footing → ℕ → ℕ → Option Content
content_in f i k =
    if nat_eq i f.s then slice_get f.squares k
    else (if nat_eq (suc i) f.s then option_and_then (λ below. slice_get below k) f.below else None)

abbrev pub footing_at : Footing → ℕ → ℤ → Option Content
footing_at f i t = option_and_then (λ k. content_in f i k) (above_of (bottom_of f.resolved) t)

-- a row below row s
abbrev pub under_row : ℕ → List Content → Option (List Content)
under_row zero squares = None
under_row (suc i) squares = Some squares

-- What is known of what a square is made from: the start has none at its place, and the squares given are those that it
-- stands on in the start's table.
pub record IsFooting (f : Footing) : Type 0 where
  pub row : f.s ≤ MAX_S
  pub degree : f.above ≤ MAX_T
  pub absent : entry_at f.start f.s f.above ≡ None
  pub length_is : length f.squares ≡ f.above
  pub has_below : (i : ℕ) → suc i ≡ f.s → (below : List Content) × (f.below ≡ Some below) × (length below ≡ f.above + 1)
  pub has_none : f.s ≡ 0 → f.below ≡ None
  pub before_are : (j : ℕ) → j < f.above → IsOf (over f.resolved) f.start f.s j (square_in f.squares j)
  pub below_are : (i j : ℕ) → suc i ≡ f.s → j ≤ f.above →
      IfSome f.below (λ below. IsOf (over f.resolved) f.start i j (square_in below j))

-- each row has room for so many squares more
abbrev pub HaveRoom : List Shelf → ℕ → Type 0
HaveRoom rows spare = (s : ℕ) (row : Shelf) → slice_get rows s ≡ Some row → spare ≤ row.room
