-- The bodies of a save file, of squares and of quasi-inverses, and the rules of their shape.
use Rattle.std.specs.Prelude.{◌≡◌, ℕ, suc, ◌≤◌, ◌&&◌, nat_eq, if◌then◌else◌, Bool, List, [], ◌∷◌, ◌++◌, length, map, Option, Some, None, unwrap_or, IfSome, IsSome}
use Rattle.std.specs.Option.{option_map}
use Rattle.std.specs.Int.{w16, w64, to_be_bytes}
use Rattle.std.specs.List.{flat_map}
use Rattle.bidegree.specs.declared.range.TheConstants.{MAX_S, MAX_T}
use Rattle.f2_vec.specs.Spans.{HaveWidth}
use Rattle.f2_matrix.specs.Echelon.{IsReduced, HasNoZeroRow}
use Rattle.f2_matrix.specs.Parts.{AreReductionParts}
use Rattle.f2_matrix.specs.Reduction.{Rows, Reduction}
use Rattle.resolution_laws.specs.Resolution.{Module, Content, no_content}
use Rattle.resolution_laws.specs.Start.{Entry, entry_at, squares_below, row_below}
use Rattle.square.specs.Squares.{Placed, entry_of, target_width, width_with, square_matrix}
use Rattle.f2_vec.specs.Bytes.{packed}
use Rattle.save_file.specs.declared.outline.TheConstants.{SQUARE, REDUCED, QUASI}

-- ---- bytes

-- a matrix: how many rows it has, how many columns, and its rows, each packed
abbrev pub matrix_bytes : Rows → List ℕ
matrix_bytes m = to_be_bytes w64 (length m.rows) ++ to_be_bytes w64 m.cols ++ flat_map packed m.rows

-- what a body has of the reduction of a square's matrix beside the kernel rows: the image rows and their chosen preimages
pub record Preimages : Type 0 where
  pub image : List (List Bool)
  pub chosen : List (List Bool)

abbrev pub preimages_bytes : Preimages → List ℕ
preimages_bytes p = flat_map packed p.image ++ flat_map packed p.chosen

-- A square with the dimensions that stand in its body: the images of its new generators are rows as long as the target of d_s has
-- dimensions, and the rows of its kernel as long as F_s has, in the square's degree. With image rows and chosen preimages it is of
-- kind 2, and else of kind 1.
pub record Body : Type 0 where
  pub s : ℕ
  pub above : ℕ
  pub images : Rows
  pub kernel : Rows
  pub quasi : Option Preimages

abbrev pub kind_of : Option Preimages → ℕ
kind_of None = SQUARE
kind_of (Some p) = REDUCED

-- what stands behind the kernel rows: nothing, or how many image rows there are, and both lists of rows
abbrev pub quasi_bytes : Option Preimages → List ℕ
quasi_bytes None = []
quasi_bytes (Some p) = to_be_bytes w64 (length p.image) ++ preimages_bytes p

-- its bytes, numbers with their highest byte first
abbrev pub body_bytes : Body → List ℕ
body_bytes b = kind_of b.quasi
    ∷ (to_be_bytes w16 b.s ++ to_be_bytes w16 b.above ++ matrix_bytes b.images ++ matrix_bytes b.kernel
    ++ quasi_bytes b.quasi)

-- A quasi-inverse for a square that is there, with the square's dimensions. It is of kind 3.
pub record Addition : Type 0 where
  pub s : ℕ
  pub above : ℕ
  pub cols : ℕ
  pub height : ℕ
  pub preimages : Preimages

abbrev pub addition_bytes : Addition → List ℕ
addition_bytes a = QUASI
    ∷ (to_be_bytes w16 a.s ++ to_be_bytes w16 a.above ++ to_be_bytes w64 (length a.preimages.image)
    ++ to_be_bytes w64 a.cols ++ to_be_bytes w64 a.height ++ preimages_bytes a.preimages)

-- ---- what a body stands for

-- a square that is kept, and its quasi-inverse if it is kept too
pub record Kept : Type 0 where
  pub entry : Entry
  pub quasi : Option Reduction

abbrev pub entries : List Kept → List Entry
entries kept = map (λ k. k.entry) kept

abbrev pub kept_of : Placed → Kept
kept_of q = record { entry = entry_of q; quasi = q.quasi }

-- the square of a body, and the body of a square with these dimensions
abbrev pub entry_in : Body → Entry
entry_in b = record { s = b.s; above = b.above; content = record { images = b.images.rows; kernel = b.kernel.rows } }

-- the reduction with these parts, of a matrix with these dimensions, and the parts of one
abbrev pub reduction_with : ℕ → ℕ → Preimages → List (List Bool) → Reduction
reduction_with w v p kernel = record { cols = w; height = v; image = p.image; chosen = p.chosen; kernel = kernel }

abbrev pub preimages_of : Reduction → Preimages
preimages_of r = record { image = r.image; chosen = r.chosen }

abbrev pub kept_in : Body → Kept
kept_in b = record {
  entry = entry_in b;
  quasi = option_map (λ p. reduction_with b.images.cols b.kernel.cols p b.kernel.rows) b.quasi;
}

abbrev pub body_of : ℕ → ℕ → Kept → Body
body_of w v k = record {
  s = k.entry.s;
  above = k.entry.above;
  images = record { cols = w; rows = k.entry.content.images };
  kernel = record { cols = v; rows = k.entry.content.kernel };
  quasi = option_map preimages_of k.quasi;
}

-- the first square at a place, and the list where a square at that place has this quasi-inverse
abbrev pub is_at : Entry → ℕ → ℕ → Bool
is_at e s k = nat_eq e.s s && nat_eq e.above k

abbrev pub kept_at : List Kept → ℕ → ℕ → Option Kept
kept_at [] s k = None
kept_at (x ∷ xs) s k = if is_at x.entry s k then Some x else kept_at xs s k

abbrev pub given_quasi : ℕ → ℕ → Reduction → Kept → Kept
given_quasi s k r x = if is_at x.entry s k then record { entry = x.entry; quasi = Some r } else x

abbrev pub with_quasi_at : List Kept → ℕ → ℕ → Reduction → List Kept
with_quasi_at kept s k r = map (given_quasi s k r) kept

-- ---- the shape of a square behind those of a list

-- what the list has at each place, and nothing elsewhere
abbrev pub content_in : List Entry → ℕ → ℕ → Content
content_in list s k = unwrap_or (entry_at list s k) no_content

-- the dimensions, k degrees above the bottom, of the target of d_s, and of F_s with `count` new generators
abbrev pub target_dim : Module → List Entry → ℕ → ℕ → ℕ
target_dim m list s k = target_width m (row_below (content_in list) s k) (squares_below (content_in list) s k)

abbrev pub source_dim : Module → List Entry → ℕ → ℕ → ℕ → ℕ
source_dim m list s k count = width_with m (squares_below (content_in list) s k) count

-- the matrix of d_s, k degrees above the bottom, with new generators of these images
abbrev pub matrix_with : Module → List Entry → ℕ → ℕ → List (List Bool) → List (List Bool)
matrix_with m list s k images = square_matrix m (row_below (content_in list) s k) (squares_below (content_in list) s k)
    (record { images = images; kernel = [] })

-- the list has no square at (s, k), and has those that it stands on, (s, k - 1) and (s - 1, k)
pub record IsNextPlace (list : List Entry) (s k : ℕ) : Type 0 where
  pub absent : entry_at list s k ≡ None
  pub before : (j : ℕ) → suc j ≡ k → IsSome (entry_at list s j)
  pub below : (i : ℕ) → suc i ≡ s → IsSome (entry_at list i k)

-- The square of the body may stand behind those of the list: it is the next of its row, its dimensions are those of the modules
-- there, there are no more new generators than the target has dimensions and no more kernel rows than F_s has, and the kernel rows
-- are in reduced echelon form, without a zero row. Image rows and chosen preimages, where there are any, are with the kernel rows the
-- parts of the reduction of the matrix of d_s.
pub record HasRules (m : Module) (list : List Entry) (b : Body) : Type 0 where
  pub row : b.s ≤ MAX_S
  pub degree : b.above ≤ MAX_T
  pub place : IsNextPlace list b.s b.above
  pub target : b.images.cols ≡ target_dim m list b.s b.above
  pub images_few : length b.images.rows ≤ b.images.cols
  pub source : b.kernel.cols ≡ source_dim m list b.s b.above (length b.images.rows)
  pub kernel_few : length b.kernel.rows ≤ b.kernel.cols
  pub image_widths : HaveWidth b.images.cols b.images.rows
  pub kernel_widths : HaveWidth b.kernel.cols b.kernel.rows
  pub reduced : IsReduced b.kernel.rows
  pub nonzero : HasNoZeroRow b.kernel.rows
  pub parts : IfSome b.quasi (λ p. AreReductionParts b.images.cols
      (matrix_with m list b.s b.above b.images.rows) p.image p.chosen b.kernel.rows)

-- The quasi-inverse of the body is one for a square of the list that has none: the dimensions are those of the modules there, and
-- its rows are with the kernel rows of the square the parts of the reduction of the matrix of d_s.
pub record HasAdditionRules (m : Module) (kept : List Kept) (a : Addition) : Type 0 where
  pub row : a.s ≤ MAX_S
  pub degree : a.above ≤ MAX_T
  pub square : Kept
  pub there : kept_at kept a.s a.above ≡ Some square
  pub bare : square.quasi ≡ None
  pub target : a.cols ≡ target_dim m (entries kept) a.s a.above
  pub source : a.height ≡ source_dim m (entries kept) a.s a.above (length square.entry.content.images)
  pub parts : AreReductionParts a.cols
      (matrix_with m (entries kept) a.s a.above square.entry.content.images) a.preimages.image a.preimages.chosen
      square.entry.content.kernel
