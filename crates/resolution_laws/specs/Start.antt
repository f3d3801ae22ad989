-- Squares that were read from a save file stand as they were read. With those of a start, a table is continued by the step.
use Rattle.std.specs.Prelude.{◌≡◌, ℕ, zero, suc, ◌+◌, ◌<◌, ◌≤◌, ◌↔◌, pos, ◌+ℤ◌, ◌&&◌, nat_eq, if◌then◌else◌, List, [], ◌∷◌, ◌++◌, length, map, replicate, Option, Some, None, MatchOption}
use Rattle.std.specs.List.{All, range_with_len}
use Rattle.f2_vec.specs.Spans.{HaveWidth}
use Rattle.f2_matrix.specs.Echelon.{IsReduced, HasNoZeroRow}
use Rattle.free_module.specs.FreeModule.{free_width}
use Rattle.resolution_laws.specs.Resolution.{Module, Content, square_in, row_of, degrees_from, target_over, IsStep, IsCanonicalTable}

-- a square that was read: its place, `above` degrees above the bottom, and what it holds
pub record Entry : Type 0 where
  pub s : ℕ
  pub above : ℕ
  pub content : Content

-- the content of the first entry at a place
abbrev pub entry_at : List Entry → ℕ → ℕ → Option Content
entry_at [] s k = None
entry_at (e ∷ es) s k = if nat_eq e.s s && nat_eq e.above k then Some e.content else entry_at es s k

-- The content fits over the squares of its row so far and the row below: images are vectors of the target, not more than
-- its dimension, and kernel rows are the reduced basis of a part of F_s in the square's degree.
pub record HasShape (m : Module) (below : Option (List Content)) (squares : List Content) (content : Content)
    : Type 0 where
  pub image_widths : HaveWidth ((target_over m below).width (m.bottom +ℤ pos (length squares))) content.images
  pub images_few : length content.images ≤ (target_over m below).width (m.bottom +ℤ pos (length squares))
  pub kernel_widths : HaveWidth
      (free_width
      (degrees_from m.bottom squares ++ replicate (length content.images) (m.bottom +ℤ pos (length squares)))
      (m.bottom +ℤ pos (length squares)))
      content.kernel
  pub reduced : IsReduced content.kernel
  pub nonzero : HasNoZeroRow content.kernel

-- the squares of row s below k, and those of the row below through k
abbrev pub squares_below : (ℕ → ℕ → Content) → ℕ → ℕ → List Content
squares_below at s k = map (at s) (range_with_len 0 k)

abbrev pub row_below : (ℕ → ℕ → Content) → ℕ → ℕ → Option (List Content)
row_below at zero k = None
row_below at (suc s) k = Some (squares_below at s (suc k))

-- At (s, k) over these squares: what the start has there, and else the step.
abbrev pub IsReadOrStep : Module → List Entry → ℕ → ℕ → (ℕ → ℕ → Content) → Content → Type 0
IsReadOrStep m start s k at content =
    MatchOption (entry_at start s k) (IsStep m (row_below at s k) (squares_below at s k) content)
    (λ read. (content ≡ read) × HasShape m (row_below at s k) (squares_below at s k) content)

-- content is that of the square (s, k) of the start's table
pub data IsOf (m : Module) (start : List Entry) : ℕ → ℕ → Content → Type 0 where
  is_of : (s k : ℕ) (at : ℕ → ℕ → Content) (content : Content) → ((j : ℕ) → j < k → IsOf m start s j (at s j)) →
      ((i j : ℕ) → suc i ≡ s → j ≤ k → IsOf m start i j (at i j)) → IsReadOrStep m start s k at content →
      IsOf m start s k content

-- each square of the list is that of the start's table
abbrev pub AreOf : Module → List Entry → List Entry → Type 0
AreOf m start list = All (λ e. IsOf m start e.s e.above e.content) list

-- each square of the start is that of the canonical resolution
abbrev pub IsCanonicalStart : Module → List Entry → Type 0
IsCanonicalStart m start = (s k : ℕ) (content : Content) → entry_at start s k ≡ Some content → IsOf m [] s k content

-- ---- the laws

-- the squares that the square (s, k) stands on are those of the start's table: those of its row below k, and those of the row
-- below through k
pub record AreBefore (m : Module) (start : List Entry) (s k : ℕ) (at : ℕ → ℕ → Content) : Type 0 where
  pub before : (j : ℕ) → j < k → IsOf m start s j (at s j)
  pub below : (i j : ℕ) → suc i ≡ s → j ≤ k → IsOf m start i j (at i j)

-- a start's table has at most one content at each place,
abbrev pub StartTableIsUnique : Type 0
StartTableIsUnique = (m : Module) (start : List Entry) (s k : ℕ) (c d : Content) → IsOf m start s k c →
    IsOf m start s k d → c ≡ d

-- which fits over the squares that it stands on, whether it was read or made by the step
abbrev pub StartTableHasShape : Type 0
StartTableHasShape = (m : Module) (start : List Entry) (s k : ℕ) (at : ℕ → ℕ → Content) (c : Content) →
    AreBefore m start s k at → IsOf m start s k c → HasShape m (row_below at s k) (squares_below at s k) c

-- the table of a canonical start is that of the empty start
abbrev pub CanonicalStartIsCanonical : Type 0
CanonicalStartIsCanonical = (m : Module) (start : List Entry) → IsCanonicalStart m start → (s k : ℕ) (c : Content) →
    IsOf m start s k c ↔ IsOf m [] s k c

-- the rows through s of a start's table, through degree bottom + t
pub record IsTableOf (m : Module) (start : List Entry) (s t : ℕ) (table : List (List Content)) : Type 0 where
  pub rows : length table ≡ s + 1
  pub squares : (i : ℕ) → i ≤ s → length (row_of table i) ≡ t + 1
  pub contents : (i k : ℕ) → i ≤ s → k ≤ t → IsOf m start i k (square_in (row_of table i) k)

-- the table of the empty start is the canonical resolution
abbrev pub EmptyStartIsCanonical : Type 0
EmptyStartIsCanonical = (m : Module) (s t : ℕ) (table : List (List Content)) →
    IsTableOf m [] s t table ↔ IsCanonicalTable m s t table
