-- The records of a chart file: parts of columns, each the images of generators of one degree in rows one above the other; and their
-- bytes.
use Rattle.std.specs.Prelude.{ℕ, ◌+◌, ◌^◌, ◌<◌, ◌≤◌, Bool, All, List, ◌∷◌, ◌++◌, length}
use Rattle.std.specs.Int.{w16, w64, to_be_bytes}
use Rattle.std.specs.List.{flat_map}
use Rattle.bidegree.specs.declared.range.TheConstants.{MAX_S, MAX_T}
use Rattle.f2_vec.specs.Spans.{HaveWidth}
use Rattle.f2_vec.specs.Bytes.{packed}
use Rattle.chart_file.specs.declared.part.TheConstants.{COLUMN}

-- what is kept of a square: how many coordinates an image has, and the images of its new generators
pub record Bare : Type 0 where
  pub width : ℕ
  pub images : List (List Bool)

-- Each image has so many coordinates, of which there are no fewer than images, since images of new generators are independent of
-- one another. Eight bytes say how many coordinates there are.
pub record IsBare (q : Bare) : Type 0 where
  pub widths : HaveWidth q.width q.images
  pub few : length q.images ≤ q.width
  pub sayable : q.width < 2 ^ 64

-- a part of a column: the squares so many degrees above the bottom, from row `first` on and each in the row above the one before
pub record Part : Type 0 where
  pub above : ℕ
  pub first : ℕ
  pub squares : List Bare

-- it lies within the limits of a range
pub record IsPart (p : Part) : Type 0 where
  pub degree : p.above ≤ MAX_T
  pub row : p.first ≤ MAX_S
  pub rows : p.first + length p.squares ≤ MAX_S + 1
  pub bare : All IsBare p.squares

-- ---- bytes, of numbers the highest byte first

-- of a square: how many new generators it has, how many coordinates an image has, and the images, each packed
abbrev pub bare_bytes : Bare → List ℕ
bare_bytes q = to_be_bytes w64 (length q.images) ++ to_be_bytes w64 q.width ++ flat_map packed q.images

-- what a part begins with: its kind, its degree and its first row
abbrev pub head_bytes : ℕ → ℕ → List ℕ
head_bytes above first = COLUMN ∷ (to_be_bytes w16 above ++ to_be_bytes w16 first)

-- of a part: these, and its squares to the end
abbrev pub part_bytes : Part → List ℕ
part_bytes p = head_bytes p.above p.first ++ flat_map bare_bytes p.squares
