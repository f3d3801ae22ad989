-- The chart of a view as text: the one of a resolution, with a space for each square that the view does not have.
use Rattle.std.specs.Prelude.{◌≡◌, ◌⊎◌, ℕ, ◌+◌, ◌≤◌, min, ℤ, List, [], ◌∷◌, ◌++◌, map, length, slice_get, Option, Some, None}
use Rattle.std.specs.List.{range_with_len, sum}
use Rattle.bidegree.specs.declared.range.Range.{Range}
use Rattle.bidegree.specs.declared.shape.Shape.TheVariants.{Rectangle}
use Rattle.bidegree.specs.LastDegrees.{last_degree}
use Rattle.resolution_laws.specs.Resolution.{Module}
use Rattle.chart_lines.specs.Chart.{mark, row_lines, stems_line, chart_text}
use Rattle.square_worker.specs.Kept.{IsCount}
use Rattle.live_view.specs.Views.{row_of, IsRight}

-- the mark of a square with so many generators, and a space where the square is not there
abbrev pub mark_of : Option ℕ → ℕ
mark_of None = 32
mark_of (Some n) = mark n

-- the mark of the square (s, k)
abbrev pub marks_of : List (List ℕ) → ℕ → ℕ → ℕ
marks_of view s k = mark_of (slice_get (row_of view s) k)

-- the chart of the view through the range
abbrev pub live_chart : ℤ → Range → List (List ℕ) → List ℕ
live_chart bottom range view =
    row_lines (marks_of view) (last_degree Rectangle range) (range.s + 1) ++ stems_line bottom range.t

-- how many squares of the range a view has
abbrev pub squares_within : Range → List (List ℕ) → ℕ
squares_within range view =
    sum (map (λ s. min (length (row_of view s)) (range.t + 1)) (range_with_len 0 (range.s + 1)))

-- each character of the first text is a space, or that of the second at its place
abbrev pub IsPartOf : List ℕ → List ℕ → Type 0
IsPartOf [] [] = Unit {0}
IsPartOf [] (d ∷ text) = ⊥
IsPartOf (c ∷ part) [] = ⊥
IsPartOf (c ∷ part) (d ∷ text) = ((c ≡ 32) ⊎ (c ≡ d)) × IsPartOf part text

-- these are the numbers of generators of the squares of the canonical resolution, through a range
abbrev pub AreCounts : Module → Range → (ℕ → ℕ → ℕ) → Type 0
AreCounts m range count = (s k : ℕ) → s ≤ range.s → k ≤ range.t → IsCount m [] s k (count s k)

-- ---- the law

-- each character of the chart of a view that is right for the canonical resolution is a space, or that of the resolution's chart
abbrev pub RightChartIsPart : Type 0
RightChartIsPart = (m : Module) (view : List (List ℕ)) (bottom : ℤ) (range : Range) (count : ℕ → ℕ → ℕ) →
    IsRight m [] view → AreCounts m range count →
    IsPartOf (live_chart bottom range view) (chart_text bottom range.s (last_degree Rectangle range) count)
