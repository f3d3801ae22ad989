-- The views that a writer published, oldest first.
use Rattle.std.specs.Prelude.{◌≡◌, ℕ, ℤ, List, [], ◌∷◌, All, Contains}
use Rattle.bidegree.specs.declared.range.Range.{Range}
use Rattle.bidegree.specs.declared.shape.Shape.TheVariants.{Rectangle}
use Rattle.bidegree.specs.LastDegrees.{last_degree}
use Rattle.logbook.specs.Pages.{Book}
use Rattle.resolution_laws.specs.Start.{IsCanonicalStart}
use Rattle.square.specs.Squares.{over}
use Rattle.square.specs.Tables.{Staircase}
use Rattle.chart_lines.specs.Chart.{chart_text}
use Rattle.live_view.specs.declared.published.Published.{Published as Shown}
use Rattle.live_view.specs.Views.{blank, IsRight, IsWithin}
use Rattle.live_view.specs.Chart.{IsPartOf, AreCounts}

-- the last of these views, and the given one where there is none
abbrev pub last_from : List (List ℕ) → List Shown → List (List ℕ)
last_from view [] = view
last_from view (p ∷ published) = last_from p.view published

-- what readers see once these were published
abbrev pub last_view : List Shown → List (List ℕ)
last_view published = last_from blank published

-- the first of these views has all squares of the given one, and each further one has all of the one before it
abbrev pub IsRising : List (List ℕ) → List Shown → Type 0
IsRising view [] = Unit {0}
IsRising view (p ∷ published) = IsWithin view p.view × IsRising p.view published

-- the view is right over the table that its board opened with
abbrev pub IsRightOf : Shown → Type 0
IsRightOf p = (table : Staircase) → p.of ≡ table ∷ [] → IsRight (over table.resolved) table.start p.view

-- What is so of all views that a writer published: each is right, has all squares of those before it, and is of the one board.
pub record ArePublished (published : List Shown) : Type 0 where
  pub right : All IsRightOf published
  pub rising : IsRising blank published
  pub one : (p q : Shown) → Contains published p → Contains published q → p.of ≡ q.of

-- the view may be published behind these
pub record MayFollow (published : List Shown) (p : Shown) : Type 0 where
  pub right : IsRightOf p
  pub within : IsWithin (last_view published) p.view
  pub one : All (λ q. q.of ≡ p.of) published

-- What is known of the views that one writer published: a beginning of their list. The book tells the writers apart.
pub record KnownViews : Type 0 where
  pub book : Book
  pub published : List Shown

-- The text is a part of the chart of what the published views are of: of each board that they are of whose start is canonical, each
-- character that is not a space is that of its chart.
abbrev pub IsPartOfCharts : ℤ → Range → List Shown → List ℕ → Type 0
IsPartOfCharts bottom range published text =
    (table : Staircase) → All (λ p. p.of ≡ table ∷ []) published → IsCanonicalStart (over table.resolved) table.start →
    (count : ℕ → ℕ → ℕ) → AreCounts (over table.resolved) range count →
    IsPartOf text (chart_text bottom range.s (last_degree Rectangle range) count)
