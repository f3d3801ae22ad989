-- How the list of published views is kept: the rule of its book, and the one step that adds a view.
use Rattle.std.specs.Prelude.{◌≡◌, ℕ, ◌==◌, true, List, [], ◌∷◌, ◌++◌, length, MatchBool}
use Rattle.logbook.specs.Pages.{Cell, Step, View, Book, Named}
use Rattle.live_view.specs.declared.published.Published.{Published as Shown}
use Rattle.live_view.specs.Published.{ArePublished}

-- the first word counts the views; the second is not used
pub record IsKept (cells : List Cell) (published : List Shown) : Type 0 where
  pub words : cells ≡ (length published, true) ∷ (0, true) ∷ []
  pub legal : ArePublished published

-- the word that counts the views of a book
abbrev pub head_of : Book → Named
head_of b = record { tracked = true; key = 0; book = b }

-- the view was added to all that had been seen; or more had been published, and was seen
abbrev pub Adds : Step Shown → View Shown ℕ → ℕ → View Shown ℕ → Type 0
Adds s v found w = MatchBool (found == s.old)
    ((w.0 ≡ v.0 ++ s.ask ∷ []) × ArePublished w.0)
    ((length w.0 ≡ found) × ArePublished w.0)
