-- Which book a reader or the writer has, and how the two copies of the newest view keep it.
use Rattle.std.specs.Prelude.{◌≡◌, ℕ, List, Option, Some}
use mathlib.Core.Option.{some}
use lib.ListN.{get_elem?}
use Rattle.logbook.specs.Pages.{Book}

-- the numbers of a book
abbrev pub numbers_of : Book → ℕ × ℕ × ℕ
numbers_of book = (book.number, book.log_name, book.cells_name)

-- what a reader or the writer knows of this book
abbrev pub tie_of : Book → Option (ℕ × ℕ × ℕ)
tie_of book = Some (numbers_of book)

-- whoever knows of a book knows of this one
abbrev pub AllTied : Book → List (Option (ℕ × ℕ × ℕ)) → Type 0
AllTied book views = (seat : ℕ) (tie : ℕ × ℕ × ℕ) → get_elem? views seat ≡ some (Some tie) → tie ≡ numbers_of book

-- Who saw the value go from one book to another knows of the second, and if it knew of a book, that was the first.
pub record HasSeen (old : Option (ℕ × ℕ × ℕ)) (before after : Book) (new : Option (ℕ × ℕ × ℕ)) : Type 0 where
  pub has : new ≡ tie_of after
  pub had : (tie : ℕ × ℕ × ℕ) → old ≡ Some tie → tie ≡ numbers_of before
