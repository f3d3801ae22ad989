-- Texts as they are written item by item, with commas between them.
use Rattle.std.specs.Prelude.{ℕ, List, [], ◌∷◌, ◌++◌, codes}

-- an item behind a text, with a comma between the two where there is a text
abbrev pub after_comma : List ℕ → List ℕ → List ℕ
after_comma [] item = item
after_comma (b ∷ bs) item = (b ∷ bs) ++ (codes "," ++ item)

abbrev pub written_after : List ℕ → List (List ℕ) → List ℕ
written_after text [] = text
written_after text (item ∷ items) = written_after (after_comma text item) items
