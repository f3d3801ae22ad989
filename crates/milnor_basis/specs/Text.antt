-- A basis element as text.
use Rattle.std.specs.Prelude.{ℕ, List, ◌++◌, map, codes, decimal}
use Rattle.std.specs.List.{join_with_byte}

abbrev pub comma : ℕ
comma = 44

-- `Sq(`, the exponents in decimal with a comma between each two, and `)`
abbrev pub sq_text : List ℕ → List ℕ
sq_text exponents = codes "Sq(" ++ (join_with_byte comma (map decimal exponents) ++ codes ")")
