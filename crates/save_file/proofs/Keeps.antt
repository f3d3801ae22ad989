-- What a list of bodies keeps, and the squares of it.
use Rattle.std.proofs.Common.{◌≡◌, ℕ, List, sym, ◌∙◌, ap}
use Rattle.finite_module.specs.Checked.{Checked}
use Rattle.resolution_laws.specs.Start.{Entry}
use Rattle.save_file.specs.Bodies.{entries}
use Rattle.save_file.specs.Reading.{squares_alone}
use Rattle.save_file.specs.Saving.{HasSquares}
use Rattle.save_file.proofs.Rules.{same_Ok}

-- the squares of a file are those of what it keeps
pub list_is : (m : Checked) (start : List Entry) (n : ℕ) (file : List ℕ) (h : HasSquares m start n file) → h.list ≡ entries h.kept
list_is m start n file h = same_Ok h.list (entries h.kept) (sym h.squares ∙ ap squares_alone h.kept_are)
