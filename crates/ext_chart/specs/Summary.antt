-- The summary of a resolution as text: the module's generators, how many squares there are and how many generators they
-- have, and the generators of each row.
use Rattle.std.specs.Prelude.{ℕ, suc, ◌+◌, ℤ, List, [], ◌∷◌, ◌++◌, map, codes, decimal}
use Rattle.std.specs.Fmt.{signed_decimal}
use Rattle.std.specs.List.{sum, range_with_len}
use Rattle.finite_module.specs.Text.{newline}

-- The generators of row s through degree bottom + t. count s k is the number of generators of the square (s, k).
abbrev pub row_total : (ℕ → ℕ → ℕ) → ℕ → ℕ → ℕ
row_total count t s = sum (map (count s) (range_with_len 0 (t + 1)))

-- those of rows 0 to s, where last i is the last degree of row i above the bottom
abbrev pub row_totals : (ℕ → ℕ → ℕ) → ℕ → (ℕ → ℕ) → List ℕ
row_totals count s last = map (λ i. row_total count (last i) i) (range_with_len 0 (s + 1))

-- `module gens 2 bottom -5`: how many generators the module has, and the least of their degrees
abbrev pub module_line : ℕ → ℤ → List ℕ
module_line gens bottom =
    codes "module gens " ++ (decimal gens ++ (codes " bottom " ++ (signed_decimal bottom ++ newline)))

-- how many squares rows 0 to s have through their last degrees
abbrev pub square_count : ℕ → (ℕ → ℕ) → ℕ
square_count s last = sum (map (λ i. last i + 1) (range_with_len 0 (s + 1)))

abbrev pub squares_line : ℕ → (ℕ → ℕ) → List ℕ
squares_line s last = codes "squares " ++ (decimal (square_count s last) ++ newline)

abbrev pub gens_line : ℕ → List ℕ
gens_line total = codes "gens " ++ (decimal total ++ newline)

-- `row 1: 4`
abbrev pub total_line : ℕ → ℕ → List ℕ
total_line s total = codes "row " ++ (decimal s ++ (codes ": " ++ (decimal total ++ newline)))

-- the lines of rows with these totals, the first of which is row s
abbrev pub total_lines : ℕ → List ℕ → List ℕ
total_lines s [] = []
total_lines s (total ∷ totals) = total_line s total ++ total_lines (suc s) totals

-- the summary of rows 0 to s of a resolution, each through its last degree, of a module with so many generators
abbrev pub summary_text : ℕ → ℤ → ℕ → (ℕ → ℕ) → (ℕ → ℕ → ℕ) → List ℕ
summary_text gens bottom s last count =
    module_line gens bottom
    ++ (squares_line s last
    ++ (gens_line (sum (row_totals count s last)) ++ total_lines 0 (row_totals count s last)))
