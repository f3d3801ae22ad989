-- What is told of a save file: that it has all quasi-inverses, and the chart of which it is a certificate.
use Rattle.std.specs.Prelude.{ℕ, ℤ, List, ◌++◌, codes, decimal}
use Rattle.chart_lines.specs.Chart.{chart_text}
use Rattle.ext_chart.specs.Summary.{square_count}

abbrev pub migrated_line : List ℕ
migrated_line = codes "migrated\n"

-- how many squares rows 0 to s have through their last degrees, all of which were verified
abbrev pub verified_line : ℕ → (ℕ → ℕ) → List ℕ
verified_line s last = codes "verified " ++ (decimal (square_count s last) ++ codes " squares\n")

-- The chart, and that line. count i k is the number of generators of the square (i, k).
abbrev pub verified_text : ℤ → ℕ → (ℕ → ℕ) → (ℕ → ℕ → ℕ) → List ℕ
verified_text bottom s last count = chart_text bottom s last count ++ verified_line s last
