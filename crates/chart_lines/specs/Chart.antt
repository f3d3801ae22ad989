-- The chart of a resolution as text: a line for each s, from the greatest down, and in it a mark for each stem;
-- and last a line that names the stems.
use Rattle.std.specs.Prelude.{ℕ, zero, suc, ◌+◌, ◌-◌, ℤ, pos, ◌+ℤ◌, nat_lt, if◌then◌else◌, List, [], ◌∷◌, ◌++◌, map, codes, decimal}
use Rattle.std.specs.Fmt.{signed_decimal}
use Rattle.std.specs.List.{range_with_len}

-- the mark for n generators: a dot for none, a digit up to nine, and a star above
abbrev pub mark : ℕ → ℕ
mark zero = 46
mark (suc n) = if nat_lt n 9 then 49 + n else 42

-- s in at least two places, to the right
abbrev pub row_label : ℕ → List ℕ
row_label s = if nat_lt s 10 then 32 ∷ decimal s else decimal s

-- The mark of each square, where count s k is the number of generators of the square (s, k).
abbrev pub count_marks : (ℕ → ℕ → ℕ) → ℕ → ℕ → ℕ
count_marks count s k = mark (count s k)

-- The line of row s through degree t. The stem of square (s, k) is k - s above the bottom, so the row's first mark is for k = s. marks s k is the
-- mark of the square (s, k).
abbrev pub row_line : (ℕ → ℕ → ℕ) → ℕ → ℕ → List ℕ
row_line marks t s = row_label s ++ (codes " |" ++ (map (marks s) (range_with_len s (t + 1 - s)) ++ codes "\n"))

-- the lines of the rows below n, the greatest first, where last i is the last degree of row i
abbrev pub row_lines : (ℕ → ℕ → ℕ) → (ℕ → ℕ) → ℕ → List ℕ
row_lines marks last zero = []
row_lines marks last (suc n) = row_line marks (last n) n ++ row_lines marks last n

-- stems 0 to n above the bottom
abbrev pub stems_line : ℤ → ℕ → List ℕ
stems_line bottom n =
    codes "stems " ++ (signed_decimal bottom ++ (codes ".." ++ (signed_decimal (bottom +ℤ pos n) ++ codes "\n")))

-- The chart of rows 0 to s, each through its last degree. count i k is the number of generators of the square (i, k). In row 0
-- the degree of a square is its stem.
abbrev pub chart_text : ℤ → ℕ → (ℕ → ℕ) → (ℕ → ℕ → ℕ) → List ℕ
chart_text bottom s last count = row_lines (count_marks count) last (s + 1) ++ stems_line bottom (last 0)
