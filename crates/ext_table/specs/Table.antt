-- The classes of a resolution as lines of text: square by square, those of a stem together, and with each class its products with some
-- classes of the sphere.
use Rattle.std.specs.Prelude.{ℕ, ◌+◌, ◌==◌, ℤ, pos, ◌+ℤ◌, nat_lt, ◌&&◌, Bool, if◌then◌else◌, List, [], ◌++◌, codes, decimal, find, option_map, unwrap_or}
use Rattle.std.specs.Fmt.{signed_decimal}
use Rattle.std.specs.List.{flat_map, range_with_len}
use Rattle.std.specs.Ordering.{int_eq}
use Rattle.bidegree.specs.declared.class.Class.{Class}
use Rattle.chart_lines.specs.Chart.{stems_line}
use Rattle.ext_chart.specs.declared.class_products.ProductLine.{ProductLine}
use Rattle.ext_chart.specs.Classes.{product_line}
use Rattle.ext_table.specs.Listing.{Listing}

-- `square (3,11) stem 8 classes 1`: a row, an internal degree, the stem, and how many classes there are
abbrev pub square_line : ℕ → ℤ → ℤ → ℕ → List ℕ
square_line s t stem count = codes "square (" ++ (decimal s ++ (codes "," ++ (signed_decimal t ++ (codes ") stem "
    ++ (signed_decimal stem ++ (codes " classes " ++ (decimal count ++ codes "\n")))))))

-- ---- a class and its products

-- the line is on class i of row s and degree t
abbrev pub is_on : ℕ → ℤ → ℕ → ProductLine → Bool
is_on s t i line = line.s == s && (int_eq line.t t && line.i == i)

-- `by (1,1,0) `, in front of a product with this class
abbrev pub by_text : Class → List ℕ
by_text by = codes "by (" ++ (decimal by.s ++ (codes "," ++ (signed_decimal by.t ++ (codes "," ++ (decimal by.i ++ codes ") ")))))

-- `(3,11,0) -> past`: the product is in none of the squares
abbrev pub past_line : ℕ → ℤ → ℕ → List ℕ
past_line s t i =
    codes "(" ++ (decimal s ++ (codes "," ++ (signed_decimal t ++ (codes "," ++ (decimal i ++ codes ") -> past\n")))))

-- class i of row s and degree t: its line among those of products, if there is one
abbrev pub line_on : ℕ → ℤ → ℕ → List ProductLine → List ℕ
line_on s t i lines = unwrap_or (option_map product_line (find (is_on s t i) lines)) (past_line s t i)

-- with a class of the sphere
abbrev pub class_line : ℕ → ℤ → ℕ → Listing → List ℕ
class_line s t i listing = by_text listing.by ++ line_on s t i listing.lines

-- that class with each class of the sphere
abbrev pub class_text : List Listing → ℕ → ℤ → ℕ → List ℕ
class_text lists s t i = flat_map (class_line s t i) lists

-- ---- squares

-- The square of row i in stem n, where that is in the row and has classes. count i k is their number, and last i the last degree of the
-- row; the degree of the square is n + i above the bottom.
abbrev pub square_text : ℤ → (ℕ → ℕ) → (ℕ → ℕ → ℕ) → List Listing → ℕ → ℕ → List ℕ
square_text bottom last count lists n i =
    if nat_lt (last i) (n + i) then []
    else if count i (n + i) == 0 then []
    else square_line i (bottom +ℤ pos (n + i)) (bottom +ℤ pos n) (count i (n + i))
    ++ flat_map (class_text lists i (bottom +ℤ pos (n + i))) (range_with_len 0 (count i (n + i)))

-- the squares of rows 0 to s in stem n
abbrev pub stem_text : ℤ → ℕ → (ℕ → ℕ) → (ℕ → ℕ → ℕ) → List Listing → ℕ → List ℕ
stem_text bottom s last count lists n = flat_map (square_text bottom last count lists n) (range_with_len 0 (s + 1))

-- Those in stems 0 to the last above the bottom, which is that of row 0, and the line of the stems, which ends a chart too.
abbrev pub table_text : ℤ → ℕ → (ℕ → ℕ) → (ℕ → ℕ → ℕ) → List Listing → List ℕ
table_text bottom s last count lists =
    flat_map (stem_text bottom s last count lists) (range_with_len 0 (last 0 + 1)) ++ stems_line bottom (last 0)
