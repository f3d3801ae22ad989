-- Classes of Ext and sums of them as text, the products of one class with others, and a bracket.
use Rattle.std.specs.Prelude.{ℕ, ℤ, pos, Bool, List, [], ◌∷◌, ◌++◌, length, map, codes, decimal}
use Rattle.std.specs.Fmt.{signed_decimal}
use Rattle.std.specs.List.{flat_map, range_with_len, items_where_true}
use Rattle.finite_module.specs.Text.{newline}
use Rattle.ext_chart.specs.Product.{terms_text}
use Rattle.ext_chart.specs.declared.class_products.ProductLine.{ProductLine}

-- `(s,t,i)`: class i, from 0, of row s in internal degree t
abbrev pub class_text : ℤ → ℤ → ℕ → List ℕ
class_text s t i =
    codes "(" ++ (signed_decimal s ++ (codes "," ++ (signed_decimal t ++ (codes "," ++ (decimal i ++ codes ")")))))

-- a vector over the classes of row s in degree t, as the sum of those where it is one: `(5,20,0) + (5,20,1)`, and `0` for none
abbrev pub class_sum_text : ℤ → ℤ → List Bool → List ℕ
class_sum_text s t v = terms_text (map (class_text s t) (items_where_true v (range_with_len 0 (length v))))

-- `(1,1,0) -> (2,2,0)`: a class and its product, a vector over the classes of the product's row and degree
abbrev pub product_line : ProductLine → List ℕ
product_line l =
    class_text (pos l.s) l.t l.i ++ (codes " -> " ++ (class_sum_text (pos l.target_s) l.target_t l.value ++ newline))

abbrev pub product_lines_text : List ProductLine → List ℕ
product_lines_text lines = flat_map product_line lines

-- `value (3,8): (3,8,0)`
abbrev pub value_line : ℤ → ℤ → List Bool → List ℕ
value_line s t v = codes "value ("
    ++ (signed_decimal s ++ (codes "," ++ (signed_decimal t ++ (codes "): " ++ (class_sum_text s t v ++ newline)))))

-- `indeterminacy: (3,8,0)`
abbrev pub indeterminacy_line : ℤ → ℤ → List Bool → List ℕ
indeterminacy_line s t v = codes "indeterminacy: " ++ (class_sum_text s t v ++ newline)

-- a line for each vector of a basis of the indeterminacy, and one line with `0` where there is none
abbrev pub indeterminacy_lines : ℤ → ℤ → List (List Bool) → List ℕ
indeterminacy_lines s t [] = indeterminacy_line s t []
indeterminacy_lines s t (v ∷ vectors) = flat_map (indeterminacy_line s t) (v ∷ vectors)

-- a bracket in row s and degree t: one of its values, and the lines of its indeterminacy
abbrev pub bracket_text : ℤ → ℤ → List Bool → List (List Bool) → List ℕ
bracket_text s t v vectors = value_line s t v ++ indeterminacy_lines s t vectors
