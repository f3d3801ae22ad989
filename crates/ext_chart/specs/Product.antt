-- A product of Steenrod's squares as text, in Milnor's basis and as a sum of admissible monomials: `milnor: Sq(6) + Sq(3,1)`
-- and `admissible: Sq6 + Sq5 Sq1`.
use Rattle.std.specs.Prelude.{ℕ, Bool, List, [], ◌∷◌, ◌++◌, map, codes, decimal}
use Rattle.std.specs.List.{items_where_true, join_with_byte}
use Rattle.milnor_basis.specs.Basis.{basis_of}
use Rattle.milnor_basis.specs.Text.{sq_text}
use Rattle.finite_module.specs.Text.{newline, joined_by_plus}

-- `Sq5`
abbrev pub square_text : ℕ → List ℕ
square_text n = codes "Sq" ++ decimal n

-- `Sq5 Sq1`
abbrev pub monomial_text : List ℕ → List ℕ
monomial_text m = join_with_byte 32 (map square_text m)

-- terms with ` + ` between each two, and `0` where there is none
abbrev pub terms_text : List (List ℕ) → List ℕ
terms_text [] = codes "0"
terms_text (term ∷ terms) = joined_by_plus (term ∷ terms)

-- a vector of degree n as a sum of elements of Milnor's basis, in the order of the basis
abbrev pub milnor_text : ℕ → List Bool → List ℕ
milnor_text n v = terms_text (map sq_text (items_where_true v (basis_of n)))

abbrev pub admissible_text : List (List ℕ) → List ℕ
admissible_text monomials = terms_text (map monomial_text monomials)

-- the line of a vector of degree n in Milnor's basis, and that of monomials whose sum it is
abbrev pub product_text : ℕ → List Bool → List (List ℕ) → List ℕ
product_text n v monomials = codes "milnor: "
    ++ (milnor_text n v ++ (newline ++ (codes "admissible: " ++ (admissible_text monomials ++ newline))))
