-- Products, multiples and actions in low degrees, computed by hand, by the definitions. The bases in order: of degree 2 (2); of 3 (3), (0,1); of 4
-- (4), (1,1); of 5 (5), (2,1).
use Rattle.std.proofs.Common.{◌≡◌, pos, Bool, true, false, List, [], ◌∷◌, refl}
use Rattle.milnor_basis.specs.Product.{product_bits}
use Rattle.milnor_product.specs.Times.{times_at}
use Rattle.free_module.specs.FreeModule.{free_basis, free_action}
use Rattle.free_module.specs.Graded.{free_graded}
use Rattle.free_module.specs.LinearMap.{map_rows, mapped}

-- ---- Sq(R) times Sq(S)

one_two : product_bits (1 ∷ []) (2 ∷ []) ≡ true ∷ false ∷ []
one_two = refl

three_one : product_bits (3 ∷ []) (1 ∷ []) ≡ false ∷ true ∷ []
three_one = refl

second_one : product_bits (0 ∷ 1 ∷ []) (1 ∷ []) ≡ false ∷ true ∷ []
second_one = refl

three_two : product_bits (3 ∷ []) (2 ∷ []) ≡ false ∷ false ∷ []
three_two = refl

second_two : product_bits (0 ∷ 1 ∷ []) (2 ∷ []) ≡ false ∷ true ∷ []
second_two = refl

-- ---- Sq(R) times a sum

one_on_two : times_at (1 ∷ []) (pos 2) (true ∷ []) ≡ true ∷ false ∷ []
one_on_two = refl

one_on_both : times_at (1 ∷ []) (pos 3) (true ∷ true ∷ []) ≡ false ∷ true ∷ []
one_on_both = refl

two_on_first : times_at (2 ∷ []) (pos 3) (true ∷ false ∷ []) ≡ false ∷ true ∷ []
two_on_first = refl

two_on_second : times_at (2 ∷ []) (pos 3) (false ∷ true ∷ []) ≡ false ∷ true ∷ []
two_on_second = refl

two_on_none : times_at (2 ∷ []) (pos 3) (false ∷ false ∷ []) ≡ false ∷ false ∷ []
two_on_none = refl

-- ---- the free module on generators of degrees 0 and 2

basis_of_three : free_basis (pos 0 ∷ pos 2 ∷ []) (pos 3) ≡ (0, 3 ∷ []) ∷ (0, 0 ∷ 1 ∷ []) ∷ (1, 1 ∷ []) ∷ []
basis_of_three = refl

-- on Sq(2) of the first generator and the second
unit_acts : free_action (pos 0 ∷ pos 2 ∷ []) [] (pos 2) (true ∷ true ∷ []) ≡ true ∷ true ∷ []
unit_acts = refl

one_acts : free_action (pos 0 ∷ pos 2 ∷ []) (1 ∷ []) (pos 2) (true ∷ true ∷ []) ≡ true ∷ false ∷ true ∷ []
one_acts = refl

-- ---- the map that takes generators of degrees 1 and 2 to Sq(1) and Sq(2) on one of degree 0, in degree 4

abbrev rows : List (List Bool)
rows = map_rows (free_graded (pos 0 ∷ [])) (pos 1 ∷ pos 2 ∷ []) ((true ∷ []) ∷ (true ∷ []) ∷ []) (pos 4)

matrix : rows ≡ (false ∷ true ∷ []) ∷ (false ∷ true ∷ []) ∷ (false ∷ true ∷ []) ∷ []
matrix = refl

abbrev value : List Bool → List Bool
value v = mapped (free_graded (pos 0 ∷ [])) (pos 1 ∷ pos 2 ∷ []) ((true ∷ []) ∷ (true ∷ []) ∷ []) (pos 4) v

of_first : value (true ∷ false ∷ false ∷ []) ≡ false ∷ true ∷ []
of_first = refl

of_second : value (false ∷ true ∷ false ∷ []) ≡ false ∷ true ∷ []
of_second = refl

of_all : value (true ∷ true ∷ true ∷ []) ≡ false ∷ true ∷ []
of_all = refl

of_none : value (false ∷ false ∷ false ∷ []) ≡ false ∷ false ∷ []
of_none = refl
