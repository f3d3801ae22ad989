-- The canonical text of a module: a line for each generator, and one for each Sq^n of a generator, n a power of two,
-- that is not zero.
use Rattle.std.specs.Prelude.{ℕ, ℤ, pos, ◌+ℤ◌, Bool, if◌then◌else◌, List, [], ◌∷◌, ◌++◌, length, map, codes, decimal, slice_index_or}
use Rattle.std.specs.Fmt.{signed_decimal}
use Rattle.std.specs.List.{flat_map, range_with_len, items_where_true, list_any}
use Rattle.module_spec.specs.Spec.{Generator, degree_at, no_generator, powers}
use Rattle.finite_module.specs.Module.{Module, generators_in, value}

abbrev pub newline : List ℕ
newline = 10 ∷ []

abbrev pub name_at : List Generator → ℕ → List ℕ
name_at gs i = (slice_index_or gs i no_generator).name

-- `gen x0 0`
abbrev pub generator_line : Generator → List ℕ
generator_line g = codes "gen " ++ (g.name ++ (codes " " ++ (signed_decimal g.degree ++ newline)))

-- texts with ` + ` between each two
abbrev pub joined_by_plus : List (List ℕ) → List ℕ
joined_by_plus [] = []
joined_by_plus (x ∷ []) = x
joined_by_plus (x ∷ y ∷ rest) = x ++ (codes " + " ++ joined_by_plus (y ∷ rest))

-- the names of the generators of a vector of degree t
abbrev pub sum_text : List Generator → ℤ → List Bool → List ℕ
sum_text gs t v = joined_by_plus (map (name_at gs) (items_where_true v (generators_in gs t)))

-- `Sq2 x0 = x2`, and nothing where the value is zero
abbrev pub square_line : Module → ℕ → ℕ → List ℕ
square_line m i n =
    let v = value m.generators m.operators (n ∷ []) i in
    if list_any (λ b. b) v
    then codes "Sq"
    ++ (decimal n
    ++ (codes " "
    ++ (name_at m.generators i
    ++ (codes " = " ++ (sum_text m.generators (degree_at m.generators i +ℤ pos n) v ++ newline)))))
    else []

abbrev pub canonical_text : Module → List ℕ
canonical_text m = flat_map generator_line m.generators
    ++ flat_map (λ i. flat_map (square_line m i) powers) (range_with_len 0 (length m.generators))
