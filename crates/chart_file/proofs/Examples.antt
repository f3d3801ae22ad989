-- The sphere through row 2 and degree 2, column by column, byte by byte. The generators are those of the module and, one in each
-- square, h0 in row 1 and degree 1, h1 in row 1 and degree 2, and the square of h0 in row 2 and degree 2. The image of each is
-- the one operation of its degree on the generator that it goes to.
use Rattle.std.proofs.Common.{◌≡◌, ℕ, true, List, [], ◌∷◌, ◌++◌, refl}
use Rattle.f2_vec.specs.Bytes.{packed}
use Rattle.chart_file.specs.Parts.{Bare, Part, part_bytes}

-- no generator, where there is nothing to go to, and one, where there is one coordinate
abbrev none : Bare
none = record { width = 0; images = [] }

abbrev one : Bare
one = record { width = 1; images = (true ∷ []) ∷ [] }

abbrev column : ℕ → List Bare → Part
column above squares = record { above = above; first = 0; squares = squares }

abbrev sixteen : ℕ → ℕ → List ℕ
sixteen count width = 0 ∷ 0 ∷ 0 ∷ 0 ∷ 0 ∷ 0 ∷ 0 ∷ count ∷ 0 ∷ 0 ∷ 0 ∷ 0 ∷ 0 ∷ 0 ∷ 0 ∷ width ∷ []

degree_0 : part_bytes (column 0 (one ∷ none ∷ none ∷ [])) ≡ 1 ∷ 0 ∷ 0 ∷ 0 ∷ 0 ∷ (sixteen 1 1 ++ 1 ∷ sixteen 0 0 ++ sixteen 0 0)
unfolding packed
degree_0 = refl

degree_1 : part_bytes (column 1 (none ∷ one ∷ none ∷ [])) ≡ 1 ∷ 0 ∷ 1 ∷ 0 ∷ 0 ∷ (sixteen 0 0 ++ sixteen 1 1 ++ 1 ∷ sixteen 0 0)
unfolding packed
degree_1 = refl

degree_2 : part_bytes (column 2 (none ∷ one ∷ one ∷ [])) ≡ 1 ∷ 0 ∷ 2 ∷ 0 ∷ 0 ∷ (sixteen 0 0 ++ sixteen 1 1 ++ 1 ∷ (sixteen 1 1 ++ 1 ∷ []))
unfolding packed
degree_2 = refl

-- rows 1 and 2 of the last column alone, as in stems 0 and 1
edge : part_bytes (record { above = 2; first = 1; squares = one ∷ one ∷ [] }) ≡ 1 ∷ 0 ∷ 2 ∷ 0 ∷ 1 ∷ (sixteen 1 1 ++ 1 ∷ (sixteen 1 1 ++ 1 ∷ []))
unfolding packed
edge = refl
