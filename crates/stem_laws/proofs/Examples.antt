-- The sphere through row 2 in stem 0, where its classes are 1, h0 and h0^2. The generator h1 of row 1 is of stem 1: so the image of h0^2
-- is cut by its coordinate at h1, and the other images are as they are.
use Rattle.std.proofs.Common.{◌≡◌, zero, suc, ℕ, ℤ, pos, negsuc, Bool, true, false, List, [], ◌∷◌, refl}
use Rattle.free_module.specs.FreeModule.{free_basis}
use Rattle.resolution_laws.specs.Resolution.{Module, Content}
use Rattle.resolution_laws.specs.Exactness.{degrees_in}
use Rattle.stem_laws.specs.Stems.{first_new, in_stems, degrees_in_stems}

-- no operation is looked at here
abbrev at_identity : List ℕ → ℤ → List Bool → List Bool
at_identity r t v = v

abbrev one_cell : ℤ → ℕ
one_cell (pos zero) = 1
one_cell (pos (suc n)) = 0
one_cell (negsuc n) = 0

abbrev point : Module
point = record { bottom = pos 0; graded = record { width = one_cell; action = at_identity } }

abbrev holds : List (List Bool) → List (List Bool) → Content
holds images kernel = record { images = images; kernel = kernel }

-- d(1) is the class of the point, d(h0) = Sq1 1, d(h1) = Sq2 1 and d(h0^2) = Sq1 h0, and Sq1 Sq1 is zero
abbrev table : List (List Content)
table =
    (holds ((true ∷ []) ∷ []) [] ∷ holds [] ((true ∷ []) ∷ []) ∷ holds [] ((true ∷ []) ∷ []) ∷ [])
    ∷ (holds [] [] ∷ holds ((true ∷ []) ∷ []) [] ∷ holds ((true ∷ []) ∷ []) ((true ∷ false ∷ []) ∷ []) ∷ [])
    ∷ (holds [] [] ∷ holds [] [] ∷ holds ((true ∷ false ∷ []) ∷ []) [] ∷ []) ∷ []

-- in degree 2, row 1 has Sq1 h0 and, behind it, h1
basis_of_row : free_basis (degrees_in point table 1) (pos 2) ≡ (0, 1 ∷ []) ∷ (1, []) ∷ []
basis_of_row = refl

place_of_h1 : first_new point table 1 2 ≡ 1
place_of_h1 = refl

unit_row : in_stems point 0 table 0 ≡ holds ((true ∷ []) ∷ []) [] ∷ []
unit_row = refl

row_of_h0 : in_stems point 0 table 1 ≡ holds [] [] ∷ holds ((true ∷ []) ∷ []) [] ∷ []
row_of_h0 = refl

row_of_h0_squared : in_stems point 0 table 2 ≡ holds [] [] ∷ holds [] [] ∷ holds ((true ∷ []) ∷ []) [] ∷ []
row_of_h0_squared = refl

degrees_of_h0 : degrees_in_stems point 0 table 1 3 ≡ pos 1 ∷ []
degrees_of_h0 = refl
