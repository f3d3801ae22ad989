-- The definitions on tables of two squares a row: F2 through row 1 and one degree above its bottom, the same with a superfluous generator
-- at (1, 0), and the module with Sq1 on its bottom class, with one at (0, 1).
use Rattle.std.proofs.Common.{◌≡◌, ℕ, zero, suc, ℤ, pos, negsuc, Bool, true, false, List, [], ◌∷◌, refl, arith}
use Rattle.std.proofs.lemmas.Bool.{both_ways}
use Rattle.f2_matrix.specs.Reduction.{Reduction}
use Rattle.free_module.specs.FreeModule.{free_basis}
use Rattle.free_module.specs.FreeBasis.{element}
use Rattle.resolution_laws.specs.Resolution.{Module, Content}
use Rattle.resolution_laws.specs.Exactness.{degrees_in}
use Rattle.certificate_laws.specs.Certificates.{CoversAt, HasNoGeneratorTerm}

-- no operation but Sq() is looked at here
abbrev at_identity : List ℕ → ℤ → List Bool → List Bool
at_identity r t v = v

abbrev one_cell : ℤ → ℕ
one_cell (pos zero) = 1
one_cell (pos (suc n)) = 0
one_cell (negsuc n) = 0

abbrev two_cells : ℤ → ℕ
two_cells (pos zero) = 1
two_cells (pos (suc zero)) = 1
two_cells (pos (suc (suc n))) = 0
two_cells (negsuc n) = 0

abbrev point : Module
point = record { bottom = pos 0; graded = record { width = one_cell; action = at_identity } }

abbrev moore : Module
moore = record { bottom = pos 0; graded = record { width = two_cells; action = at_identity } }

abbrev holds : List (List Bool) → List (List Bool) → Content
holds images kernel = record { images = images; kernel = kernel }

abbrev with_image : List (List Bool) → Reduction
with_image image = record { cols = 0; height = 0; image = image; chosen = []; kernel = [] }

-- d(0,0,0) is the class, Sq1 on (0,0,0) goes to zero, and d(1,1,0) is Sq1 on (0,0,0)
abbrev bottom_row : List Content
bottom_row = holds ((true ∷ []) ∷ []) [] ∷ holds [] ((true ∷ []) ∷ []) ∷ []

abbrev minimal_table : List (List Content)
minimal_table = bottom_row ∷ (holds [] [] ∷ holds ((true ∷ []) ∷ []) [] ∷ []) ∷ []

covers_class : CoversAt point minimal_table 0 0 (with_image ((true ∷ []) ∷ []))
covers_class = refl

covers_nothing : CoversAt point minimal_table 0 1 (with_image [])
covers_nothing = refl

covers_kernel : CoversAt point minimal_table 1 1 (with_image ((true ∷ []) ∷ []))
covers_kernel = refl

kernel_at : element (free_basis (degrees_in point minimal_table 0) (pos 1)) 0 ≡ (0, 1 ∷ [])
kernel_at = refl

-- a generator at (1, 0) that goes to zero: its square is exact as before, and its kernel row is the generator
abbrev spare_table : List (List Content)
spare_table = bottom_row ∷ (holds ((false ∷ []) ∷ []) ((true ∷ []) ∷ []) ∷ holds ((true ∷ []) ∷ []) [] ∷ []) ∷ []

spare_covers : CoversAt point spare_table 1 0 (with_image [])
spare_covers = refl

spare_is_told : HasNoGeneratorTerm point spare_table 1 0 → ⊥
spare_is_told clear = both_ways true (clear 0 0 (omega arith) (omega arith) refl) refl

-- a generator at (0, 1) whose image Sq1 on (0,0,0) has already: the kernel row is the sum of both
abbrev double_table : List (List Content)
double_table = (holds ((true ∷ []) ∷ []) [] ∷ holds ((true ∷ []) ∷ []) ((true ∷ true ∷ []) ∷ []) ∷ []) ∷ []

double_covers : CoversAt moore double_table 0 1 (with_image ((true ∷ []) ∷ []))
double_covers = refl

double_is_told : HasNoGeneratorTerm moore double_table 0 1 → ⊥
double_is_told clear = both_ways true (clear 0 1 (omega arith) (omega arith) refl) refl
