-- Graded modules, and the free ones among them.
use Rattle.std.specs.Prelude.{◌≡◌, ℕ, ◌+◌, ℤ, pos, ◌+ℤ◌, Bool, List, [], length, map}
use Rattle.f2_vec.specs.Spans.{HaveWidth, combination}
use Rattle.milnor_basis.specs.Exponents.{degree_of, IsTrimmed}
use Rattle.milnor_basis.specs.Basis.{basis_of}
use Rattle.milnor_basis.specs.Product.{product_bits}
use Rattle.free_module.specs.FreeModule.{free_width, free_action}

-- what is given of a graded module: its dimension in each degree, and Sq(R) on vectors of a degree (that Sq(R) is linear
-- and that products act rightly is not asked here)
pub record GradedModule : Type 0 where
  pub width : ℤ → ℕ
  pub action : List ℕ → ℤ → List Bool → List Bool

-- the free module on generators of these degrees
abbrev pub free_graded : List ℤ → GradedModule
free_graded degrees = record { width = free_width degrees; action = free_action degrees }

-- Sq() acts as the identity
abbrev pub HasUnit : GradedModule → Type 0
HasUnit m = (t : ℤ) (v : List Bool) → length v ≡ m.width t → m.action [] t v ≡ v

-- Sq(R) takes a vector of degree t to one of degree t and R's
abbrev pub KeepsWidths : GradedModule → Type 0
KeepsWidths m = (r : List ℕ) (t : ℤ) (v : List Bool) → length v ≡ m.width t →
    length (m.action r t v) ≡ m.width (t +ℤ pos (degree_of r))

-- Sq(R) on a sum of vectors is the sum of Sq(R) on them
abbrev pub IsLinear : GradedModule → Type 0
IsLinear m = (r : List ℕ) (t : ℤ) (c : List Bool) (rows : List (List Bool)) → HaveWidth (m.width t) rows →
    m.action r t (combination (m.width t) c rows)
    ≡ combination (m.width (t +ℤ pos (degree_of r))) c (map (m.action r t) rows)

-- Sq(R) on Sq(S) is their product: the sum of Sq(Q) over the elements Sq(Q) that Sq(R) Sq(S) has
abbrev pub ActsByProducts : GradedModule → Type 0
ActsByProducts m = (r s : List ℕ) (t : ℤ) (v : List Bool) → IsTrimmed r → IsTrimmed s → length v ≡ m.width t →
    m.action r (t +ℤ pos (degree_of s)) (m.action s t v) ≡ combination (m.width (t +ℤ pos (degree_of r + degree_of s)))
    (product_bits r s) (map (λ q. m.action q t v) (basis_of (degree_of r + degree_of s)))

-- a graded module over the Steenrod algebra
pub record IsSteenrodModule (m : GradedModule) : Type 0 where
  pub unit : HasUnit m
  pub widths : KeepsWidths m
  pub linear : IsLinear m
  pub products : ActsByProducts m

abbrev pub FreeModulesAreModules : Type 0
FreeModulesAreModules = (degrees : List ℤ) → IsSteenrodModule (free_graded degrees)
