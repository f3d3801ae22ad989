-- Linear maps from a free module, given by the images of its generators.
use Rattle.std.specs.Prelude.{◌≡◌, ℕ, ◌<◌, ℤ, pos, ◌+ℤ◌, Bool, List, length, map}
use Rattle.f2_vec.specs.Spans.{row, combination}
use Rattle.milnor_basis.specs.Exponents.{degree_of, IsTrimmed}
use Rattle.free_module.specs.FreeModule.{degree_at, free_basis, free_width, free_action}
use Rattle.free_module.specs.Graded.{GradedModule, IsSteenrodModule}

-- the map takes Sq(R) on generator g to Sq(R) on the image of g
abbrev pub image_of : GradedModule → List ℤ → List (List Bool) → ℕ × List ℕ → List Bool
image_of target degrees images e = target.action e.1 (degree_at degrees e.0) (row images e.0)

-- the matrix of the map in degree t: row i is the image of basis element i
abbrev pub map_rows : GradedModule → List ℤ → List (List Bool) → ℤ → List (List Bool)
map_rows target degrees images t = map (image_of target degrees images) (free_basis degrees t)

-- there is one image for each generator, of the target's dimension in its degree
pub record AreImages (target : GradedModule) (degrees : List ℤ) (images : List (List Bool)) : Type 0 where
  pub one_each : length images ≡ length degrees
  pub widths : (g : ℕ) → g < length degrees → length (row images g) ≡ target.width (degree_at degrees g)

-- the map on a vector of degree t
abbrev pub mapped : GradedModule → List ℤ → List (List Bool) → ℤ → List Bool → List Bool
mapped target degrees images t v = combination (target.width t) v (map_rows target degrees images t)

-- A linear map to a module over the Steenrod algebra commutes with each Sq(R): Sq(R) on the image is the image of Sq(R).
abbrev pub MapsCommute : Type 0
MapsCommute = (target : GradedModule) (degrees : List ℤ) (images : List (List Bool)) → IsSteenrodModule target →
    AreImages target degrees images →
    (r : List ℕ) (t : ℤ) (v : List Bool) → IsTrimmed r → length v ≡ free_width degrees t →
    target.action r t (mapped target degrees images t v)
    ≡ mapped target degrees images (t +ℤ pos (degree_of r)) (free_action degrees r t v)
