-- What contracts of private functions cite.
use Rattle.std.specs.Prelude.{◌≡◌, ℕ, ◌≤◌, List, None}
use Rattle.bidegree.specs.declared.range.Range.{Range}
use Rattle.bidegree.specs.declared.shape.Shape.{Shape}
use Rattle.bidegree.specs.declared.class.Class.{Class}
use Rattle.bidegree.specs.LastDegrees.{last_degree}
use Rattle.finite_module.specs.Checked.{sphere_file}
use Rattle.finite_module.specs.DerivedAction.{derived_module}
use Rattle.resolution_laws.specs.Resolution.{Content, IsCanonicalTable}
use Rattle.square.specs.Squares.{module_over}
use Rattle.ext_products.specs.Products.{resolution, first_missing}

-- all squares of the range that are of this shape are there
abbrev pub HasAll : (ℕ → ℕ → Type 0) → Range → Shape → Type 0
HasAll Has range shape = (s k : ℕ) → s ≤ range.s → k ≤ last_degree shape range s → Has s k

-- the sphere has the classes through the range
abbrev pub AreInSphere : Range → List Class → Type 0
AreInSphere range by = (sphere : List (List Content)) →
    IsCanonicalTable (module_over (derived_module sphere_file)) range.s range.t sphere →
    first_missing (resolution (derived_module sphere_file) sphere) by ≡ None
