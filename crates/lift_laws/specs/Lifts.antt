-- Lifts of cohomology classes to chain maps between minimal resolutions (Adams, Stable homotopy and generalised homology,
-- part III; Bruner, Calculation of large Ext modules).
use Rattle.std.specs.Prelude.{◌≡◌, ℕ, suc, ◌+◌, ◌<◌, ◌≤◌, ℤ, pos, ◌+ℤ◌, ◌-ℤ◌, ◌≤ℤ◌, Bool, true, nat_eq, if◌then◌else◌, List, [], ◌∷◌, length}
use Rattle.f2_vec.specs.Vectors.{zeros}
use Rattle.f2_vec.specs.Spans.{row}
use Rattle.free_module.specs.FreeModule.{degree_at}
use Rattle.free_module.specs.Graded.{GradedModule, free_graded, IsSteenrodModule}
use Rattle.resolution_laws.specs.Resolution.{Module, Content, images_of, row_of, IsCanonicalTable}
use Rattle.resolution_laws.specs.Exactness.{degrees_in, boundary, IsBoundedBelow}
use Rattle.lift_laws.specs.Maps.{shifted, extended, FitThrough, IsMap}

-- a module, and a table of squares of its resolution
pub record Resolution : Type 0 where
  pub base : Module
  pub table : List (List Content)

-- it is the canonical one through row s and degree bottom + t, of a module over the Steenrod algebra
pub record IsCanonical (r : Resolution) (s t : ℕ) : Type 0 where
  pub steenrod : IsSteenrodModule r.base.graded
  pub bounded : IsBoundedBelow r.base
  pub canonical : IsCanonicalTable r.base s t r.table

-- the module that is resolved is the field with two elements, in degree 0
pub record IsSphere (q : Resolution) : Type 0 where
  pub bottom : q.base.bottom ≡ pos 0
  pub one : q.base.graded.width (pos 0) ≡ 1
  pub none : (t : ℤ) → (t ≡ pos 0 → ⊥) → q.base.graded.width t ≡ 0

-- ---- its free modules F_i: the degrees of the generators, and the value of d_i on generator g and on a vector of degree t

abbrev pub gens : Resolution → ℕ → List ℤ
gens r i = degrees_in r.base r.table i

abbrev pub degree : Resolution → ℕ → ℕ → ℤ
degree r i g = degree_at (gens r i) g

abbrev pub free : Resolution → ℕ → GradedModule
free r i = free_graded (gens r i)

abbrev pub image : Resolution → ℕ → ℕ → List Bool
image r i g = row (images_of (row_of r.table i)) g

abbrev pub d : Resolution → ℕ → ℤ → List Bool → List Bool
d r i t v = boundary r.base r.table i t v

-- the map from F_i of r to F_k of q that lowers degrees by x and takes generator g to f g, on a vector of degree t
abbrev pub lowered : Resolution → ℕ → Resolution → ℕ → ℤ → (ℕ → List Bool) → ℤ → List Bool → List Bool
lowered r i q k x f t v = extended (shifted x (free q k)) (gens r i) f t v

-- ---- lifts

-- Maps phi k from F_(s+k) of r to F_k of q, for k through upto, by their values on generators. They lower degrees by x and
-- commute with d, and d_0 after phi 0 takes generator g to z g: they lift the cochain z. All is asked on generators of
-- degree at most top.
pub record IsLift (r q : Resolution) (s : ℕ) (x : ℤ) (z : ℕ → List Bool) (upto : ℕ) (top : ℤ) (phi : ℕ → ℕ → List Bool)
    : Type 0 where
  pub fit : (k i : ℕ) → k ≤ upto → i ≡ s + k → FitThrough (shifted x (free q k)) (gens r i) top (phi k)
  pub start : (g : ℕ) → g < length (gens r s) → degree r s g ≤ℤ top → d q 0 (degree r s g -ℤ x) (phi 0 g) ≡ z g
  pub commutes : (k i j : ℕ) → k < upto → j ≡ s + k → i ≡ suc j → (g : ℕ) → g < length (gens r i) →
      degree r i g ≤ℤ top →
      d q (suc k) (degree r i g -ℤ x) (phi (suc k) g) ≡ lowered r j q k x (phi k) (degree r i g) (image r i g)

-- the class of generator n: 1 on it and 0 on the others of row s, where n is of degree x
abbrev pub dual_of : Resolution → Resolution → ℕ → ℤ → ℕ → ℕ → List Bool
dual_of r q s x n g = if nat_eq g n then true ∷ [] else zeros (q.base.graded.width (degree r s g -ℤ x))

-- ---- the laws

pub record HasLift (r q : Resolution) (s : ℕ) (x : ℤ) (z : ℕ → List Bool) (upto : ℕ) (top : ℤ) : Type 0 where
  pub phi : ℕ → ℕ → List Bool
  pub is_lift : IsLift r q s x z upto top phi

-- Each class has a lift to the resolution of the sphere, as far as the two tables go.
abbrev pub EachClassLifts : Type 0
EachClassLifts =
    (r q : Resolution) (rs rt qs qt s m : ℕ) (x : ℤ) (upto : ℕ) (top : ℤ) →
    IsCanonical r rs rt → IsCanonical q qs qt → IsSphere q → s + upto ≤ rs → upto ≤ qs →
    (top -ℤ x) ≤ℤ (q.base.bottom +ℤ pos qt) →
    m < length (gens r s) → degree r s m ≡ x → HasLift r q s x (dual_of r q s x m) upto top

-- a chain map on all elements: maps of modules over the Steenrod algebra that commute with d on each vector
pub record IsChainMap (r q : Resolution) (s : ℕ) (x : ℤ) (upto : ℕ) (top : ℤ) (phi : ℕ → ℕ → List Bool) : Type 0 where
  pub maps : (k i : ℕ) → k ≤ upto → i ≡ s + k → IsMap top (free r i) (shifted x (free q k)) (lowered r i q k x (phi k))
  pub commutes : (k i j : ℕ) → k < upto → j ≡ s + k → i ≡ suc j → (t : ℤ) (v : List Bool) → t ≤ℤ top →
      d q (suc k) (t -ℤ x) (lowered r i q (suc k) x (phi (suc k)) t v) ≡ lowered r j q k x (phi k) t (d r i t v)

-- In rows from + 1 through from + rows, d takes each generator of degree at most top to a vector of the free module below, in the
-- generator's degree.
pub record HasImages (r : Resolution) (from rows : ℕ) (top : ℤ) : Type 0 where
  pub widths : (i j : ℕ) → from ≤ j → j < from + rows → i ≡ suc j → FitThrough (free r j) (gens r i) top (image r i)

-- A lift, which is given by its values on generators, is one, whatever else the two tables hold.
abbrev pub LiftsAreChainMaps : Type 0
LiftsAreChainMaps =
    (r q : Resolution) (s : ℕ) (x : ℤ) (z : ℕ → List Bool) (upto : ℕ) (top : ℤ) (phi : ℕ → ℕ → List Bool) →
    HasImages r s upto top → HasImages q 0 upto (top -ℤ x) → IsLift r q s x z upto top phi →
    IsChainMap r q s x upto top phi

-- A canonical table has such images, in all degrees.
abbrev pub CanonicalTablesHaveImages : Type 0
CanonicalTablesHaveImages = (r : Resolution) (s t from rows : ℕ) (top : ℤ) → IsCanonicalTable r.base s t r.table →
    from + rows ≤ s → HasImages r from rows top
