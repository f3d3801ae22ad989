-- That a table is a complex, exact and minimal.
use Rattle.std.specs.Prelude.{◌≡◌, ℕ, zero, suc, ◌+◌, ◌<◌, ◌≤◌, ◌↔◌, ℤ, pos, ◌+ℤ◌, ◌<ℤ◌, Bool, false, List, [], length}
use Rattle.f2_vec.specs.Vectors.{bit, zeros}
use Rattle.f2_vec.specs.Spans.{row, HaveWidth, combination, IsInSpan, IsInKernel}
use Rattle.milnor_basis.specs.Exponents.{degree_of, IsTrimmed}
use Rattle.free_module.specs.FreeModule.{free_basis, free_width}
use Rattle.free_module.specs.FreeBasis.{element}
use Rattle.free_module.specs.Graded.{GradedModule, free_graded, IsSteenrodModule}
use Rattle.free_module.specs.LinearMap.{map_rows, mapped}
use Rattle.resolution_laws.specs.Resolution.{Module, Content, degrees_from, images_of, square_in, row_of, IsCanonicalTable}

-- ---- the complex of a table: free modules F_0, F_1, .. on the generators of its rows, and d_s from F_s to F_(s-1), or to
-- the module

abbrev pub degrees_in : Module → List (List Content) → ℕ → List ℤ
degrees_in m table s = degrees_from m.bottom (row_of table s)

abbrev pub target_of : Module → List (List Content) → ℕ → GradedModule
target_of m table zero = m.graded
target_of m table (suc s) = free_graded (degrees_in m table s)

-- the matrix of d_s in degree t, and d_s on a vector of degree t
abbrev pub differential : Module → List (List Content) → ℕ → ℤ → List (List Bool)
differential m table s t = map_rows (target_of m table s) (degrees_in m table s) (images_of (row_of table s)) t

abbrev pub boundary : Module → List (List Content) → ℕ → ℤ → List Bool → List Bool
boundary m table s t v = mapped (target_of m table s) (degrees_in m table s) (images_of (row_of table s)) t v

-- the table has the squares of the range, and no more in its rows; the images of a square are vectors of the target of d_s, in
-- the square's degree
pub record IsTable (m : Module) (s t : ℕ) (table : List (List Content)) : Type 0 where
  pub squares : (i : ℕ) → i ≤ s → length (row_of table i) ≡ t + 1
  pub widths : (i k : ℕ) → i ≤ s → k ≤ t →
      HaveWidth ((target_of m table i).width (m.bottom +ℤ pos k)) (square_in (row_of table i) k).images

-- d d = 0
abbrev pub IsComplexAt : Module → List (List Content) → ℕ → ℤ → Type 0
IsComplexAt m table s t = (v : List Bool) → length v ≡ free_width (degrees_in m table (suc s)) t →
    boundary m table s t (boundary m table (suc s) t v) ≡ zeros ((target_of m table s).width t)

-- the kernel of d_(s-1) in degree t is the span of d_s, and for s = 0 all of the module is
abbrev pub IsExactAt : Module → List (List Content) → ℕ → ℤ → Type 0
IsExactAt m table zero t = (v : List Bool) → length v ≡ m.graded.width t →
    IsInSpan (m.graded.width t) (differential m table zero t) v
IsExactAt m table (suc s) t = (v : List Bool) →
    IsInKernel ((target_of m table s).width t) (differential m table s t) v
    ↔ IsInSpan (free_width (degrees_in m table s) t) (differential m table (suc s) t) v

-- ---- minimality

-- v, of degree t, is Sq(R) on a vector, with R of positive degree
pub record IsOperatedOn (m : GradedModule) (t : ℤ) (v : List Bool) : Type 0 where
  pub r : List ℕ
  pub degree : ℤ
  pub vector : List Bool
  pub trimmed : IsTrimmed r
  pub positive : 0 < degree_of r
  pub degrees_add : degree +ℤ pos (degree_of r) ≡ t
  pub fits : length vector ≡ m.width degree
  pub is_value : v ≡ m.action r degree vector

-- v is a sum of such
pub record IsDecomposable (m : GradedModule) (t : ℤ) (v : List Bool) : Type 0 where
  pub terms : List (List Bool)
  pub each : (i : ℕ) → i < length terms → IsOperatedOn m t (row terms i)
  pub is_sum : IsInSpan (m.width t) terms v

-- The new generators at (s, k) are needed: for s = 0 no sum of their images but zero is decomposable, and else no image has a
-- term without an operation, which is Sq() on a generator.
abbrev pub IsMinimalAt : Module → List (List Content) → ℕ → ℕ → Type 0
IsMinimalAt m table zero k =
    let images = (square_in (row_of table zero) k).images in
    let t = m.bottom +ℤ pos k in
    (c : List Bool) → length c ≡ length images → IsDecomposable m.graded t (combination (m.graded.width t) c images) →
    c ≡ zeros (length images)
IsMinimalAt m table (suc s) k =
    let images = (square_in (row_of table (suc s)) k).images in
    let basis = free_basis (degrees_in m table s) (m.bottom +ℤ pos k) in
    (i j : ℕ) → i < length images → j < length basis → (element basis j).1 ≡ [] → bit (row images i) j ≡ false

-- The generators of the square (s, k) are needed: no relation has a coefficient at Sq() on one of them, that is, no vector of
-- the kernel of d_s in the square's degree has a term without an operation. So none of them can be left out. Of a row
-- that has another above it this is minimality there; of the last row minimality does not say it.
abbrev pub AreNeededAt : Module → List (List Content) → ℕ → ℕ → Type 0
AreNeededAt m table s k =
    let u = m.bottom +ℤ pos k in
    let basis = free_basis (degrees_in m table s) u in
    (v : List Bool) → IsInKernel ((target_of m table s).width u) (differential m table s u) v → (j : ℕ) →
    j < length basis → (element basis j).1 ≡ [] → bit v j ≡ false

-- ---- the laws

-- nothing is below the bottom
abbrev pub IsBoundedBelow : Module → Type 0
IsBoundedBelow m = (t : ℤ) → t <ℤ m.bottom → m.graded.width t ≡ 0

pub record IsMinimalResolution (m : Module) (s t : ℕ) (table : List (List Content)) : Type 0 where
  pub is_table : IsTable m s t table
  pub complex : (i : ℕ) (degree : ℤ) → i < s → IsComplexAt m table i degree
  pub exact : (i k : ℕ) → i ≤ s → k ≤ t → IsExactAt m table i (m.bottom +ℤ pos k)
  pub minimal : (i k : ℕ) → i ≤ s → k ≤ t → IsMinimalAt m table i k
  pub needed : (i k : ℕ) → i ≤ s → k ≤ t → AreNeededAt m table i k
  pub late : (i k : ℕ) → i ≤ s → k < i → (square_in (row_of table i) k).images ≡ []

-- The canonical resolution of a module over the Steenrod algebra is exact and minimal, each of its generators is needed, those
-- of its last row too, and it has no generator of row s in degrees below s above the bottom.
abbrev pub CanonicalTableIsMinimalResolution : Type 0
CanonicalTableIsMinimalResolution = (m : Module) (s t : ℕ) (table : List (List Content)) → IsSteenrodModule m.graded →
    IsBoundedBelow m → IsCanonicalTable m s t table → IsMinimalResolution m s t table
