-- The cochain complex Hom_A(F_s, F2) of a table, whose cohomology is Ext_A(M, F2) as far as the table goes. A cochain of row s in
-- degree t is a linear map of modules over the Steenrod algebra from F_s to F2 in degree t, and its differential is that
-- map after d_(s+1).
use Rattle.std.specs.Prelude.{◌≡◌, ℕ, suc, ◌<◌, ◌≤◌, ℤ, pos, ◌+ℤ◌, Bool, nat_eq, if◌then◌else◌, List, [], ◌∷◌, length, map}
use Rattle.std.specs.List.{filter}
use Rattle.std.specs.Ordering.{int_eq}
use Rattle.f2_vec.specs.Vectors.{zeros}
use Rattle.f2_vec.specs.Spans.{HaveWidth, combination}
use Rattle.milnor_basis.specs.Exponents.{degree_of, IsTrimmed}
use Rattle.free_module.specs.FreeModule.{degree_at, free_width, acted}
use Rattle.free_module.specs.Graded.{GradedModule, free_graded, IsSteenrodModule}
use Rattle.resolution_laws.specs.Resolution.{Module, Content, row_of, generator_count}
use Rattle.resolution_laws.specs.Exactness.{degrees_in, boundary}
use Rattle.resolution_counts.specs.Counts.{IsMinimalTable}

-- a linear map that commutes with each Sq(R): f d is its part from degree d to degree d
pub record IsModuleMap (x y : GradedModule) (f : ℤ → List Bool → List Bool) : Type 0 where
  pub fits : (d : ℤ) (v : List Bool) → length v ≡ x.width d → length (f d v) ≡ y.width d
  pub linear : (d : ℤ) (c : List Bool) (rows : List (List Bool)) → HaveWidth (x.width d) rows →
      f d (combination (x.width d) c rows) ≡ combination (y.width d) c (map (f d) rows)
  pub acts : (r : List ℕ) (d : ℤ) (v : List Bool) → IsTrimmed r → length v ≡ x.width d →
      f (d +ℤ pos (degree_of r)) (x.action r d v) ≡ y.action r d (f d v)

-- the field with two elements, in degree t alone: operations of positive degree are zero on it
abbrev pub field_width : ℤ → ℤ → ℕ
field_width t d = if int_eq d t then 1 else 0

abbrev pub field_in : ℤ → GradedModule
field_in t = record {
  width = field_width t;
  action = λ r d v. if nat_eq (degree_of r) 0 then v else zeros (field_width t (d +ℤ pos (degree_of r)));
}

abbrev pub IsCochain : Module → List (List Content) → ℕ → ℤ → (ℤ → List Bool → List Bool) → Type 0
IsCochain m table s t f = IsModuleMap (free_graded (degrees_in m table s)) (field_in t) f

abbrev pub codifferential : Module → List (List Content) → ℕ → (ℤ → List Bool → List Bool) → ℤ → List Bool → List Bool
codifferential m table s f d v = f d (boundary m table (suc s) d v)

-- In a minimal resolution the differential of each cochain is zero. So each cochain of row s in degree t is a class of
-- Ext^(s,t)(M, F2), and different cochains are different classes.
abbrev pub CochainsHaveZeroDifferential : Type 0
CochainsHaveZeroDifferential = (m : Module) (s t : ℕ) (table : List (List Content)) → IsSteenrodModule m.graded →
    IsMinimalTable m s t table → (i k : ℕ) → i < s → k ≤ t → (f : ℤ → List Bool → List Bool) →
    IsCochain m table i (m.bottom +ℤ pos k) f →
    (d : ℤ) (v : List Bool) → length v ≡ free_width (degrees_in m table (suc i)) d →
    codifferential m table i f d v ≡ zeros (field_width (m.bottom +ℤ pos k) d)

-- ---- how many cochains there are

-- Sq() on generator g, as a vector of its degree
abbrev pub generator_vector : List ℤ → ℕ → List Bool
generator_vector degrees g = acted degrees [] (degree_at degrees g) (g, [])

-- A cochain in degree t of a free module may take each list of values on the generators of degree t, and is determined by them.
-- So the cochains are a vector space of as many dimensions as there are generators of that degree.
pub record AreGivenByValues (degrees : List ℤ) (t : ℤ) : Type 0 where
  pub each : (values : ℕ → Bool) →
      (f : ℤ → List Bool → List Bool) × IsModuleMap (free_graded degrees) (field_in t) f
      × ((g : ℕ) → g < length degrees → degree_at degrees g ≡ t → f t (generator_vector degrees g) ≡ values g ∷ [])
  pub one : (f e : ℤ → List Bool → List Bool) → IsModuleMap (free_graded degrees) (field_in t) f →
      IsModuleMap (free_graded degrees) (field_in t) e →
      ((g : ℕ) → g < length degrees → degree_at degrees g ≡ t →
      f t (generator_vector degrees g) ≡ e t (generator_vector degrees g)) →
      (d : ℤ) (v : List Bool) → length v ≡ free_width degrees d → f d v ≡ e d v

abbrev pub CochainsAreGivenByValues : Type 0
CochainsAreGivenByValues = (degrees : List ℤ) (t : ℤ) → AreGivenByValues degrees t

-- row s of a table has as many generators of the degree of the square (s, k) as that square
abbrev pub GeneratorsAreCounted : Type 0
GeneratorsAreCounted = (m : Module) (table : List (List Content)) (s k : ℕ) → k < length (row_of table s) →
    length (filter (λ d. int_eq d (m.bottom +ℤ pos k)) (degrees_in m table s)) ≡ generator_count table s k
