-- Squares that are told alike: what the texts say of them is the same.
use Rattle.std.specs.Prelude.{◌≡◌, ℕ, ◌+◌, ◌≤◌, List, map}
use Rattle.std.specs.List.{range_with_len}
use Rattle.bidegree.specs.declared.range.Range.{Range}
use Rattle.bidegree.specs.declared.shape.Shape.TheVariants.{Stems}
use Rattle.bidegree.specs.LastDegrees.{last_degree}
use Rattle.module_spec.specs.Spec.{Generator}
use Rattle.finite_module.specs.Module.{Module as SteenrodModule}
use Rattle.resolution_laws.specs.Resolution.{Module, Content, generator_count}
use Rattle.stem_laws.specs.Stems.{in_stems, IsCanonicalResolution}
use Rattle.square.specs.Squares.{module_over}
use Rattle.ext_chart.specs.Dump.{square_text}

-- the squares of rows 0 to s, each through its last degree, have as many generators in a as in b, and the same lines
pub record AreToldAlike (gs : List Generator) (s : ℕ) (last : ℕ → ℕ) (a b : List (List Content)) : Type 0 where
  pub counts : (i k : ℕ) → i ≤ s → k ≤ last i → generator_count a i k ≡ generator_count b i k
  pub lines : (i k : ℕ) → i ≤ s → k ≤ last i → square_text gs a i k ≡ square_text gs b i k

-- rows 0 to s of a table in stems 0 to n
abbrev pub rows_in_stems : Module → ℕ → ℕ → List (List Content) → List (List Content)
rows_in_stems m s n table = map (in_stems m n table) (range_with_len 0 (s + 1))

-- The images on the edge of these rows are shorter than those of the canonical resolution, and are told as they are.
abbrev pub StemsAreToldAlike : Type 0
StemsAreToldAlike = (m : SteenrodModule) (range : Range) (n : ℕ) (table : List (List Content)) →
    n + range.s ≡ range.t → IsCanonicalResolution (module_over m) range.s range.t table →
    AreToldAlike m.generators range.s (last_degree Stems range) (rows_in_stems (module_over m) range.s n table) table
