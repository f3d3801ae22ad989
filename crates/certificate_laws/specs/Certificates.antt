-- A certificate: with each square of a table the reduction of its matrix. By comparing rows it tells that the table is
-- a minimal resolution, and nothing need be reduced for that.
use Rattle.std.specs.Prelude.{◌≡◌, ℕ, suc, ◌+◌, ◌<◌, ◌≤◌, ◌↔◌, pos, ◌+ℤ◌, false, List, [], length}
use Rattle.f2_vec.specs.Vectors.{bit}
use Rattle.f2_vec.specs.Spans.{row}
use Rattle.f2_matrix.specs.Echelon.{IsKernelBasis}
use Rattle.f2_matrix.specs.Reduction.{Reduction, IsReductionOf}
use Rattle.free_module.specs.FreeModule.{free_basis}
use Rattle.free_module.specs.FreeBasis.{element}
use Rattle.free_module.specs.Graded.{IsSteenrodModule}
use Rattle.resolution_laws.specs.Resolution.{Module, Content, square_in, row_of, below_of, candidates_over, generator_count, IsCanonicalTable}
use Rattle.resolution_laws.specs.Exactness.{degrees_in, target_of, differential, IsTable, IsExactAt, AreNeededAt, IsBoundedBelow, IsMinimalResolution}
use Rattle.resolution_counts.specs.Counts.{IsMinimalTable, HaveSameCounts}

-- ---- one square

-- The reduction is that of the matrix of d_s in the degree of the square (s, k).
abbrev pub IsReductionAt : Module → List (List Content) → ℕ → ℕ → Reduction → Type 0
IsReductionAt m table s k reduction =
    let u = m.bottom +ℤ pos k in
    IsReductionOf ((target_of m table s).width u) (differential m table s u) reduction

-- The kernel rows of the square are the reduced basis of the kernel of d_s in its degree.
abbrev pub HasKernelAt : Module → List (List Content) → ℕ → ℕ → Type 0
HasKernelAt m table s k =
    let u = m.bottom +ℤ pos k in
    IsKernelBasis ((target_of m table s).width u) (differential m table s u) (square_in (row_of table s) k).kernel

-- The image rows of the reduction are what d_s has to cover: the unit vectors of the module for row 0, and else the
-- kernel rows of the square below.
abbrev pub CoversAt : Module → List (List Content) → ℕ → ℕ → Reduction → Type 0
CoversAt m table s k reduction = reduction.image ≡ candidates_over m (below_of table s k) k

-- No kernel row of the square has a coefficient at Sq() on a generator.
abbrev pub HasNoGeneratorTerm : Module → List (List Content) → ℕ → ℕ → Type 0
HasNoGeneratorTerm m table s k =
    let kernel = (square_in (row_of table s) k).kernel in
    let basis = free_basis (degrees_in m table s) (m.bottom +ℤ pos k) in
    (i j : ℕ) → i < length kernel → j < length basis → (element basis j).1 ≡ [] → bit (row kernel i) j ≡ false

-- The square has a certificate: a reduction of its matrix, with the square's kernel rows, that covers what it has to,
-- and no generator stands in a kernel row.
pub record IsCertifiedAt (m : Module) (table : List (List Content)) (s k : ℕ) : Type 0 where
  pub reduction : Reduction
  pub is_reduction : IsReductionAt m table s k reduction
  pub kernel : reduction.kernel ≡ (square_in (row_of table s) k).kernel
  pub covers : CoversAt m table s k reduction
  pub clear : HasNoGeneratorTerm m table s k

-- ---- the laws

-- To compare the image rows decides exactness at the square, where the one below has its kernel rows: a span and a
-- kernel have one reduced basis.
abbrev pub RowsDecideExactness : Type 0
RowsDecideExactness = (m : Module) (table : List (List Content)) (s k : ℕ) (reduction : Reduction) →
    IsReductionAt m table s k reduction → ((i : ℕ) → suc i ≡ s → HasKernelAt m table i k) →
    CoversAt m table s k reduction ↔ IsExactAt m table s (m.bottom +ℤ pos k)

-- To look at the kernel rows decides whether each generator of the square is needed: they span the kernel.
abbrev pub RowsDecideNeed : Type 0
RowsDecideNeed = (m : Module) (table : List (List Content)) (s k : ℕ) → HasKernelAt m table s k →
    HasNoGeneratorTerm m table s k ↔ AreNeededAt m table s k

-- In the basis of F_s in the degree of the square, the elements Sq() on a generator are those on the square's own
-- generators, and they stand last.
abbrev pub GeneratorsStandLast : Type 0
GeneratorsStandLast = (m : Module) (table : List (List Content)) (s k : ℕ) → k < length (row_of table s) →
    let basis = free_basis (degrees_in m table s) (m.bottom +ℤ pos k) in
    (j : ℕ) → j < length basis → ((element basis j).1 ≡ []) ↔ (length basis ≤ j + generator_count table s k)

-- A table each square of which has a certificate is exact, and its generators are needed.
abbrev pub CertifiedTableIsMinimal : Type 0
CertifiedTableIsMinimal = (m : Module) (s t : ℕ) (table : List (List Content)) → IsTable m s t table →
    ((i k : ℕ) → i ≤ s → k ≤ t → IsCertifiedAt m table i k) → IsMinimalTable m s t table

-- Such a table is a minimal resolution,
abbrev pub MinimalTableIsMinimalResolution : Type 0
MinimalTableIsMinimalResolution = (m : Module) (s t : ℕ) (table : List (List Content)) → IsSteenrodModule m.graded →
    IsBoundedBelow m → IsMinimalTable m s t table → IsMinimalResolution m s t table

-- with as many generators as the canonical one at each square, those of the last row too.
abbrev pub MinimalTableHasCanonicalCounts : Type 0
MinimalTableHasCanonicalCounts = (m : Module) (s t : ℕ) (table canonical : List (List Content)) →
    IsSteenrodModule m.graded → IsBoundedBelow m → IsMinimalTable m s t table → IsCanonicalTable m s t canonical →
    HaveSameCounts s t table canonical
