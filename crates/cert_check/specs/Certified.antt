-- Which tables certify a range, and why another does not.
use Rattle.std.specs.Prelude.{◌≡◌, ℕ, ◌<◌, ◌≤◌, ℤ, pos, ◌+ℤ◌, List, slice_get, Some, None}
use Rattle.bidegree.specs.declared.range.Range.{Range}
use Rattle.f2_matrix.specs.Reduction.{Reduction}
use Rattle.resolution_laws.specs.Resolution.{Content, IsCanonicalTable}
use Rattle.resolution_laws.specs.Exactness.{IsExactAt, AreNeededAt}
use Rattle.resolution_counts.specs.Counts.{HaveSameCounts}
use Rattle.certificate_laws.specs.Certificates.{IsReductionAt, CoversAt, HasNoGeneratorTerm}
use Rattle.square.specs.Squares.{Placed, over, bottom_of}
use Rattle.square.specs.Tables.{Staircase, row_in, plain_rows, cut}
use Rattle.cert_check.specs.declared.fault.CertFault.{CertFault}
use Rattle.cert_check.specs.declared.fault.CertFault.TheVariants.{Missing, NoQuasi, Inexact, NotMinimal}

-- the contents of the squares of the table that are in the range
abbrev pub part_of : Staircase → Range → List (List Content)
part_of table range = cut range (plain_rows table.rows)

-- The square (s, k) is there, and the reduction is its quasi-inverse: the square has kept it, it is that of the matrix
-- of d_s in the square's degree, and its kernel rows are the square's.
pub record IsQuasiOf (table : Staircase) (range : Range) (s k : ℕ) (reduction : Reduction) : Type 0 where
  pub square : Placed
  pub there : slice_get (row_in table.rows s) k ≡ Some square
  pub kept : square.quasi ≡ Some reduction
  pub is_reduction : IsReductionAt (over table.resolved) (part_of table range) s k reduction
  pub kernel : reduction.kernel ≡ square.content.kernel

-- It is certified: its quasi-inverse's image rows are what d_s has to cover, the unit vectors of the module for row 0
-- and else the kernel rows of the square below, and no kernel row of its own has a coefficient at Sq() on a generator.
pub record IsCertified (table : Staircase) (range : Range) (s k : ℕ) : Type 0 where
  pub reduction : Reduction
  pub quasi : IsQuasiOf table range s k reduction
  pub covers : CoversAt (over table.resolved) (part_of table range) s k reduction
  pub clear : HasNoGeneratorTerm (over table.resolved) (part_of table range) s k

-- The table certifies the range.
abbrev pub Certifies : Staircase → Range → Type 0
Certifies table range = (s k : ℕ) → s ≤ range.s → k ≤ range.t → IsCertified table range s k

-- There is the canonical resolution through the range, and at each square, those of the last row too, the table has as
-- many generators.
pub record HasCanonicalCounts (table : Staircase) (range : Range) : Type 0 where
  pub canonical : List (List Content)
  pub is_canonical : IsCanonicalTable (over table.resolved) range.s range.t canonical
  pub counts : HaveSameCounts range.s range.t (part_of table range) canonical

-- ---- faults

-- The squares of the range before (s, k) are certified: those of the rows below, and those of row s below k.
pub record AreCertifiedBefore (table : Staircase) (range : Range) (s k : ℕ) : Type 0 where
  pub rows : (i j : ℕ) → i < s → j ≤ range.t → IsCertified table range i j
  pub row : (j : ℕ) → j < k → IsCertified table range s j

-- the place that a fault names
abbrev pub row_of_fault : CertFault → ℕ
row_of_fault (Missing s t) = s
row_of_fault (NoQuasi s t) = s
row_of_fault (Inexact s t) = s
row_of_fault (NotMinimal s t) = s

abbrev pub degree_of_fault : CertFault → ℤ
degree_of_fault (Missing s t) = t
degree_of_fault (NoQuasi s t) = t
degree_of_fault (Inexact s t) = t
degree_of_fault (NotMinimal s t) = t

-- a square that is there, and is not exact, or is exact and has a generator that is not needed
pub record IsInexactAt (table : Staircase) (range : Range) (s k : ℕ) : Type 0 where
  pub reduction : Reduction
  pub quasi : IsQuasiOf table range s k reduction
  pub fails : IsExactAt (over table.resolved) (part_of table range) s (bottom_of table.resolved +ℤ pos k) → ⊥

pub record IsSuperfluousAt (table : Staircase) (range : Range) (s k : ℕ) : Type 0 where
  pub reduction : Reduction
  pub quasi : IsQuasiOf table range s k reduction
  pub exact : IsExactAt (over table.resolved) (part_of table range) s (bottom_of table.resolved +ℤ pos k)
  pub fails : AreNeededAt (over table.resolved) (part_of table range) s k → ⊥

-- a square that is there, and has kept no quasi-inverse
pub record HasNoQuasiAt (table : Staircase) (s k : ℕ) : Type 0 where
  pub square : Placed
  pub there : slice_get (row_in table.rows s) k ≡ Some square
  pub none : square.quasi ≡ None

-- what a fault says of the square k degrees above the bottom in its row
abbrev pub IsFaultAt : Staircase → Range → ℕ → CertFault → Type 0
IsFaultAt table range k (Missing s t) = slice_get (row_in table.rows s) k ≡ None
IsFaultAt table range k (NoQuasi s t) = HasNoQuasiAt table s k
IsFaultAt table range k (Inexact s t) = IsInexactAt table range s k
IsFaultAt table range k (NotMinimal s t) = IsSuperfluousAt table range s k

-- The fault is that of the first square of the range, by row and in a row by degree, that is not certified.
pub record IsFirstFault (table : Staircase) (range : Range) (fault : CertFault) : Type 0 where
  pub above : ℕ
  pub degree : degree_of_fault fault ≡ bottom_of table.resolved +ℤ pos above
  pub row : row_of_fault fault ≤ range.s
  pub within : above ≤ range.t
  pub before : AreCertifiedBefore table range (row_of_fault fault) above
  pub is_fault : IsFaultAt table range above fault

-- ---- the law

-- The first fault of a canonical table is that a square has kept no quasi-inverse. So one whose squares have all kept theirs has none.
abbrev pub CanonicalTableLacksQuasisAlone : Type 0
CanonicalTableLacksQuasisAlone = (table : Staircase) (range : Range) (fault : CertFault) →
    IsCanonicalTable (over table.resolved) range.s range.t (part_of table range) → IsFirstFault table range fault →
    (s : ℕ) × (t : ℤ) × (fault ≡ NoQuasi s t)
