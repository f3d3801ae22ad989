-- The tables of starts: their shape, and that of a canonical start is the canonical resolution.
use Rattle.std.proofs.Common.{◌≡◌, ℕ, zero, suc, ◌<◌, ◌≤◌, List, [], take, Option, Some, None, MatchOption, refl, sym, ap, subst, arith}
use Rattle.f2_matrix.specs.Echelon.{KernelBasisIsUnique}
use Rattle.resolution_laws.specs.Resolution.{Module, Content, square_in, row_of, below_of, IsStep, IsCanonicalTable}
use Rattle.resolution_laws.specs.Start.{Entry, entry_at, HasShape, squares_below, row_below, IsOf, is_of, IsCanonicalStart, StartTableHasShape, CanonicalStartIsCanonical, EmptyStartIsCanonical}
use Rattle.resolution_laws.proofs.Shapes.{content_shape}
use Rattle.resolution_laws.proofs.StartLaws.{content_is_unique, squares_below-same, squares_below-take, row_below-same, canonical_from_contents, canonical_content}

-- ---- the shape, over whatever squares of the table

pub start_table_shape : KernelBasisIsUnique → StartTableHasShape
start_table_shape kernels m start s k at c p q =
    let shaped = content_shape kernels m start s k c q in
    let o = shaped.over in
    let left : squares_below o.at s k ≡ squares_below at s k = squares_below-same o.at at s k (λ j l. content_is_unique kernels m start s j (o.at s j) (at s j) (o.before j l) (p.before j l)) in
    let under : row_below o.at s k ≡ row_below at s k = row_below-same o.at at s k (λ i j e l. content_is_unique kernels m start i j (o.at i j) (at i j) (o.below i j e l) (p.below i j e l)) in
    let P : List Content → Type 0 = λ x. HasShape m (row_below o.at s k) x c in
    let Q : Option (List Content) → Type 0 = λ x. HasShape m x (squares_below at s k) c in
    subst Q under (subst P left shaped.shape)

-- ---- a canonical start

-- the content of the empty start's table at a place, over squares of the table of a canonical start
started_here : KernelBasisIsUnique → (m : Module) (s k : ℕ) (at : ℕ → ℕ → Content) (found : Option Content) (c : Content) → ((read : Content) → found ≡ Some read → IsOf m [] s k read) → IsOf m [] s k c → HasShape m (row_below at s k) (squares_below at s k) c → IsStep m (row_below at s k) (squares_below at s k) c
    → MatchOption found (IsStep m (row_below at s k) (squares_below at s k) c) (λ read. (c ≡ read) × HasShape m (row_below at s k) (squares_below at s k) c)
started_here kernels m s k at None c reads is shape step = step
started_here kernels m s k at (Some read) c reads is shape step = (content_is_unique kernels m [] s k c read is (reads read refl), shape)

started_content : KernelBasisIsUnique → (m : Module) (start : List Entry) → IsCanonicalStart m start → (s k : ℕ) (c : Content) → IsOf m [] s k c → IsOf m start s k c
started_content kernels m start reads s k c (is_of _ _ at _ before below here) =
    let is : IsOf m [] s k c = is_of s k at c before below here in
    let shape = start_table_shape kernels m [] s k at c (record { before = before; below = below }) is in
    is_of s k at c (λ j l. started_content kernels m start reads s j (at s j) (before j l)) (λ i j e l. started_content kernels m start reads i j (at i j) (below i j e l)) (started_here kernels m s k at (entry_at start s k) c (reads s k) is shape here)

pub canonical_start : KernelBasisIsUnique → CanonicalStartIsCanonical
canonical_start kernels m start reads s k c = (canonical_content m start reads s k c, started_content kernels m start reads s k c)

-- ---- the empty start

module _ (m : Module) (s t : ℕ) (table : List (List Content)) (p : IsCanonicalTable m s t table) where
  abbrev square : ℕ → ℕ → Content
  square i k = square_in (row_of table i) k

  abbrev AreContents : ℕ → Type 0
  AreContents i = (k : ℕ) → k ≤ t → IsOf m [] i k (square i k)

  row_under : (i k : ℕ) → i ≤ s → k ≤ t → row_below square i k ≡ below_of table i k
  row_under zero k h l = refl
  row_under (suc i) k h l =
      let n = p.squares i (omega arith) in
      ap (λ (x : List Content). Some x) (squares_below-take square i (suc k) (row_of table i) (omega arith) (λ j b. refl))

  content_here : (i k : ℕ) → i ≤ s → k ≤ t → ((j : ℕ) → j < k → IsOf m [] i j (square i j)) → ((h : ℕ) → suc h ≡ i → AreContents h) → IsOf m [] i k (square i k)
  content_here i k h l before under =
      let n = p.squares i h in
      let left : squares_below square i k ≡ take k (row_of table i) = squares_below-take square i k (row_of table i) (omega arith) (λ j b. refl) in
      let P : List Content → Type 0 = λ x. IsStep m (below_of table i k) x (square i k) in
      let Q : Option (List Content) → Type 0 = λ x. IsStep m x (squares_below square i k) (square i k) in
      is_of i k square (square i k) before (λ e j d b. under e d j (omega arith)) (subst Q (sym (row_under i k h l)) (subst P (sym left) (p.steps i k h l)))

  -- the squares of a row below a bound
  row_contents : (i : ℕ) → i ≤ s → ((h : ℕ) → suc h ≡ i → AreContents h) → (bound k : ℕ) → k < bound → k ≤ t → IsOf m [] i k (square i k)
  row_contents i h under zero k b l = absurd (omega arith)
  row_contents i h under (suc bound) k b l = content_here i k h l (λ j d. row_contents i h under bound j (omega arith) (omega arith)) under

  pub table_contents : (i : ℕ) → i ≤ s → AreContents i
  table_contents zero h k l = row_contents zero h (λ j e. absurd (omega arith)) (suc k) k (omega arith) l
  table_contents (suc i) h k l = row_contents (suc i) h (λ j e. let same : i ≡ j = omega arith in subst AreContents same (table_contents i (omega arith))) (suc k) k (omega arith) l

pub empty_start : KernelBasisIsUnique → EmptyStartIsCanonical
empty_start kernels m s t table = (
  λ p. canonical_from_contents kernels m s t table p.rows p.squares p.contents,
  λ p. record { rows = p.rows; squares = p.squares; contents = λ i k h l. table_contents m s t table p i h k l },
)
