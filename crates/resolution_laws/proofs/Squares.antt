-- A square of a canonical table, as the step over all generators of its row and of the row below.
use Rattle.std.proofs.Common.{◌≡◌, ℕ, zero, suc, ◌+◌, ◌≤◌, Bool, ℤ, pos, ◌+ℤ◌, List, [], ◌∷◌, ◌++◌, length, take, replicate, sym, ◌∙◌, ap, subst, arith}
use Rattle.std.proofs.lemmas.Int.{ints}
use Rattle.std.proofs.lemmas.List.{get_or-take, length-take-le, take_more}
use Rattle.f2_vec.specs.Spans.{HaveWidth, unit_vectors}
use Rattle.f2_vec.proofs.Split.{HaveWidth-unit_vectors}
use Rattle.f2_matrix.specs.Echelon.{IsKernelBasis}
use Rattle.free_module.specs.Graded.{GradedModule, free_graded, IsSteenrodModule, FreeModulesAreModules}
use Rattle.free_module.specs.LinearMap.{AreImages, map_rows, MapsCommute}
use Rattle.resolution_laws.specs.Resolution.{Module, Content, no_content, square_in, degrees_from, images_of, target_over, candidates_over, IsChosen, IsStepOver, row_of, below_of, IsCanonicalTable}
use Rattle.resolution_laws.specs.Exactness.{degrees_in, target_of, differential, IsBoundedBelow}
use Rattle.free_module.proofs.MapRows.{HaveWidth-map_rows}
use Rattle.resolution_laws.proofs.NewGenerators.{map_rows-new, HaveWidth-IsChosen}
use Rattle.resolution_laws.proofs.Rows.{row_of-IsRowOver, degrees_from-push, images_of-push, HaveWidth-kernels}
use Rattle.resolution_laws.proofs.Generators.{AreImages-row, AgreeIn, AgreeIn-take, map_rows-agree, map_rows-take}

-- the canonical table of a module over the Steenrod algebra, with the laws of free modules and their maps
pub record IsResolved (m : Module) (s t : ℕ) (table : List (List Content)) : Type 0 where
  pub free : FreeModulesAreModules
  pub commute : MapsCommute
  pub steenrod : IsSteenrodModule m.graded
  pub bounded : IsBoundedBelow m
  pub canonical : IsCanonicalTable m s t table

pub target_is_module : FreeModulesAreModules → (m : Module) (table : List (List Content)) (i : ℕ) → IsSteenrodModule m.graded → IsSteenrodModule (target_of m table i)
target_is_module free m table zero steenrod = steenrod
target_is_module free m table (suc i) steenrod = free (degrees_in m table i)

-- the rows of d_s in the square's degree on the generators before it, and its candidates
abbrev pub old_rows : Module → List (List Content) → ℕ → ℕ → List (List Bool)
old_rows m table i k = map_rows (target_of m table i) (degrees_from m.bottom (take k (row_of table i))) (images_of (take k (row_of table i))) (m.bottom +ℤ pos k)

abbrev pub candidates_of : Module → List (List Content) → ℕ → ℕ → List (List Bool)
candidates_of m table zero k = unit_vectors (m.graded.width (m.bottom +ℤ pos k))
candidates_of m table (suc i) k = (square_in (row_of table i) k).kernel

-- the step to a module that agrees with another in its degree
step-agree : (x y : GradedModule) (ds : List ℤ) (images candidates : List (List Bool)) (u : ℤ) (c : Content) → AgreeIn u x y → IsStepOver x ds images candidates u c → IsStepOver y ds images candidates u c
step-agree x y ds images candidates u c a p =
    let all = ds ++ replicate (length c.images) u in
    let P : ℕ → Type 0 = λ n. IsChosen n (map_rows x ds images u) candidates c.images in
    let Q : List (List Bool) → Type 0 = λ z. IsChosen (y.width u) z candidates c.images in
    let R : ℕ → Type 0 = λ n. IsKernelBasis n (map_rows x all (images ++ c.images) u) c.kernel in
    let S : List (List Bool) → Type 0 = λ z. IsKernelBasis (y.width u) z c.kernel in
    record {
      chosen = subst Q (map_rows-agree u x y ds images a) (subst P a.width p.chosen);
      kernel = subst S (map_rows-agree u x y all (images ++ c.images) a) (subst R a.width p.kernel);
    }

step-over_all : (m : Module) (table : List (List Content)) (i k : ℕ) (ds : List ℤ) (images : List (List Bool)) (c : Content) → IsStepOver (target_over m (below_of table i k)) ds images (candidates_over m (below_of table i k) k) (m.bottom +ℤ pos k) c → IsStepOver (target_of m table i) ds images (candidates_of m table i k) (m.bottom +ℤ pos k) c
step-over_all m table zero k ds images c p = p
step-over_all m table (suc i) k ds images c p =
    let u = m.bottom +ℤ pos k in
    let below = take (suc k) (row_of table i) in
    let kernel : (square_in below k).kernel ≡ (square_in (row_of table i) k).kernel = ap (λ (x : Content). x.kernel) (get_or-take (suc k) (row_of table i) k no_content (omega arith)) in
    let P : List (List Bool) → Type 0 = λ z. IsStepOver (free_graded (degrees_from m.bottom below)) ds images z u c in
    step-agree (free_graded (degrees_from m.bottom below)) (target_of m table (suc i)) ds images (candidates_of m table (suc i) k) u c (AgreeIn-take m.bottom (row_of table i) (suc k) u (omega (arith, ints))) (subst P kernel p)

-- each square of the table is the step to the whole target
step_at : (m : Module) (s t : ℕ) (table : List (List Content)) → IsCanonicalTable m s t table → (i k : ℕ) → i ≤ s → k ≤ t → IsStepOver (target_of m table i) (degrees_from m.bottom (take k (row_of table i))) (images_of (take k (row_of table i))) (candidates_of m table i k) (m.bottom +ℤ pos k) (square_in (row_of table i) k)
step_at m s t table p i k h l =
    let squares = row_of table i in
    let n = p.squares i h in
    let ds = degrees_from m.bottom (take k squares) in
    let images = images_of (take k squares) in
    let P : ℕ → Type 0 = λ j. IsStepOver (target_over m (below_of table i k)) ds images (candidates_over m (below_of table i k) j) (m.bottom +ℤ pos j) (square_in squares k) in
    step-over_all m table i k ds images (square_in squares k) (subst P (length-take-le k squares (omega arith)) (p.steps i k h l))

HaveWidth-candidates : (m : Module) (s t : ℕ) (table : List (List Content)) → IsCanonicalTable m s t table → (i k : ℕ) → i ≤ s → k ≤ t → HaveWidth ((target_of m table i).width (m.bottom +ℤ pos k)) (candidates_of m table i k)
HaveWidth-candidates m s t table p zero k h l = HaveWidth-unit_vectors (m.graded.width (m.bottom +ℤ pos k))
HaveWidth-candidates m s t table p (suc i) k h l =
    let n = p.squares i (omega arith) in
    HaveWidth-kernels m (below_of table i) (row_of table i) (row_of-IsRowOver m s t table p i (omega arith)) k (omega arith)

HaveWidth-images : (m : Module) (s t : ℕ) (table : List (List Content)) → IsCanonicalTable m s t table → (i k : ℕ) → i ≤ s → k ≤ t → HaveWidth ((target_of m table i).width (m.bottom +ℤ pos k)) (square_in (row_of table i) k).images
HaveWidth-images m s t table p i k h l =
    HaveWidth-IsChosen ((target_of m table i).width (m.bottom +ℤ pos k)) (old_rows m table i k) (candidates_of m table i k) (square_in (row_of table i) k).images (HaveWidth-candidates m s t table p i k h l) (step_at m s t table p i k h l).chosen

-- the images of a row fit, and so do those of its first squares
pub AreImages-all : (m : Module) (s t : ℕ) (table : List (List Content)) → IsCanonicalTable m s t table → (i : ℕ) → i ≤ s → AreImages (target_of m table i) (degrees_from m.bottom (row_of table i)) (images_of (row_of table i))
AreImages-all m s t table p i h =
    let n = p.squares i h in
    AreImages-row (target_of m table i) m.bottom (row_of table i) (λ k l. HaveWidth-images m s t table p i k h (omega arith))

pub AreImages-before : (m : Module) (s t : ℕ) (table : List (List Content)) → IsCanonicalTable m s t table → (i n : ℕ) → i ≤ s → n ≤ t → AreImages (target_of m table i) (degrees_from m.bottom (take n (row_of table i))) (images_of (take n (row_of table i)))
AreImages-before m s t table p i n h l =
    let squares = row_of table i in
    let all = p.squares i h in
    let len : length (take n squares) ≡ n = length-take-le n squares (omega arith) in
    AreImages-row (target_of m table i) m.bottom (take n squares) (λ k b.
    let same : square_in (take n squares) k ≡ square_in squares k = get_or-take n squares k no_content (omega arith) in
    subst (λ (c : Content). HaveWidth ((target_of m table i).width (m.bottom +ℤ pos k)) c.images) (sym same) (HaveWidth-images m s t table p i k h (omega arith)))

-- The square (i, k): its images are chosen among the candidates over the rows on the generators before it, which stand
-- last in the matrix of d_i in its degree, and its kernel is that of this matrix.
pub record IsSquare (m : Module) (table : List (List Content)) (i k : ℕ) : Type 0 where
  pub old_widths : HaveWidth ((target_of m table i).width (m.bottom +ℤ pos k)) (old_rows m table i k)
  pub candidate_widths : HaveWidth ((target_of m table i).width (m.bottom +ℤ pos k)) (candidates_of m table i k)
  pub chosen : IsChosen ((target_of m table i).width (m.bottom +ℤ pos k)) (old_rows m table i k) (candidates_of m table i k) (square_in (row_of table i) k).images
  pub rows : differential m table i (m.bottom +ℤ pos k) ≡ old_rows m table i k ++ (square_in (row_of table i) k).images
  pub kernel : IsKernelBasis ((target_of m table i).width (m.bottom +ℤ pos k)) (differential m table i (m.bottom +ℤ pos k)) (square_in (row_of table i) k).kernel

pub square_at : (m : Module) (s t : ℕ) (table : List (List Content)) → IsResolved m s t table → (i k : ℕ) → i ≤ s → k ≤ t → IsSquare m table i k
square_at m s t table p i k h l =
    let target = target_of m table i in
    let good = target_is_module p.free m table i p.steenrod in
    let squares = row_of table i in
    let c = square_in squares k in
    let u = m.bottom +ℤ pos k in
    let n = p.canonical.squares i h in
    let before = take k squares in
    let len : length before ≡ k = length-take-le k squares (omega arith) in
    let are = AreImages-before m s t table p.canonical i k h l in
    let step = step_at m s t table p.canonical i k h l in
    let through : take (k + 1) squares ≡ before ++ c ∷ [] = take_more squares k no_content (omega arith) in
    let degrees : degrees_from m.bottom (take (k + 1) squares) ≡ degrees_from m.bottom before ++ replicate (length c.images) u =
    ap (degrees_from m.bottom) through ∙ (degrees_from-push m.bottom before c ∙ ap (λ (j : ℕ). degrees_from m.bottom before ++ replicate (length c.images) (m.bottom +ℤ pos j)) len) in
    let images : images_of (take (k + 1) squares) ≡ images_of before ++ c.images = ap images_of through ∙ images_of-push before c in
    let all : differential m table i u ≡ map_rows target (degrees_from m.bottom before ++ replicate (length c.images) u) (images_of before ++ c.images) u =
    map_rows-take target m.bottom squares (k + 1) u (omega (arith, ints))
    ∙ (ap (λ (ds : List ℤ). map_rows target ds (images_of (take (k + 1) squares)) u) degrees ∙ ap (λ (vs : List (List Bool)). map_rows target (degrees_from m.bottom before ++ replicate (length c.images) u) vs u) images) in
    record {
      old_widths = HaveWidth-map_rows target (degrees_from m.bottom before) (images_of before) u good.widths are;
      candidate_widths = HaveWidth-candidates m s t table p.canonical i k h l;
      chosen = step.chosen;
      rows = all ∙ map_rows-new target (degrees_from m.bottom before) (images_of before) c.images u good.unit are.one_each (HaveWidth-images m s t table p.canonical i k h l);
      kernel = subst (λ (z : List (List Bool)). IsKernelBasis (target.width u) z c.kernel) (sym all) step.kernel;
    }

-- its images are vectors of the target
pub image_widths : (m : Module) (s t : ℕ) (table : List (List Content)) → IsResolved m s t table → (i k : ℕ) → i ≤ s → k ≤ t → HaveWidth ((target_of m table i).width (m.bottom +ℤ pos k)) (square_in (row_of table i) k).images
image_widths m s t table p i k h l =
    let square = square_at m s t table p i k h l in
    HaveWidth-IsChosen ((target_of m table i).width (m.bottom +ℤ pos k)) (old_rows m table i k) (candidates_of m table i k) (square_in (row_of table i) k).images square.candidate_widths square.chosen
