-- What a square in stems stands on, by the names that the code has for it, and that what is made from it is that square.
use Rattle.std.proofs.Common.{◌≡◌, ℕ, zero, suc, ◌+◌, ◌<◌, ◌≤◌, ℤ, pos, ◌+ℤ◌, Bool, List, ◌++◌, length, take, replicate, refl, ap, sym, subst, ◌∙◌, Result, Ok, Err, arith}
use Rattle.std.specs.Prelude.{IfOk}
use Rattle.std.proofs.lemmas.List.{length-append, length-map}
use Rattle.f2_vec.specs.Spans.{row, HaveWidth, IsInSpan}
use Rattle.f2_matrix.specs.Reduction.{Rows}
use Rattle.f2_matrix.specs.Echelon.{IsKernelBasis}
use Rattle.free_module.specs.FreeModule.{IsWithinReach, free_basis, free_width}
use Rattle.free_module.specs.Graded.{GradedModule, HasUnit, IsSteenrodModule, free_graded}
use Rattle.free_module.specs.LinearMap.{AreImages, map_rows, image_of}
use Rattle.resolution_laws.specs.Resolution.{Module, Content, square_in, IsStepOver}
use Rattle.resolution_laws.specs.Exactness.{IsBoundedBelow}
use Rattle.resolution_laws.proofs.Rows.{IsWithinReach-row}
use Rattle.resolution_laws.proofs.NewGenerators.{HaveWidth-IsChosen, map_rows-new}
use Rattle.stem_laws.specs.Stems.{IsCanonicalResolution, in_stems, target_in_stems, degrees_in_stems, images_in_stems, differential_in_stems, AreToCover, ImagesInStemsFit, SquaresInStemsAreSteps, RowsInStemsAreCovered}
use Rattle.resolution_images.specs.BareRows.{BareRow, bare_row_in}
use Rattle.resolution_images.specs.declared.resolve.Extent.{Extent}
use Rattle.resolution_images.specs.Made.{IsTableOf, IsMadeThrough, AreUnder, IsToCover}
use Rattle.resolution_images.specs.Inside.Columns.{AreMadeThrough}

-- two facts of what is answered
pub if_ok_both : {T E : Type 0} (r : Result T E) (P Q S : T → Type 0) → ((x : T) → P x → Q x → S x) → IfOk r P → IfOk r Q → IfOk r S
if_ok_both (Ok x) P Q S f p q = f x p q
if_ok_both (Err e) P Q S f p q = tt

-- what is known of the module that is resolved
pub record IsResolvable (m : Module) : Type 0 where
  pub steenrod : IsSteenrodModule m.graded
  pub bounded : IsBoundedBelow m

pub resolution_of : (m : Module) (e : Extent) (table : List (List Content)) → IsResolvable m → IsTableOf m e table → IsCanonicalResolution m e.last (e.n + e.last) table
resolution_of m e table r canonical = record { steenrod = r.steenrod; bounded = r.bounded; canonical = canonical }

-- ---- the map of the first j squares of row i, on vectors of degree bottom + k

pub record Map : Type 0 where
  target : GradedModule
  degrees : List ℤ
  images : List (List Bool)
  t : ℤ

abbrev map_in_stems : Module → Extent → List (List Content) → ℕ → ℕ → ℕ → Map
map_in_stems m e table i j k = record {
  target = target_in_stems m e.n table i k;
  degrees = degrees_in_stems m e.n table i j;
  images = images_in_stems m e.n table i j;
  t = m.bottom +ℤ pos k;
}

-- it is given by these
pub record IsMapOf (m : Module) (e : Extent) (table : List (List Content)) (i j k : ℕ) (target : GradedModule) (degrees : List ℤ) (images : List (List Bool)) (t : ℤ) : Type 0 where
  pub target_is : target ≡ target_in_stems m e.n table i k
  pub degrees_is : degrees ≡ degrees_in_stems m e.n table i j
  pub images_is : images ≡ images_in_stems m e.n table i j
  pub t_is : t ≡ m.bottom +ℤ pos k

module _ (m : Module) (e : Extent) (table : List (List Content)) (i j k : ℕ) (target : GradedModule) (degrees : List ℤ) (images : List (List Bool)) (t : ℤ) (o : IsMapOf m e table i j k target degrees images t) (r : IsResolvable m) (canonical : IsTableOf m e table) (row_is : i ≤ e.last) where
  same_map : map_in_stems m e table i j k ≡ record { target = target; degrees = degrees; images = images; t = t }
  same_map = let a = o.target_is in let b = o.degrees_is in let c = o.images_is in let d = o.t_is in cc

  pub map_images : ImagesInStemsFit → j ≤ suc k → AreImages target degrees images
  map_images fit l = subst (λ (g : Map). AreImages g.target g.degrees g.images) same_map (fit m e.last e.n table (resolution_of m e table r canonical) i j k row_is l)

  pub map_reach : (max : ℕ) → k ≤ max → IsWithinReach max degrees t
  map_reach max le = IsWithinReach-row m.bottom (take j (in_stems m e.n table i)) k max degrees t o.t_is o.degrees_is le

  -- the kernel of the whole row is what the row above has to cover
  pub map_covers : j ≡ suc k → (kernel : List (List Bool)) → IsKernelBasis (target.width t) (map_rows target degrees images t) kernel → AreToCover m e.n table (suc i) k kernel
  map_covers all kernel basis =
      let there : IsKernelBasis ((target_in_stems m e.n table i k).width (m.bottom +ℤ pos k)) (differential_in_stems m e.n table i j k) kernel =
      subst (λ (g : Map). IsKernelBasis (g.target.width g.t) (map_rows g.target g.degrees g.images g.t) kernel) (sym same_map) basis in
      subst (λ (z : ℕ). IsKernelBasis ((target_in_stems m e.n table i k).width (m.bottom +ℤ pos k)) (differential_in_stems m e.n table i z k) kernel) all there

-- the step at (i, k)
module _ (m : Module) (e : Extent) (table : List (List Content)) (i k : ℕ) (target : GradedModule) (degrees : List ℤ) (images candidates : List (List Bool)) (t : ℤ) (o : IsMapOf m e table i k k target degrees images t) (r : IsResolvable m) (canonical : IsTableOf m e table) (row_is : i ≤ e.last) (stem_is : k ≤ e.n + i) (covers : AreToCover m e.n table i k candidates) where
  same : map_in_stems m e table i k k ≡ record { target = target; degrees = degrees; images = images; t = t }
  same = same_map m e table i k k target degrees images t o r canonical row_is

  pub step_covered : RowsInStemsAreCovered → (h : ℕ) → h < length (map_rows target degrees images t) → IsInSpan (target.width t) candidates (row (map_rows target degrees images t) h)
  step_covered covered =
      subst (λ (g : Map). (h : ℕ) → h < length (map_rows g.target g.degrees g.images g.t) → IsInSpan (g.target.width g.t) candidates (row (map_rows g.target g.degrees g.images g.t) h)) same
      (λ h l. covered m e.last e.n table (resolution_of m e table r canonical) i k row_is stem_is candidates covers h l)

  pub step_square : SquaresInStemsAreSteps → (content : Content) → IsStepOver target degrees images candidates t content → content ≡ square_in (in_stems m e.n table i) k
  step_square steps content step =
      (steps m e.last e.n table (resolution_of m e table r canonical) i k row_is stem_is candidates covers content).0
      (subst (λ (g : Map). IsStepOver g.target g.degrees g.images candidates g.t content) (sym same) step)

-- ---- in the words of the code

-- a row that is done in this degree, and the next one that is not
pub line_done : (m : Module) (e : Extent) (s i k : ℕ) (lines : List BareRow) (line : BareRow) → AreMadeThrough m e s k lines → i < s → s ≤ length lines → line ≡ bare_row_in lines i → IsMadeThrough m e i (suc k) line
line_done m e s i k lines line h below within is = subst (IsMadeThrough m e i (suc k)) (sym is) (h.done i below (omega arith))

pub line_next : (m : Module) (e : Extent) (s i k : ℕ) (lines : List BareRow) (line : BareRow) → AreMadeThrough m e s k lines → s ≡ i → s < length lines → line ≡ bare_row_in lines s → IsMadeThrough m e i k line
line_next m e s i k lines line h same within is = subst (λ x. IsMadeThrough m e x k line) same (subst (IsMadeThrough m e s k) (sym is) (h.others s (omega arith) within))

-- the generators under a row, where the row below is done in this degree
pub under_done : (m : Module) (e : Extent) (s r k : ℕ) (lines : List BareRow) (degrees : List ℤ) → AreMadeThrough m e s k lines → r ≤ s → s ≤ length lines → ((i : ℕ) → suc i ≡ r → degrees ≡ (bare_row_in lines i).degrees) → AreUnder m e r k degrees
under_done m e s zero k lines degrees h below within is = tt
under_done m e s (suc i) k lines degrees h below within is = λ table canonical.
    is i refl ∙ (h.done i (omega arith) (omega arith) table canonical).degrees

-- the kernel of a row covers
pub cover_kernel : (m : Module) (e : Extent) (s k : ℕ) (line : BareRow) (kernel : Rows) (t : ℤ) → IsMadeThrough m e s (suc k) line → t ≡ m.bottom +ℤ pos k → kernel.cols ≡ free_width line.degrees t → ((table : List (List Content)) → IsTableOf m e table → AreToCover m e.n table (suc s) k kernel.rows) → IsToCover m e (suc s) k kernel
cover_kernel m e s k line kernel t made at cols covers = record {
  cols = λ table canonical. cols ∙ ap (λ (ds : List ℤ). free_width ds t) (made table canonical).degrees ∙ ap (free_width (degrees_in_stems m e.n table s (suc k))) at;
  covers = covers;
}

-- row 0, whose first j squares are there
pub map_0 : (m : Module) (e : Extent) (table : List (List Content)) (s j k : ℕ) (line : BareRow) (t : ℤ) → IsTableOf m e table → s ≡ 0 → IsMadeThrough m e s j line → t ≡ m.bottom +ℤ pos k → IsMapOf m e table 0 j k m.graded line.degrees line.images t
map_0 m e table s j k line t canonical none made at =
    let h = subst (λ x. IsMadeThrough m e x j line) none made table canonical in
    record { target_is = refl; degrees_is = h.degrees; images_is = h.images; t_is = at }

-- a row above it, whose target is the free module on the row below through degree bottom + k
pub map_above : (m : Module) (e : Extent) (table : List (List Content)) (s i j k : ℕ) (line : BareRow) (degrees : List ℤ) (t : ℤ) → IsTableOf m e table → s ≡ suc i → IsMadeThrough m e s j line → AreUnder m e s k degrees → t ≡ m.bottom +ℤ pos k → IsMapOf m e table (suc i) j k (free_graded degrees) line.degrees line.images t
map_above m e table s i j k line degrees t canonical some made low at =
    let h = subst (λ x. IsMadeThrough m e x j line) some made table canonical in
    let under = subst (λ x. AreUnder m e x k degrees) some low in
    record { target_is = ap free_graded (under table canonical); degrees_is = h.degrees; images_is = h.images; t_is = at }

-- the length of what a square has to cover
pub cols_0 : (m : Module) (e : Extent) (table : List (List Content)) (s k : ℕ) (below : Rows) (t : ℤ) → IsTableOf m e table → s ≡ 0 → IsToCover m e s k below → t ≡ m.bottom +ℤ pos k → below.cols ≡ m.graded.width t
cols_0 m e table s k below t canonical none cover at =
    (subst (λ x. IsToCover m e x k below) none cover).cols table canonical ∙ ap m.graded.width (sym at)

pub cols_above : (m : Module) (e : Extent) (table : List (List Content)) (s i k : ℕ) (below : Rows) (degrees : List ℤ) (t : ℤ) → IsTableOf m e table → s ≡ suc i → IsToCover m e s k below → AreUnder m e s k degrees → t ≡ m.bottom +ℤ pos k → below.cols ≡ free_width degrees t
cols_above m e table s i k below degrees t canonical some cover low at =
    let under = subst (λ x. AreUnder m e x k degrees) some low in
    (subst (λ x. IsToCover m e x k below) some cover).cols table canonical
    ∙ ap (λ (ds : List ℤ). free_width ds (m.bottom +ℤ pos k)) (sym (under table canonical)) ∙ ap (free_width degrees) (sym at)

pub covers_at : (m : Module) (e : Extent) (table : List (List Content)) (s i k : ℕ) (below : Rows) → IsTableOf m e table → s ≡ i → IsToCover m e s k below → AreToCover m e.n table i k below.rows
covers_at m e table s i k below canonical same cover = (subst (λ x. IsToCover m e x k below) same cover).covers table canonical

-- the width of the kernel
pub kernel_cols : (target : GradedModule) (degrees : List ℤ) (images candidates : List (List Bool)) (t : ℤ) (content : Content) (cols : ℕ) → HasUnit target → AreImages target degrees images → HaveWidth (target.width t) candidates → IsStepOver target degrees images candidates t content → cols ≡ length (map_rows target degrees images t) + length content.images → cols ≡ free_width (degrees ++ replicate (length content.images) t) t
kernel_cols target degrees images candidates t content cols unit fit w step e =
    let new = content.images in
    let rows = map_rows target degrees images t in
    let wide = HaveWidth-IsChosen (target.width t) rows candidates new w step.chosen in
    let all = map_rows-new target degrees images new t unit fit.one_each wide in
    e ∙ sym (length-append rows new) ∙ ap length (sym all) ∙ length-map (free_basis (degrees ++ replicate (length new) t) t) (image_of target (degrees ++ replicate (length new) t) (images ++ new))
