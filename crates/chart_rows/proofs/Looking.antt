-- Whether a square may stand at a place, in the words of the code.
use Rattle.std.proofs.Common.{◌≡◌, ℕ, suc, ◌-◌, ◌<◌, ◌≤◌, Bool, ℤ, pos, ◌+ℤ◌, List, [], ◌∷◌, length, take, refl, ap, sym, subst, ◌∙◌, arith}
use Rattle.std.specs.Prelude.{◌↔◌, IsTrue}
use Rattle.std.proofs.lemmas.List.{length-take, get_or_past, get_or-take}
use Rattle.f2_vec.specs.Vectors.{bit, IsZero, zeros}
use Rattle.f2_vec.specs.Spans.{row, combination, HaveWidth, IsInKernel}
use Rattle.resolution_laws.proofs.Rows.{IsWithinReach-row}
use Rattle.f2_vec.proofs.Sums.{bit-zeros}
use Rattle.f2_vec.proofs.Spans.{row-IsInSpan}
use Rattle.f2_matrix.specs.Echelon.{IsKernelBasis}
use Rattle.bidegree.specs.declared.range.TheConstants.{MAX_S}
use Rattle.free_module.specs.FreeModule.{IsWithinReach, free_width}
use Rattle.free_module.specs.Graded.{GradedModule, free_graded}
use Rattle.free_module.specs.LinearMap.{AreImages, mapped}
use Rattle.resolution_laws.specs.Resolution.{Module, Content, no_content, degrees_from, images_of, row_of, square_in}
use Rattle.resolution_images.specs.BareRows.{BareRow, bare_row_in, squares_of}
use Rattle.resolution_images.proofs.Contents.{length-row}
use Rattle.chart_file.specs.Parts.{Bare}
use Rattle.chart_rows.specs.Standing.{target_below, new_below, whole_row, AreCharted, AreCycles, AreIndependent, IsNextAt}
use Rattle.chart_rows.proofs.Whole.{whole_are_images}

-- ---- generators of the row below

pub new_none : (rows : List BareRow) (s i n j : ℕ) → s ≡ suc i → length (bare_row_in rows i).counts ≤ j → 0 ≡ new_below (squares_of rows) s n j
new_none rows s i n j e l =
    let short : length (take n (row_of (squares_of rows) i)) ≤ j = omega (arith, length-take n (row_of (squares_of rows) i), length-row rows i) in
    subst (λ x. 0 ≡ new_below (squares_of rows) x n j) (sym e) (sym (ap (λ (c : Content). length c.images) (get_or_past (take n (row_of (squares_of rows) i)) j no_content short)))

pub new_some : (rows : List BareRow) (s i n j : ℕ) → s ≡ suc i → j < n → length (square_in (row_of (squares_of rows) i) j).images ≡ new_below (squares_of rows) s n j
new_some rows s i n j e l =
    subst (λ x. length (square_in (row_of (squares_of rows) i) j).images ≡ new_below (squares_of rows) x n j) (sym e)
    (sym (ap (λ (c : Content). length c.images) (get_or-take n (row_of (squares_of rows) i) j no_content l)))

-- ---- cycles

-- the map that is asked is the one of the row below, where this is row i
pub record IsBelow (m : Module) (rows : List BareRow) (s k i n : ℕ) (target : GradedModule) (degrees : List ℤ) (images : List (List Bool)) (t : ℤ) : Type 0 where
  pub above : s ≡ suc i
  pub cut : n ≡ k - 1
  pub target_is : target ≡ target_below m (squares_of rows) i n
  pub degrees_are : degrees ≡ degrees_from m.bottom (take k (row_of (squares_of rows) i))
  pub images_are : images ≡ images_of (whole_row (squares_of rows) i n k)
  pub at : t ≡ m.bottom +ℤ pos k

-- the target of a row above row 0, by the generators below it
pub target_free : (m : Module) (squares : List (List Content)) (i j n cut : ℕ) (gens : List ℤ) → i ≡ suc j → cut ≡ n → gens ≡ degrees_from m.bottom (take cut (row_of squares j)) → free_graded gens ≡ target_below m squares i n
target_free m squares i j n cut gens e c is =
    ap free_graded (is ∙ ap (λ x. degrees_from m.bottom (take x (row_of squares j))) c) ∙ sym (ap (λ x. target_below m squares x n) e)

module _ (m : Module) (rows : List BareRow) (s k i n : ℕ) (target : GradedModule) (degrees : List ℤ) (images : List (List Bool)) (t : ℤ) (o : IsBelow m rows s k i n target degrees images t) where
  pub below_images : AreCharted m rows → s ≤ MAX_S → IsNextAt rows s k → AreImages target degrees images
  below_images h low next =
      let c = o.cut in
      let e = o.above in
      let are = whole_are_images m rows i n k h (omega arith) (next.1 i (sym e)) (omega arith) in
      subst (λ (x : GradedModule). AreImages x degrees images) (sym o.target_is)
      (subst (λ (ds : List ℤ). AreImages (target_below m (squares_of rows) i n) ds images) (sym o.degrees_are)
      (subst (λ (xs : List (List Bool)). AreImages (target_below m (squares_of rows) i n) (degrees_from m.bottom (take k (row_of (squares_of rows) i))) xs) (sym o.images_are) are))

  pub below_reach : (max : ℕ) → k ≤ max → IsWithinReach max degrees t
  below_reach max l = IsWithinReach-row m.bottom (take k (row_of (squares_of rows) i)) k max degrees t o.at o.degrees_are l

  pub below_widths : (vectors : List (List Bool)) → HaveWidth ((target_below m (squares_of rows) s k).width (m.bottom +ℤ pos k)) vectors → HaveWidth (free_width degrees t) vectors
  below_widths vectors h =
      let same : (target_below m (squares_of rows) s k).width (m.bottom +ℤ pos k) ≡ free_width degrees t =
      ap (λ x. (target_below m (squares_of rows) x k).width (m.bottom +ℤ pos k)) o.above
      ∙ ap (λ (ds : List ℤ). free_width ds (m.bottom +ℤ pos k)) (sym o.degrees_are) ∙ ap (free_width degrees) (sym o.at) in
      subst (λ (x : ℕ). HaveWidth x vectors) same h

  pub below_cycles : (vectors : List (List Bool)) (b : Bool) → IsTrue b ↔ ((h : ℕ) → h < length vectors → IsZero (mapped target degrees images t (row vectors h))) → IsTrue b ↔ AreCycles m (squares_of rows) s k vectors
  below_cycles vectors b given =
      let squares = squares_of rows in
      let below = target_below m squares i in
      let source = degrees_from m.bottom (take k (row_of squares i)) in
      subst (λ (x : ℕ). IsTrue b ↔ AreCycles m squares x k vectors) (sym o.above)
      (subst (λ (x : ℕ). IsTrue b ↔ ((h : ℕ) → h < length vectors → IsZero (mapped (target_below m squares i x) source (images_of (whole_row squares i x k)) (m.bottom +ℤ pos k) (row vectors h)))) o.cut
      (subst (λ (u : ℤ). IsTrue b ↔ ((h : ℕ) → h < length vectors → IsZero (mapped (below n) source (images_of (whole_row squares i n k)) u (row vectors h)))) o.at
      (subst (λ (xs : List (List Bool)). IsTrue b ↔ ((h : ℕ) → h < length vectors → IsZero (mapped (below n) source xs t (row vectors h)))) o.images_are
      (subst (λ (ds : List ℤ). IsTrue b ↔ ((h : ℕ) → h < length vectors → IsZero (mapped (below n) ds images t (row vectors h)))) o.degrees_are
      (subst (λ (x : GradedModule). IsTrue b ↔ ((h : ℕ) → h < length vectors → IsZero (mapped x degrees images t (row vectors h)))) o.target_is given)))))

-- ---- independence

-- no vector is in the basis of the kernel
pub independent_if : (q : Bare) (kernel : List (List Bool)) → IsKernelBasis q.width q.images kernel → length kernel ≡ 0 → AreIndependent q
independent_if q kernel basis none c p =
    let span = (basis.spans_kernel c).0 p in
    sym span.sum ∙ nothing (length q.images) span.coefficients kernel none
  where
    nothing : (n : ℕ) (c : List Bool) (rows : List (List Bool)) → length rows ≡ 0 → combination n c rows ≡ zeros n
    nothing n [] rows e = refl
    nothing n (x ∷ c) [] e = refl
    nothing n (x ∷ c) (r ∷ rows) e = absurd (omega arith)

-- and the first of them would be a relation
pub dependent_if : (q : Bare) (kernel : List (List Bool)) → IsKernelBasis q.width q.images kernel → 0 < length kernel → AreIndependent q → ⊥
dependent_if q kernel basis some h =
    let v = row kernel 0 in
    let relation : IsInKernel q.width q.images v = (basis.spans_kernel v).1 (row-IsInSpan (length q.images) kernel 0 basis.widths some) in
    basis.nonzero 0 some (λ k. ap (λ (x : List Bool). bit x k) (h v relation) ∙ bit-zeros (length q.images) k)
