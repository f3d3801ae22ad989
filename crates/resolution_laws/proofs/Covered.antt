-- Where no square of two rows was read, images of generators lie in the kernel of the map below, and operations keep them there.
use Rattle.std.proofs.Common.{◌≡◌, ℕ, zero, suc, ◌+◌, ◌<◌, ◌≤◌, Bool, ℤ, pos, ◌+ℤ◌, List, [], ◌∷◌, ◌++◌, length, map, take, replicate, Option, Some, None, MatchOption, refl, sym, ◌∙◌, ap, subst, arith}
use Rattle.std.specs.List.{items_where_true}
use Rattle.std.proofs.lemmas.Int.{ints}
use Rattle.std.proofs.lemmas.List.{get_or-map, length-map, length-take-le, take_more}
use Rattle.std.proofs.lemmas.Grind.{get_or_picked}
use Rattle.f2_vec.specs.Vectors.{zeros}
use Rattle.f2_vec.specs.Spans.{row, HaveWidth, IsInSpan, IsInKernel}
use Rattle.f2_vec.proofs.Spans.{row-IsInSpan}
use Rattle.f2_matrix.specs.Echelon.{IsKernelBasis, KernelBasisIsUnique}
use Rattle.milnor_basis.specs.Exponents.{degree_of}
use Rattle.free_module.specs.FreeModule.{free_basis, free_width, degree_at}
use Rattle.free_module.specs.FreeBasis.{IsOfDegree, element}
use Rattle.free_module.specs.Graded.{GradedModule, free_graded, IsSteenrodModule, FreeModulesAreModules}
use Rattle.free_module.specs.LinearMap.{AreImages, image_of, map_rows, mapped, MapsCommute}
use Rattle.resolution_laws.specs.Resolution.{Module, Content, no_content, square_in, degrees_from, images_of, target_over, candidates_over, IsStep}
use Rattle.resolution_laws.specs.Start.{Entry, entry_at, HasShape, squares_below, row_below, IsOf}
use Rattle.resolution_laws.proofs.Rows.{degrees_from-push, images_of-push}
use Rattle.resolution_laws.proofs.Generators.{generator_at, AreImages-row, AgreeIn, AgreeIn-take, map_rows-agree, map_rows-take, element-IsOfDegree}
use Rattle.resolution_laws.proofs.Complex.{action-zeros}
use Rattle.resolution_laws.proofs.Shapes.{content_shape}
use Rattle.resolution_laws.proofs.StartLaws.{IsOver, IsOf-over, content_is_unique, length-squares_below, square_in-squares_below, squares_below-take}
use Rattle.resolution_laws.specs.Covered.{NoneRead, AreCovered, MadeRowsAreCovered}

step_of : (m : Module) (below : Option (List Content)) (squares : List Content) (c : Content) (found : Option Content) → found ≡ None → MatchOption found (IsStep m below squares c) (λ read. (c ≡ read) × HasShape m below squares c) → IsStep m below squares c
step_of m below squares c found e h = subst (λ (x : Option Content). MatchOption x (IsStep m below squares c) (λ read. (c ≡ read) × HasShape m below squares c)) e h

AgreeIn-refl : (t : ℤ) (x : GradedModule) → AgreeIn t x x
AgreeIn-refl t x = record { width = refl; action = λ r d v e. refl }

target-IsSteenrod : FreeModulesAreModules → (m : Module) → IsSteenrodModule m.graded → (under : Option (List Content)) → IsSteenrodModule (target_over m under)
target-IsSteenrod free m steenrod None = steenrod
target-IsSteenrod free m steenrod (Some squares) = free (degrees_from m.bottom squares)

-- the targets of two squares of a row agree in the degree of the first
targets_agree : KernelBasisIsUnique → (m : Module) (start : List Entry) (s j k : ℕ) (c d : Content) (o : IsOver m start s j c) (p : IsOver m start s k d) → j ≤ k → AgreeIn (m.bottom +ℤ pos j) (target_over m (row_below o.at s j)) (target_over m (row_below p.at s k))
targets_agree kernels m start zero j k c d o p l = AgreeIn-refl (m.bottom +ℤ pos j) m.graded
targets_agree kernels m start (suc s) j k c d o p l =
    let b = m.bottom in
    let whole = squares_below p.at s (suc k) in
    let len : length whole ≡ suc k = length-squares_below p.at s (suc k) in
    let first : squares_below o.at s (suc j) ≡ take (suc j) whole =
    squares_below-take o.at s (suc j) whole (omega arith)
    (λ i h. content_is_unique kernels m start s i (o.at s i) (p.at s i) (o.below s i refl (omega arith)) (p.below s i refl (omega arith)) ∙ sym (square_in-squares_below p.at s (suc k) i (omega arith))) in
    subst (λ (x : List Content). AgreeIn (b +ℤ pos j) (free_graded (degrees_from b x)) (free_graded (degrees_from b whole))) (sym first) (AgreeIn-take b whole (suc j) (b +ℤ pos j) (omega (arith, ints)))

module _ (free : FreeModulesAreModules) (commute : MapsCommute) (kernels : KernelBasisIsUnique) (m : Module) (start : List Entry) (s k : ℕ) (squares below : List Content) (steenrod : IsSteenrodModule m.graded) (len : length squares ≡ k) (len_below : length below ≡ k + 1) (made : NoneRead start (suc s) k) (made_below : NoneRead start s (k + 1)) (before_are : (j : ℕ) → j < k → IsOf m start (suc s) j (square_in squares j)) (below_are : (j : ℕ) → j ≤ k → IsOf m start s j (square_in below j)) where
  last : IsOver m start s k (square_in below k)
  last = IsOf-over m start s k (square_in below k) (below_are k (omega arith))

  -- what the row below goes to, and its map
  abbrev base : GradedModule
  base = target_over m (row_below last.at s k)

  abbrev ds : List ℤ
  ds = degrees_from m.bottom below

  abbrev vs : List (List Bool)
  vs = images_of below

  abbrev matrix : ℤ → List (List Bool)
  matrix t = map_rows base ds vs t

  good : IsSteenrodModule base
  good = target-IsSteenrod free m steenrod (row_below last.at s k)

  length-matrix : (t : ℤ) → length (matrix t) ≡ free_width ds t
  length-matrix t = length-map (free_basis ds t) (image_of base ds vs)

  -- the squares of the row below before a square
  before_below : (j : ℕ) → j ≤ k → (o : IsOver m start s j (square_in below j)) → squares_below o.at s j ≡ take j below
  before_below j l o = squares_below-take o.at s j below (omega arith) (λ i h. content_is_unique kernels m start s i (o.at s i) (square_in below i) (o.before i h) (below_are i (omega arith)))

  images_fit : (j : ℕ) → j ≤ k → HaveWidth (base.width (m.bottom +ℤ pos j)) (square_in below j).images
  images_fit j l =
      let c = square_in below j in
      let shaped = content_shape kernels m start s j c (below_are j l) in
      let o = shaped.over in
      let P : ℕ → Type 0 = λ n. HaveWidth ((target_over m (row_below o.at s j)).width (m.bottom +ℤ pos n)) c.images in
      subst (λ (n : ℕ). HaveWidth n c.images) (targets_agree kernels m start s j k c (square_in below k) o last l).width (subst P (length-squares_below o.at s j) shaped.shape.image_widths)

  fits : AreImages base ds vs
  fits = AreImages-row base m.bottom below (λ j l. images_fit j (omega arith))

  -- the kernel rows of each of its squares are those of the map
  kernel_at : (j : ℕ) → j ≤ k → IsKernelBasis (base.width (m.bottom +ℤ pos j)) (matrix (m.bottom +ℤ pos j)) (square_in below j).kernel
  kernel_at j l =
      let b = m.bottom in
      let u = b +ℤ pos j in
      let c = square_in below j in
      let o = IsOf-over m start s j c (below_are j l) in
      let x = target_over m (row_below o.at s j) in
      let step : IsStep m (row_below o.at s j) (squares_below o.at s j) c = step_of m (row_below o.at s j) (squares_below o.at s j) c (entry_at start s j) (made_below j (omega arith)) o.here in
      let agree = targets_agree kernels m start s j k c (square_in below k) o last l in
      let before = take j below in
      let same : squares_below o.at s j ≡ before = before_below j l o in
      let length_before : length before ≡ j = length-take-le j below (omega arith) in
      let P : List Content → Type 0 = λ q. IsKernelBasis (x.width (b +ℤ pos (length q))) (map_rows x (degrees_from b q ++ replicate (length c.images) (b +ℤ pos (length q))) (images_of q ++ c.images) (b +ℤ pos (length q))) c.kernel in
      let Q : ℕ → Type 0 = λ n. IsKernelBasis (x.width (b +ℤ pos n)) (map_rows x (degrees_from b before ++ replicate (length c.images) (b +ℤ pos n)) (images_of before ++ c.images) (b +ℤ pos n)) c.kernel in
      let own : Q j = subst Q length_before (subst P same step.kernel) in
      let through : take (j + 1) below ≡ before ++ c ∷ [] = take_more below j no_content (omega arith) in
      let degrees : degrees_from b before ++ replicate (length c.images) u ≡ degrees_from b (take (j + 1) below) =
      sym (ap (degrees_from b) through ∙ (degrees_from-push b before c ∙ ap (λ (n : ℕ). degrees_from b before ++ replicate (length c.images) (b +ℤ pos n)) length_before)) in
      let images : images_of before ++ c.images ≡ images_of (take (j + 1) below) = sym (ap images_of through ∙ images_of-push before c) in
      let all : map_rows x (degrees_from b before ++ replicate (length c.images) u) (images_of before ++ c.images) u ≡ matrix u =
      ap (λ (z : List ℤ). map_rows x z (images_of before ++ c.images) u) degrees
      ∙ (ap (λ (z : List (List Bool)). map_rows x (degrees_from b (take (j + 1) below)) z u) images
      ∙ (map_rows-agree u x base (degrees_from b (take (j + 1) below)) (images_of (take (j + 1) below)) agree
      ∙ sym (map_rows-take base b below (j + 1) u (omega (arith, ints))))) in
      subst (λ (n : ℕ). IsKernelBasis n (matrix u) c.kernel) agree.width (subst (λ (z : List (List Bool)). IsKernelBasis (x.width u) z c.kernel) all own)

  -- the images of a square are in the kernel of the map below
  image-IsInKernel : (j h : ℕ) → j < k → h < length (square_in squares j).images → IsInKernel (base.width (m.bottom +ℤ pos j)) (matrix (m.bottom +ℤ pos j)) (row (square_in squares j).images h)
  image-IsInKernel j h l w =
      let c = square_in squares j in
      let rows = matrix (m.bottom +ℤ pos j) in
      let kernel = (square_in below j).kernel in
      let o = IsOf-over m start (suc s) j c (before_are j l) in
      let step : IsStep m (row_below o.at (suc s) j) (squares_below o.at (suc s) j) c = step_of m (row_below o.at (suc s) j) (squares_below o.at (suc s) j) c (entry_at start (suc s) j) (made j l) o.here in
      let chosen = step.chosen in
      let given : candidates_over m (row_below o.at (suc s) j) (length (squares_below o.at (suc s) j)) ≡ kernel =
      ap (λ (n : ℕ). (square_in (squares_below o.at s (suc j)) n).kernel) (length-squares_below o.at (suc s) j)
      ∙ ap (λ (x : Content). x.kernel) (square_in-squares_below o.at s (suc j) j (omega arith) ∙ content_is_unique kernels m start s j (o.at s j) (square_in below j) (o.below s j refl (omega arith)) (below_are j (omega arith))) in
      let are : c.images ≡ items_where_true chosen.kept kernel = chosen.chosen_are ∙ ap (items_where_true chosen.kept) given in
      let v : h < length (items_where_true chosen.kept kernel) = omega (arith, ap length are) in
      let picked = (get_or_picked chosen.kept kernel h [] v).1 in
      let same : row c.images h ≡ row kernel picked.0 = ap (λ (z : List (List Bool)). row z h) are ∙ picked.2 in
      let basis = kernel_at j (omega arith) in
      subst (IsInKernel (base.width (m.bottom +ℤ pos j)) rows) (sym same) ((basis.spans_kernel (row kernel picked.0)).1 (row-IsInSpan (length rows) kernel picked.0 basis.widths picked.1))

  -- and so is that of each basis element, in its degree
  element-IsInKernel : (t : ℤ) (e : ℕ × List ℕ) → IsOfDegree (degrees_from m.bottom squares) t e → IsInKernel (base.width t) (matrix t) (image_of (free_graded ds) (degrees_from m.bottom squares) (images_of squares) e)
  element-IsInKernel t e o =
      let es = degrees_from m.bottom squares in
      let d = degree_at es e.0 in
      let r = e.1 in
      let x = row (images_of squares) e.0 in
      let y = image_of (free_graded ds) es (images_of squares) e in
      let at = generator_at m.bottom squares e.0 o.generator in
      let there = image-IsInKernel at.k at.h (let q = at.square in omega arith) at.within in
      let P : List Bool → Type 0 = λ v. IsInKernel (base.width (m.bottom +ℤ pos at.k)) (matrix (m.bottom +ℤ pos at.k)) v in
      let Q : ℤ → Type 0 = λ u. IsInKernel (base.width u) (matrix u) x in
      let here : IsInKernel (base.width d) (matrix d) x = subst Q (sym at.degree) (subst P (sym at.image) there) in
      let wide : length x ≡ free_width ds d = here.one_each ∙ length-matrix d in
      let through : base.action r d (mapped base ds vs d x) ≡ mapped base ds vs (d +ℤ pos (degree_of r)) y = commute base ds vs good fits r d x o.trimmed wide in
      let none : base.action r d (mapped base ds vs d x) ≡ zeros (base.width (d +ℤ pos (degree_of r))) = ap (base.action r d) here.vanishes ∙ action-zeros base good.linear r d in
      let moved : IsInKernel (base.width (d +ℤ pos (degree_of r))) (matrix (d +ℤ pos (degree_of r))) y = record {
        one_each = (free ds).widths r d x wide ∙ sym (length-matrix (d +ℤ pos (degree_of r)));
        vanishes = sym through ∙ none;
      } in
      subst (λ (u : ℤ). IsInKernel (base.width u) (matrix u) y) o.degree moved

  covered : AreCovered m (Some below) squares
  covered i l =
      let t = m.bottom +ℤ pos (length squares) in
      let es = degrees_from m.bottom squares in
      let f = image_of (free_graded ds) es (images_of squares) in
      let h : i < length (free_basis es t) = omega (arith, length-map (free_basis es t) f) in
      let same : row (map f (free_basis es t)) i ≡ f (element (free_basis es t) i) = get_or-map f (free_basis es t) i (0, []) [] h in
      let inside = element-IsInKernel t (element (free_basis es t) i) (element-IsOfDegree es t i h) in
      let basis : IsKernelBasis (base.width t) (matrix t) (square_in below (length squares)).kernel =
      subst (λ (n : ℕ). IsKernelBasis (base.width (m.bottom +ℤ pos n)) (matrix (m.bottom +ℤ pos n)) (square_in below n).kernel) (sym len) (kernel_at k (omega arith)) in
      let span : IsInSpan (length (matrix t)) (square_in below (length squares)).kernel (f (element (free_basis es t) i)) = (basis.spans_kernel _).0 inside in
      subst (λ (v : List Bool). IsInSpan (free_width ds t) (square_in below (length squares)).kernel v) (sym same) (subst (λ (n : ℕ). IsInSpan n (square_in below (length squares)).kernel (f (element (free_basis es t) i))) (length-matrix t) span)

pub made_rows_covered : FreeModulesAreModules → MapsCommute → KernelBasisIsUnique → MadeRowsAreCovered
made_rows_covered free commute kernels m start s k squares below steenrod len len_below made made_below before_are below_are = covered free commute kernels m start s k squares below steenrod len len_below made made_below before_are below_are
