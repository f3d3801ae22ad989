-- What the step has to cover fits what a square is made from, and the step to its target is the step on it.
use Rattle.std.proofs.Common.{◌≡◌, ℕ, zero, suc, ◌+◌, ℤ, pos, ◌+ℤ◌, Bool, List, [], ◌∷◌, ◌++◌, length, replicate, take, Option, Some, None, option_map, refl, sym, ◌∙◌, ap, subst, arith}
use Rattle.std.proofs.lemmas.List.{take_all, take_more}
use Rattle.f2_vec.specs.Spans.{HaveWidth, unit_vectors}
use Rattle.f2_vec.proofs.Split.{HaveWidth-unit_vectors}
use Rattle.f2_choice.proofs.Units.{IsReduced-unit_vectors, HasNoZeroRow-unit_vectors}
use Rattle.f2_matrix.specs.Echelon.{IsReduced, HasNoZeroRow, IsKernelBasis}
use Rattle.f2_matrix.specs.Reduction.{Rows, Reduction, IsReductionOf}
use Rattle.f2_matrix.proofs.Unique.{kernel_basis_unique}
use Rattle.free_module.specs.FreeModule.{free_width}
use Rattle.free_module.specs.Graded.{GradedModule, HasUnit}
use Rattle.free_module.specs.LinearMap.{AreImages, map_rows}
use Rattle.finite_module.specs.Module.{width}
use Rattle.finite_module.specs.Checked.{Checked}
use Rattle.resolution_laws.specs.Resolution.{Content, no_content, square_in, degrees_from, images_of, target_over, candidates_over, IsChosen, IsStepOver}
use Rattle.resolution_laws.specs.Start.{squares_below}
use Rattle.resolution_laws.proofs.NewGenerators.{HaveWidth-IsChosen, IsStepOver_from_choice, map_rows-new}
use Rattle.resolution_laws.proofs.Rows.{degrees_from-push}
use Rattle.resolution_laws.proofs.Shapes.{content_shape}
use Rattle.resolution_laws.proofs.StartLaws.{length-squares_below}
use Rattle.square.specs.Squares.{IsSquare, over, bottom_of}
use Rattle.square.specs.Tables.{Footing, IsFooting}
use Rattle.square.proofs.Footings.{IsMeasured-made}
use Rattle.square.proofs.Fitting.{below_is_of, below_take, AreImages-footing}
use Rattle.resolution_step.specs.Steps.{IsReducedStep, IsStepWith}

-- ---- widths

-- the candidates are of the dimension of the target, in the degree of the square
pub HaveWidth-candidates_over : (f : Footing) → IsFooting f → HaveWidth ((target_over (over f.resolved) f.below).width (bottom_of f.resolved +ℤ pos f.above)) (candidates_over (over f.resolved) f.below f.above)
HaveWidth-candidates_over f h = in_row f.s refl
  where
    in_row : (s : ℕ) → s ≡ f.s → HaveWidth ((target_over (over f.resolved) f.below).width (bottom_of f.resolved +ℤ pos f.above)) (candidates_over (over f.resolved) f.below f.above)
    in_row zero e =
        let m = over f.resolved in
        let P : Option (List Content) → Type 0 = λ x. HaveWidth ((target_over m x).width (m.bottom +ℤ pos f.above)) (candidates_over m x f.above) in
        subst P (sym (h.has_none (sym e))) (HaveWidth-unit_vectors (m.graded.width (m.bottom +ℤ pos f.above)))
    in_row (suc i) e =
        let m = over f.resolved in
        let b = m.bottom in
        let p = h.has_below i e in
        let len = p.2 in
        let c = square_in p.0 f.above in
        let shaped = content_shape kernel_basis_unique m f.start i f.above c (below_is_of f h i p.0 e p.1 f.above (omega arith)) in
        let o = shaped.over in
        let squares = squares_below o.at i f.above in
        let same : squares ≡ take f.above p.0 = below_take f h o.at i p.0 f.above e p.1 p.2 (omega arith) o.before in
        let all : take f.above p.0 ++ c ∷ [] ≡ p.0 = sym (take_more p.0 f.above no_content (omega arith)) ∙ take_all (f.above + 1) p.0 (omega arith) in
        let degrees : degrees_from b squares ++ replicate (length c.images) (b +ℤ pos (length squares)) ≡ degrees_from b p.0 =
        sym (degrees_from-push b squares c) ∙ (ap (λ (x : List Content). degrees_from b (x ++ c ∷ [])) same ∙ ap (degrees_from b) all) in
        let width : free_width (degrees_from b squares ++ replicate (length c.images) (b +ℤ pos (length squares))) (b +ℤ pos (length squares)) ≡ free_width (degrees_from b p.0) (b +ℤ pos f.above) =
        ap (λ (ds : List ℤ). free_width ds (b +ℤ pos (length squares))) degrees ∙ ap (λ (n : ℕ). free_width (degrees_from b p.0) (b +ℤ pos n)) (length-squares_below o.at i f.above) in
        let P : Option (List Content) → Type 0 = λ x. HaveWidth ((target_over m x).width (b +ℤ pos f.above)) (candidates_over m x f.above) in
        subst P (sym p.1) (subst (λ n. HaveWidth n c.kernel) width shaped.shape.kernel_widths)

-- they are reduced, and none is zero
candidates_are_reduced : (f : Footing) → IsFooting f → IsReduced (candidates_over (over f.resolved) f.below f.above) × HasNoZeroRow (candidates_over (over f.resolved) f.below f.above)
candidates_are_reduced f h = in_row f.s refl
  where
    in_row : (s : ℕ) → s ≡ f.s → IsReduced (candidates_over (over f.resolved) f.below f.above) × HasNoZeroRow (candidates_over (over f.resolved) f.below f.above)
    in_row zero e =
        let m = over f.resolved in
        let P : Option (List Content) → Type 0 = λ x. IsReduced (candidates_over m x f.above) × HasNoZeroRow (candidates_over m x f.above) in
        let n = m.graded.width (m.bottom +ℤ pos f.above) in
        subst P (sym (h.has_none (sym e))) (IsReduced-unit_vectors n, HasNoZeroRow-unit_vectors n)
    in_row (suc i) e =
        let m = over f.resolved in
        let p = h.has_below i e in
        let c = square_in p.0 f.above in
        let shaped = content_shape kernel_basis_unique m f.start i f.above c (below_is_of f h i p.0 e p.1 f.above (omega arith)) in
        let P : Option (List Content) → Type 0 = λ x. IsReduced (candidates_over m x f.above) × HasNoZeroRow (candidates_over m x f.above) in
        subst P (sym p.1) (shaped.shape.reduced, shaped.shape.nonzero)

pub IsReduced-given : (f : Footing) → IsFooting f → (candidates : List (List Bool)) → candidates ≡ candidates_over (over f.resolved) f.below f.above → IsReduced candidates
IsReduced-given f h candidates e = subst IsReduced (sym e) (candidates_are_reduced f h).0

pub HasNoZeroRow-given : (f : Footing) → IsFooting f → (candidates : List (List Bool)) → candidates ≡ candidates_over (over f.resolved) f.below f.above → HasNoZeroRow candidates
HasNoZeroRow-given f h candidates e = subst HasNoZeroRow (sym e) (candidates_are_reduced f h).1

-- ---- the step

-- the choice over the matrix of the map, with the kernel and the reduction of that matrix with the chosen as last rows
pub IsReducedStep_from_choice : (target : GradedModule) (degrees : List ℤ) (images candidates : List (List Bool)) (t : ℤ) (matrix : Rows) (content : Content) (reduction : Reduction) → HasUnit target → length images ≡ length degrees → HaveWidth (target.width t) candidates → matrix.cols ≡ target.width t → matrix.rows ≡ map_rows target degrees images t → IsChosen matrix.cols matrix.rows candidates content.images → IsKernelBasis matrix.cols (matrix.rows ++ content.images) content.kernel → IsReductionOf matrix.cols (matrix.rows ++ content.images) reduction
    → IsReducedStep target degrees images candidates t content reduction
IsReducedStep_from_choice target degrees images candidates t matrix content reduction unit one_each w cols rows chosen kernel reduced =
    let step : IsStepOver target degrees images candidates t content = IsStepOver_from_choice target degrees images candidates t matrix content unit one_each w cols rows chosen kernel in
    let all : matrix.rows ++ content.images ≡ map_rows target (degrees ++ replicate (length content.images) t) (images ++ content.images) t =
    ap (λ (z : List (List Bool)). z ++ content.images) rows ∙ sym (map_rows-new target degrees images content.images t unit one_each (HaveWidth-IsChosen (target.width t) _ candidates content.images w step.chosen)) in
    let P : List (List Bool) → Type 0 = λ z. IsReductionOf (target.width t) z reduction in
    let Q : ℕ → Type 0 = λ n. IsReductionOf n (matrix.rows ++ content.images) reduction in
    record { step = step; quasi = subst P all (subst Q cols reduced) }

pub IsStepWith_from_reduced : (f : Footing) → IsFooting f → (target : GradedModule) (degrees : List ℤ) (images candidates : List (List Bool)) (t : ℤ) (content : Content) (reduction : Reduction) → target ≡ target_over (over f.resolved) f.below → degrees ≡ degrees_from (bottom_of f.resolved) f.squares → images ≡ images_of f.squares → candidates ≡ candidates_over (over f.resolved) f.below f.above → t ≡ bottom_of f.resolved +ℤ pos f.above
    → IsReducedStep target degrees images candidates t content reduction → IsStepWith f content reduction
IsStepWith_from_reduced f h target degrees images candidates t content reduction e1 e2 e3 e4 e5 p =
    let m = over f.resolved in
    let b = bottom_of f.resolved in
    let A : GradedModule → Type 0 = λ x. IsReducedStep x degrees images candidates t content reduction in
    let B : List ℤ → Type 0 = λ x. IsReducedStep (target_over m f.below) x images candidates t content reduction in
    let C : List (List Bool) → Type 0 = λ x. IsReducedStep (target_over m f.below) (degrees_from b f.squares) x candidates t content reduction in
    let D : List (List Bool) → Type 0 = λ x. IsReducedStep (target_over m f.below) (degrees_from b f.squares) (images_of f.squares) x t content reduction in
    let E : ℤ → Type 0 = λ x. IsReducedStep (target_over m f.below) (degrees_from b f.squares) (images_of f.squares) (candidates_over m f.below f.above) x content reduction in
    let F : ℕ → Type 0 = λ n. IsReducedStep (target_over m f.below) (degrees_from b f.squares) (images_of f.squares) (candidates_over m f.below n) (b +ℤ pos n) content reduction in
    let all = subst F (sym h.length_is) (subst E e5 (subst D e4 (subst C e3 (subst B e2 (subst A e1 p))))) in
    record { step = all.step; quasi = all.quasi }

-- ---- what is given to the step, as it is read

pub AreImages-given : (f : Footing) → IsFooting f → (target : GradedModule) (degrees : List ℤ) (images : List (List Bool)) → target ≡ target_over (over f.resolved) f.below → degrees ≡ degrees_from (bottom_of f.resolved) f.squares → images ≡ images_of f.squares → AreImages target degrees images
AreImages-given f h target degrees images e1 e2 e3 =
    let b = bottom_of f.resolved in
    let A : GradedModule → Type 0 = λ x. AreImages x (degrees_from b f.squares) (images_of f.squares) in
    let B : List ℤ → Type 0 = λ x. AreImages target x (images_of f.squares) in
    let C : List (List Bool) → Type 0 = λ x. AreImages target degrees x in
    subst C (sym e3) (subst B (sym e2) (subst A (sym e1) (AreImages-footing f h)))

pub HaveWidth-given : (f : Footing) → IsFooting f → (target : GradedModule) (candidates : List (List Bool)) (t : ℤ) → target ≡ target_over (over f.resolved) f.below → candidates ≡ candidates_over (over f.resolved) f.below f.above → t ≡ bottom_of f.resolved +ℤ pos f.above → HaveWidth (target.width t) candidates
HaveWidth-given f h target candidates t e1 e2 e3 =
    let m = over f.resolved in
    let A : GradedModule → Type 0 = λ x. HaveWidth (x.width (m.bottom +ℤ pos f.above)) (candidates_over m f.below f.above) in
    let B : List (List Bool) → Type 0 = λ x. HaveWidth (target.width (m.bottom +ℤ pos f.above)) x in
    let C : ℤ → Type 0 = λ x. HaveWidth (target.width x) candidates in
    subst C (sym e3) (subst B (sym e2) (subst A (sym e1) (HaveWidth-candidates_over f h)))

-- the kernel of the square below
pub candidates-row : (f : Footing) (kernel : List (List Bool)) → Some kernel ≡ option_map (λ below. (square_in below f.above).kernel) f.below → kernel ≡ candidates_over (over f.resolved) f.below f.above
candidates-row f kernel e = from f.below e
  where
    from : (o : Option (List Content)) → Some kernel ≡ option_map (λ below. (square_in below f.above).kernel) o → kernel ≡ candidates_over (over f.resolved) o f.above
    from None same = cc
    from (Some below) same = let is : kernel ≡ (square_in below f.above).kernel = cc in is

-- and for row 0 the unit vectors
pub candidates-module : (f : Footing) → None ≡ option_map (λ below. (square_in below f.above).kernel) f.below → (m : Checked) (t : ℤ) (n : ℕ) → m ≡ f.resolved → t ≡ bottom_of f.resolved +ℤ pos f.above → n ≡ width m.plain.generators t → unit_vectors n ≡ candidates_over (over f.resolved) f.below f.above
candidates-module f e m t n same at count = units ∙ from f.below e
  where
    units : unit_vectors n ≡ unit_vectors (width f.resolved.plain.generators (bottom_of f.resolved +ℤ pos f.above))
    units = ap unit_vectors (count ∙ (ap (λ (x : Checked). width x.plain.generators t) same ∙ ap (width f.resolved.plain.generators) at))

    from : (o : Option (List Content)) → None ≡ option_map (λ below. (square_in below f.above).kernel) o → unit_vectors (width f.resolved.plain.generators (bottom_of f.resolved +ℤ pos f.above)) ≡ candidates_over (over f.resolved) o f.above
    from None same = refl
    from (Some below) same = cc

-- the square of the step
pub IsSquare-step : (f : Footing) (content : Content) (reduction : Reduction) → IsFooting f → IsStepWith f content reduction → IsSquare (record { resolved = f.resolved; start = f.start; s = f.s; above = f.above; content = content; quasi = Some reduction })
IsSquare-step f content reduction h p =
    (IsMeasured-made f content reduction f.resolved f.start f.s f.above (bottom_of f.resolved +ℤ pos f.above) reduction.cols reduction.height h p.step p.quasi refl refl refl refl refl refl refl).square
