-- Generators of degree t, put behind those below it, add to the matrix of a map in degree t their images as last rows.
use Rattle.std.proofs.Common.{◌≡◌, ℕ, suc, ◌+◌, ◌<◌, ℤ, pos, ◌-ℤ◌, Bool, List, [], ◌∷◌, ◌++◌, length, map, replicate, refl, sym, ◌∙◌, ap, subst, arith}
use Rattle.std.proofs.lemmas.Int.{ints}
use Rattle.std.proofs.lemmas.List.{map-append, get_or_append_left, get_or-append-add, get_or-replicate}
use Rattle.f2_vec.specs.Spans.{row, HaveWidth}
use Rattle.f2_vec.proofs.Spans.{HaveWidth-items_where_true}
use Rattle.f2_vec.proofs.Combinations.{map_same_all}
use Rattle.f2_matrix.specs.Echelon.{IsKernelBasis}
use Rattle.f2_matrix.specs.Reduction.{Rows}
use Rattle.milnor_product.specs.Times.{basis_at}
use Rattle.free_module.specs.FreeModule.{free_basis_from, free_basis, degree_at}
use Rattle.free_module.specs.FreeBasis.{IsOfDegree}
use Rattle.free_module.specs.Graded.{GradedModule, HasUnit}
use Rattle.free_module.proofs.FreeBasis.{free_basis_from-append, All-free_basis}
use Rattle.free_module.specs.LinearMap.{image_of, map_rows}
use Rattle.resolution_laws.specs.Resolution.{Content, IsChosen, IsStepOver}

pub minus_self : (t : ℤ) → t -ℤ t ≡ pos 0
minus_self t = omega (arith, ints)

-- the generators of degree t from number g on give, in degree t, their images
map_new : (target : GradedModule) (degrees : List ℤ) (images : List (List Bool)) (t : ℤ) → HasUnit target → (g : ℕ) (chosen : List (List Bool)) → HaveWidth (target.width t) chosen → ((h : ℕ) → h < length chosen → degree_at degrees (g + h) ≡ t) → ((h : ℕ) → h < length chosen → row images (g + h) ≡ row chosen h) → map (image_of target degrees images) (free_basis_from g (replicate (length chosen) t) t) ≡ chosen
map_new target degrees images t unit g [] w d r = refl
map_new target degrees images t unit g (x ∷ chosen) w d r =
    let here : g + 0 ≡ g = omega arith in
    let degree : degree_at degrees g ≡ t = ap (degree_at degrees) (sym here) ∙ d 0 (omega arith) in
    let image : row images g ≡ x = ap (row images) (sym here) ∙ r 0 (omega arith) in
    let shift : (h : ℕ) → suc g + h ≡ g + suc h = λ h. omega arith in
    let first : image_of target degrees images (g, []) ≡ x = ap (λ k. target.action [] k (row images g)) degree ∙ (ap (target.action [] t) image ∙ unit t x (w 0 (omega arith))) in
    let rest : map (image_of target degrees images) (free_basis_from (suc g) (replicate (length chosen) t) t) ≡ chosen =
    map_new target degrees images t unit (suc g) chosen (λ i l. w (suc i) (omega arith)) (λ h l. ap (degree_at degrees) (shift h) ∙ d (suc h) (omega arith)) (λ h l. ap (row images) (shift h) ∙ r (suc h) (omega arith)) in
    let one : basis_at (t -ℤ t) ≡ [] ∷ [] = ap basis_at (minus_self t) in
    ap (λ (rs : List (List ℕ)). map (image_of target degrees images) (map (λ r. (g, r)) rs ++ free_basis_from (suc g) (replicate (length chosen) t) t)) one
    ∙ (ap (λ (v : List Bool). v ∷ map (image_of target degrees images) (free_basis_from (suc g) (replicate (length chosen) t) t)) first ∙ ap (λ (vs : List (List Bool)). x ∷ vs) rest)

pub map_rows-new : (target : GradedModule) (degrees : List ℤ) (images chosen : List (List Bool)) (t : ℤ) → HasUnit target → length images ≡ length degrees → HaveWidth (target.width t) chosen → map_rows target (degrees ++ replicate (length chosen) t) (images ++ chosen) t ≡ map_rows target degrees images t ++ chosen
map_rows-new target degrees images chosen t unit one_each w =
    let n = length degrees in
    let new = replicate (length chosen) t in
    let f = image_of target (degrees ++ new) (images ++ chosen) in
    let start : 0 + n ≡ n = omega arith in
    let split : free_basis (degrees ++ new) t ≡ free_basis degrees t ++ free_basis_from n new t =
    free_basis_from-append 0 degrees new t ∙ ap (λ k. free_basis degrees t ++ free_basis_from k new t) start in
    let old : map f (free_basis degrees t) ≡ map_rows target degrees images t =
    map_same_all (IsOfDegree degrees t) f (image_of target degrees images) (free_basis degrees t) (All-free_basis degrees t) (λ e o.
    let l = o.generator in
    let e1 : degree_at (degrees ++ new) e.0 ≡ degree_at degrees e.0 = get_or_append_left degrees new (pos 0) e.0 l in
    let e2 : row (images ++ chosen) e.0 ≡ row images e.0 = get_or_append_left images chosen [] e.0 (omega arith) in
    cc) in
    let added : map f (free_basis_from n new t) ≡ chosen =
    map_new target (degrees ++ new) (images ++ chosen) t unit n chosen w
    (λ h l. get_or-append-add degrees new h (pos 0) ∙ get_or-replicate (length chosen) h t (pos 0) l)
    (λ h l. ap (λ k. row (images ++ chosen) (k + h)) (sym one_each) ∙ get_or-append-add images chosen h []) in
    let parts : map f (free_basis degrees t ++ free_basis_from n new t) ≡ map f (free_basis degrees t) ++ map f (free_basis_from n new t) = map-append f (free_basis degrees t) (free_basis_from n new t) in
    ap (map f) split ∙ (parts ∙ (ap (λ (z : List (List Bool)). z ++ map f (free_basis_from n new t)) old ∙ ap (λ (z : List (List Bool)). map_rows target degrees images t ++ z) added))

pub HaveWidth-IsChosen : (n : ℕ) (old candidates chosen : List (List Bool)) → HaveWidth n candidates → IsChosen n old candidates chosen → HaveWidth n chosen
HaveWidth-IsChosen n old candidates chosen w p = subst (HaveWidth n) (sym p.chosen_are) (HaveWidth-items_where_true n p.kept candidates w)

-- the choice over the matrix of the map, and the kernel of that matrix with the chosen as last rows, make the step
pub IsStepOver_from_choice : (target : GradedModule) (degrees : List ℤ) (images candidates : List (List Bool)) (t : ℤ) (matrix : Rows) (content : Content) → HasUnit target → length images ≡ length degrees → HaveWidth (target.width t) candidates → matrix.cols ≡ target.width t → matrix.rows ≡ map_rows target degrees images t → IsChosen matrix.cols matrix.rows candidates content.images → IsKernelBasis matrix.cols (matrix.rows ++ content.images) content.kernel → IsStepOver target degrees images candidates t content
IsStepOver_from_choice target degrees images candidates t matrix content unit one_each w cols rows chosen kernel =
    let n = target.width t in
    let old = map_rows target degrees images t in
    let P : ℕ → Type 0 = λ k. IsChosen k matrix.rows candidates content.images in
    let Q : List (List Bool) → Type 0 = λ z. IsChosen n z candidates content.images in
    let is_chosen : IsChosen n old candidates content.images = subst Q rows (subst P cols chosen) in
    let all : matrix.rows ++ content.images ≡ map_rows target (degrees ++ replicate (length content.images) t) (images ++ content.images) t =
    ap (λ (z : List (List Bool)). z ++ content.images) rows ∙ sym (map_rows-new target degrees images content.images t unit one_each (HaveWidth-IsChosen n old candidates content.images w is_chosen)) in
    let R : List (List Bool) → Type 0 = λ z. IsKernelBasis n z content.kernel in
    let S : ℕ → Type 0 = λ k. IsKernelBasis k (matrix.rows ++ content.images) content.kernel in
    record { chosen = is_chosen; kernel = subst R all (subst S cols kernel) }
