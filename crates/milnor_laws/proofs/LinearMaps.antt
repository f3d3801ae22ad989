-- A linear map from a free module to a module commutes with each Sq(R).
use Rattle.std.proofs.Common.{◌≡◌, ℕ, zero, suc, ◌+◌, ◌<◌, ℤ, pos, ◌+ℤ◌, ◌-ℤ◌, Bool, List, [], ◌∷◌, ◌++◌, length, map, ap, sym, subst, ◌∙◌, arith}
use Rattle.std.proofs.lemmas.List.{length-map, map-append}
use Rattle.std.proofs.lemmas.Int.{ints}
use Rattle.f2_vec.specs.Vectors.{sum_of, zeros}
use Rattle.f2_vec.specs.Spans.{row, HaveWidth, combination}
use Rattle.f2_vec.proofs.Sums.{sum_of-zeros_left, sum_of-zeros_right}
use Rattle.f2_vec.proofs.Spans.{HaveWidth-front, HaveWidth-back, length-combination, combination-zeros, combination-append}
use Rattle.f2_vec.proofs.Combinations.{map-map, map_same_all, HaveWidth-map, combination-combination}
use Rattle.milnor_basis.specs.Exponents.{degree_of, IsTrimmed}
use Rattle.milnor_basis.specs.Basis.{basis_of}
use Rattle.milnor_basis.specs.Product.{coefficient, product_bits}
use Rattle.milnor_product.specs.Times.{basis_at}
use Rattle.free_module.specs.FreeModule.{degree_at, free_basis_from, free_basis, free_width, acted, free_action}
use Rattle.free_module.specs.FreeBasis.{IsOfDegree}
use Rattle.free_module.specs.Inside.FreeLaws.{coefficient_at, on, own_part, other_part, later_parts}
use Rattle.free_module.specs.Graded.{GradedModule, IsSteenrodModule}
use Rattle.free_module.specs.LinearMap.{image_of, map_rows, AreImages, mapped, MapsCommute}
use Rattle.free_module.proofs.FreeBasis.{All-free_basis}
use Rattle.free_module.proofs.MapRows.{HaveWidth-map_rows}

-- Sums over the basis of degree t, with the coefficients of Sq(R) on (g, S)
module _ (w : ℕ) (f : ℕ × List ℕ → List Bool) (r s : List ℕ) where
  abbrev sum_over : ℕ → List (ℕ × List ℕ) → List Bool
  sum_over g basis = combination w (map (coefficient_at g r s) basis) (map f basis)

  sum_over-append : (g : ℕ) (xs ys : List (ℕ × List ℕ)) → HaveWidth w (map f (xs ++ ys)) → sum_over g (xs ++ ys) ≡ sum_of (sum_over g xs) (sum_over g ys)
  sum_over-append g xs ys h =
      let c = map (coefficient_at g r s) xs in
      let d = map (coefficient_at g r s) ys in
      let two : HaveWidth w (map f xs ++ map f ys) = subst (HaveWidth w) (map-append f xs ys) h in
      ap (λ b. combination w b (map f (xs ++ ys))) (map-append (coefficient_at g r s) xs ys)
      ∙ ap (combination w (c ++ d)) (map-append f xs ys)
      ∙ combination-append w c d (map f xs) (map f ys) (HaveWidth-front w (map f xs) (map f ys) two) (HaveWidth-back w (map f xs) (map f ys) two) (length-map xs (coefficient_at g r s) ∙ sym (length-map xs f))

  HaveWidth-later : (xs ys : List (ℕ × List ℕ)) → HaveWidth w (map f (xs ++ ys)) → HaveWidth w (map f ys)
  HaveWidth-later xs ys h = HaveWidth-back w (map f xs) (map f ys) (subst (HaveWidth w) (map-append f xs ys) h)

  HaveWidth-earlier : (xs ys : List (ℕ × List ℕ)) → HaveWidth w (map f (xs ++ ys)) → HaveWidth w (map f xs)
  HaveWidth-earlier xs ys h = HaveWidth-front w (map f xs) (map f ys) (subst (HaveWidth w) (map-append f xs ys) h)

  -- are sums over the block of g alone: the generators are numbered from k on, and g stands at place p
  own_sum : (k : ℕ) (ds : List ℤ) (t : ℤ) (p : ℕ) → p < length ds → HaveWidth w (map f (free_basis_from k ds t)) → sum_over (k + p) (free_basis_from k ds t) ≡ combination w (map (coefficient r s) (basis_at (t -ℤ degree_at ds p))) (map (λ q. f (k + p, q)) (basis_at (t -ℤ degree_at ds p)))
  own_sum k [] t p l h = absurd (omega arith)
  own_sum k (d ∷ ds) t zero l h =
      let b = basis_at (t -ℤ d) in
      let rest = free_basis_from (suc k) ds t in
      let z : k + 0 ≡ k = omega arith in
      let rows = map (λ q. f (k, q)) b in
      let none : sum_over k rest ≡ zeros w = ap (λ c. combination w c (map f rest)) (later_parts (suc k) ds k r s t (omega arith)) ∙ combination-zeros w (length rest) (map f rest) in
      let same : map f (on k b) ≡ rows = map-map f (λ q. (k, q)) b in
      let own : sum_over k (on k b) ≡ combination w (map (coefficient r s) b) rows = ap (λ c. combination w c (map f (on k b))) (own_part k r s b) ∙ ap (combination w (map (coefficient r s) b)) same in
      let width : HaveWidth w rows = subst (HaveWidth w) same (HaveWidth-earlier (on k b) rest h) in
      let whole : sum_over k (on k b ++ rest) ≡ combination w (map (coefficient r s) b) rows = sum_over-append k (on k b) rest h
      ∙ ap (sum_of (sum_over k (on k b))) none
      ∙ ap (λ x. sum_of x (zeros w)) own
      ∙ sum_of-zeros_right w (combination w (map (coefficient r s) b) rows) (length-combination w (map (coefficient r s) b) rows width) in
      let P : ℕ → Type 0 = λ g. sum_over g (on k b ++ rest) ≡ combination w (map (coefficient r s) b) (map (λ q. f (g, q)) b) in
      subst P (sym z) whole
  own_sum k (d ∷ ds) t (suc p) l h =
      let b = basis_at (t -ℤ d) in
      let rest = free_basis_from (suc k) ds t in
      let g = k + suc p in
      let e : suc k + p ≡ g = omega arith in
      let later = HaveWidth-later (on k b) rest h in
      let none : sum_over g (on k b) ≡ zeros w = ap (λ c. combination w c (map f (on k b))) (other_part k g r s b (omega arith)) ∙ combination-zeros w (length b) (map f (on k b)) in
      let wide : length (sum_over g rest) ≡ w = length-combination w (map (coefficient_at g r s) rest) (map f rest) later in
      let P : ℕ → Type 0 = λ i. sum_over i rest ≡ combination w (map (coefficient r s) (basis_at (t -ℤ degree_at ds p))) (map (λ q. f (i, q)) (basis_at (t -ℤ degree_at ds p))) in
      sum_over-append g (on k b) rest h
      ∙ ap (λ x. sum_of x (sum_over g rest)) none
      ∙ sum_of-zeros_left w (sum_over g rest) wide
      ∙ subst P e (own_sum (suc k) ds t p (omega arith) later)

module _ (target : GradedModule) (degrees : List ℤ) (images : List (List Bool)) (is : IsSteenrodModule target) (fit : AreImages target degrees images) where
  abbrev image : ℕ × List ℕ → List Bool
  image = image_of target degrees images

  HaveWidth-images : (t : ℤ) → HaveWidth (target.width t) (map_rows target degrees images t)
  HaveWidth-images t = HaveWidth-map_rows target degrees images t is.widths fit

  module _ (r : List ℕ) (t : ℤ) (hr : IsTrimmed r) where
    abbrev above : ℤ
    above = t +ℤ pos (degree_of r)

    -- Sq(R) on the image of an element, and the image of Sq(R) on it
    acted_image : (e : ℕ × List ℕ) → IsOfDegree degrees t e → target.action r t (image e) ≡ mapped target degrees images above (acted degrees r above e)
    acted_image e o =
        let d = degree_at degrees e.0 in
        let n = degree_of r + degree_of e.1 in
        let v = row images e.0 in
        let c : d +ℤ pos (degree_of e.1) ≡ t = o.degree in
        let x : d +ℤ pos n ≡ above = omega (arith, ints) in
        let y : pos n ≡ above -ℤ d = omega (arith, ints) in
        let z : 0 + e.0 ≡ e.0 = omega arith in
        let w = target.width above in
        let one : target.action r (d +ℤ pos (degree_of e.1)) (image e) ≡ combination (target.width (d +ℤ pos n)) (product_bits r e.1) (map (λ q. target.action q d v) (basis_of n)) = is.products r e.1 d v hr o.trimmed (fit.widths e.0 o.generator) in
        let P : ℕ → Type 0 = λ g. sum_over w image r e.1 g (free_basis degrees above) ≡ combination w (map (coefficient r e.1) (basis_at (above -ℤ d))) (map (λ q. image (g, q)) (basis_at (above -ℤ d))) in
        let own : sum_over w image r e.1 e.0 (free_basis degrees above) ≡ combination w (map (coefficient r e.1) (basis_at (above -ℤ d))) (map (λ q. target.action q d v) (basis_at (above -ℤ d))) = subst P z (own_sum w image r e.1 0 degrees above e.0 o.generator (HaveWidth-images above)) in
        ap (λ i. target.action r i (image e)) (sym c)
        ∙ one
        ∙ ap (λ i. combination (target.width i) (product_bits r e.1) (map (λ q. target.action q d v) (basis_of n))) x
        ∙ ap (λ i. combination w (map (coefficient r e.1) (basis_at i)) (map (λ q. target.action q d v) (basis_at i))) y
        ∙ sym own

    map_commutes : (v : List Bool) → length v ≡ free_width degrees t → target.action r t (mapped target degrees images t v) ≡ mapped target degrees images above (free_action degrees r t v)
    map_commutes v l =
        let w = target.width above in
        let basis = free_basis degrees t in
        let rows = map (acted degrees r above) basis in
        let wide : HaveWidth (free_width degrees above) rows = HaveWidth-map (free_width degrees above) (acted degrees r above) basis (λ x. length-map (free_basis degrees above) (coefficient_at x.0 r x.1)) in
        let each : map (λ e. target.action r t (image e)) basis ≡ map (λ e. mapped target degrees images above (acted degrees r above e)) basis = map_same_all (IsOfDegree degrees t) (λ e. target.action r t (image e)) (λ e. mapped target degrees images above (acted degrees r above e)) basis (All-free_basis degrees t) acted_image in
        is.linear r t v (map_rows target degrees images t) (HaveWidth-images t)
        ∙ ap (combination w v) (map-map (target.action r t) image basis ∙ each ∙ sym (map-map (mapped target degrees images above) (acted degrees r above) basis))
        ∙ sym (combination-combination w (free_width degrees above) v rows (map_rows target degrees images above) (length-map (free_basis degrees above) image) wide (HaveWidth-images above))

pub maps_commute : MapsCommute
maps_commute target degrees images is fit r t v hr l = map_commutes target degrees images is fit r t hr v l
