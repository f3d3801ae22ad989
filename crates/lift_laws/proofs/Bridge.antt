-- The map on source degrees that are lowered, which the code computes, is the map to the module whose degrees are raised.
use Rattle.std.proofs.Common.{◌≡◌, ℕ, suc, ℤ, pos, ◌-ℤ◌, Bool, List, [], ◌∷◌, ◌++◌, map, refl, ap, ◌∙◌, arith}
use Rattle.std.proofs.lemmas.Int.{ints}
use Rattle.std.proofs.lemmas.List.{get_or-map}
use Rattle.f2_vec.specs.Spans.{row, combination}
use Rattle.f2_vec.proofs.Combinations.{map_same_all}
use Rattle.milnor_product.specs.Times.{basis_at}
use Rattle.free_module.specs.FreeModule.{free_basis_from, free_basis}
use Rattle.free_module.specs.FreeBasis.{IsOfDegree}
use Rattle.free_module.specs.Graded.{GradedModule}
use Rattle.free_module.specs.LinearMap.{mapped, image_of}
use Rattle.free_module.proofs.FreeBasis.{All-free_basis}
use Rattle.lift_laws.specs.Maps.{shifted, lowered_by, value_of, extended}

pub basis-lowered : (x : ℤ) (g : ℕ) (ds : List ℤ) (t : ℤ) → free_basis_from g (lowered_by x ds) (t -ℤ x) ≡ free_basis_from g ds t
basis-lowered x g [] t = refl
basis-lowered x g (d ∷ ds) t =
    let e : (t -ℤ x) -ℤ (d -ℤ x) ≡ t -ℤ d = omega (arith, ints) in
    ap (λ (z : ℤ). map (λ (r : List ℕ). let w : ℕ × List ℕ = (g, r) in w) (basis_at z) ++ free_basis_from (suc g) (lowered_by x ds) (t -ℤ x)) e
    ∙ ap (λ (z : List (ℕ × List ℕ)). map (λ (r : List ℕ). let w : ℕ × List ℕ = (g, r) in w) (basis_at (t -ℤ d)) ++ z) (basis-lowered x (suc g) ds t)

pub mapped-lowered : (m : GradedModule) (x : ℤ) (ds : List ℤ) (images : List (List Bool)) (t : ℤ) (v : List Bool) → mapped m (lowered_by x ds) images (t -ℤ x) v ≡ extended (shifted x m) ds (row images) t v
mapped-lowered m x ds images t v =
    let basis = basis-lowered x 0 ds t in
    ap (λ (z : List (ℕ × List ℕ)). combination (m.width (t -ℤ x)) v (map (image_of m (lowered_by x ds) images) z)) basis
    ∙ ap (combination (m.width (t -ℤ x)) v) (map_same_all (IsOfDegree ds t) (image_of m (lowered_by x ds) images) (value_of (shifted x m) ds (row images)) (free_basis ds t) (All-free_basis ds t) (λ e o.
    ap (λ (d : ℤ). m.action e.1 d (row images e.0)) (get_or-map (λ (d : ℤ). d -ℤ x) ds e.0 (pos 0) (pos 0) o.generator)))
