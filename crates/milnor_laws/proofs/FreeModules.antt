-- Free modules are modules over the Steenrod algebra: the product acts on each block.
use Rattle.std.proofs.Common.{◌≡◌, ℕ, suc, ◌+◌, ℤ, pos, ◌+ℤ◌, ◌-ℤ◌, Bool, List, [], ◌∷◌, ◌++◌, length, map, take, drop, refl, ap, sym, ◌∙◌, arith}
use Rattle.std.proofs.Math.Path.{fun_ext}
use Rattle.std.proofs.Math.Seq.{take-append_seam, drop-append_seam}
use Rattle.std.proofs.lemmas.List.{length-append, length-drop, length-map, length-take-le}
use Rattle.std.proofs.lemmas.Int.{ints}
use Rattle.f2_vec.specs.Spans.{HaveWidth, combination}
use Rattle.f2_vec.proofs.Combinations.{HaveWidth-map, HaveWidth-map_where, combination-combination, combination-parts, combination-zero_rows}
use Rattle.milnor_basis.specs.Exponents.{degree_of, IsTrimmed}
use Rattle.milnor_basis.specs.Basis.{basis_of}
use Rattle.milnor_basis.specs.Product.{product_bits}
use Rattle.milnor_basis.proofs.BasisLemmas.{All-basis_of}
use Rattle.milnor_product.specs.Times.{basis_at, times_at}
use Rattle.milnor_product.proofs.Multiples.{length-times_at}
use Rattle.free_module.specs.FreeModule.{free_basis_from, free_basis, free_width, acted, free_action}
use Rattle.free_module.specs.Inside.FreeLaws.{blocks, coefficient_at, free_action_is_blocks, free_HasUnit, free_KeepsWidths, length-free_basis_from}
use Rattle.free_module.specs.Graded.{IsLinear, ActsByProducts, free_graded, FreeModulesAreModules}
use Rattle.milnor_laws.proofs.Vectors.{product_acts}

pub HaveWidth-acted : (degrees : List ℤ) (r : List ℕ) (t above : ℤ) → HaveWidth (free_width degrees above) (map (acted degrees r above) (free_basis degrees t))
HaveWidth-acted degrees r t above =
    HaveWidth-map (free_width degrees above) (acted degrees r above) (free_basis degrees t) (λ x. length-map (free_basis degrees above) (coefficient_at x.0 r x.1))

-- Sq(R) is given by a matrix
free_IsLinear : (degrees : List ℤ) → IsLinear (free_graded degrees)
free_IsLinear degrees r t c rows h =
    let above = t +ℤ pos (degree_of r) in
    combination-combination (free_width degrees above) (free_width degrees t) c rows (map (acted degrees r above) (free_basis degrees t)) (length-map (free_basis degrees t) (acted degrees r above)) h (HaveWidth-acted degrees r t above)

length-blocks : (g : ℕ) (ds : List ℤ) (r : List ℕ) (t above : ℤ) (v : List Bool) → above ≡ t +ℤ pos (degree_of r) → length (blocks r ds t v) ≡ length (free_basis_from g ds above)
length-blocks g [] r t above v e = refl
length-blocks g (d ∷ ds) r t above v e =
    let b = length (basis_at (t -ℤ d)) in
    let here = times_at r (t -ℤ d) (take b v) in
    let rest = blocks r ds t (drop b v) in
    let f : (t -ℤ d) +ℤ pos (degree_of r) ≡ above -ℤ d = omega (arith, ints) in
    let l : length here ≡ length (basis_at (above -ℤ d)) = length-times_at r (t -ℤ d) (take b v) ∙ ap (λ n. length (basis_at n)) f in
    let ih : length rest ≡ length (free_basis_from (suc g) ds above) = length-blocks (suc g) ds r t above (drop b v) e in
    length-append here rest ∙ omega arith ∙ sym (length-free_basis_from g d ds above)

-- two vectors, one behind the other
take-parts : (n : ℕ) (a b : List Bool) → length a ≡ n → take n (a ++ b) ≡ a
take-parts n a b e = ap (λ k. take k (a ++ b)) (sym e) ∙ take-append_seam a b

drop-parts : (n : ℕ) (a b : List Bool) → length a ≡ n → drop n (a ++ b) ≡ b
drop-parts n a b e = ap (λ k. drop k (a ++ b)) (sym e) ∙ drop-append_seam a b

abbrev HasDegree : ℕ → List ℕ → Type 0
HasDegree n x = IsTrimmed x × (degree_of x ≡ n)

module _ (r s : List ℕ) where
  abbrev terms : List (List ℕ)
  terms = basis_of (degree_of r + degree_of s)

  abbrev both : ℤ → ℤ
  both t = t +ℤ pos (degree_of r + degree_of s)

  HaveWidth-times_at : (n m : ℤ) (v : List Bool) → m ≡ both n → HaveWidth (length (basis_at m)) (map (λ q. times_at q n v) terms)
  HaveWidth-times_at n m v e =
      HaveWidth-map_where (HasDegree (degree_of r + degree_of s)) (length (basis_at m)) (λ q. times_at q n v) terms
      (λ q h. let d = h.1 in let f : n +ℤ pos (degree_of q) ≡ m = omega (arith, ints) in length-times_at q n v ∙ ap (λ k. length (basis_at k)) f)
      (All-basis_of (degree_of r + degree_of s))

  blocks-products : (g : ℕ) (ds : List ℤ) (t : ℤ) (v : List Bool) → length v ≡ length (free_basis_from g ds t) → blocks r ds (t +ℤ pos (degree_of s)) (blocks s ds t v) ≡ combination (length (free_basis_from g ds (both t))) (product_bits r s) (map (λ q. blocks q ds t v) terms)
  blocks-products g [] t v e = sym (combination-zero_rows 0 (product_bits r s) terms)
  blocks-products g (d ∷ ds) t v e =
      let n = t -ℤ d in
      let b = length (basis_at n) in
      let v1 = take b v in
      let v2 = drop b v in
      let middle = t +ℤ pos (degree_of s) in
      let a = length (basis_at (middle -ℤ d)) in
      let here = times_at s n v1 in
      let rest = blocks s ds t v2 in
      let w1 = length (basis_at (both n)) in
      let w2 = length (free_basis_from (suc g) ds (both t)) in
      let l : length v ≡ b + length (free_basis_from (suc g) ds t) = e ∙ length-free_basis_from g d ds t in
      let f : n +ℤ pos (degree_of s) ≡ middle -ℤ d = omega (arith, ints) in
      let k : both n ≡ both t -ℤ d = omega (arith, ints) in
      let la : length here ≡ a = length-times_at s n v1 ∙ ap (λ i. length (basis_at i)) f in
      let own : times_at r (middle -ℤ d) here ≡ combination w1 (product_bits r s) (map (λ q. times_at q n v1) terms) = ap (λ i. times_at r i here) (sym f) ∙ product_acts r s n v1 (length-take-le b v (omega arith)) in
      let ih : blocks r ds middle rest ≡ combination w2 (product_bits r s) (map (λ q. blocks q ds t v2) terms) = blocks-products (suc g) ds t v2 (omega (arith, length-drop b v)) in
      let w : w1 + w2 ≡ length (free_basis_from g (d ∷ ds) (both t)) = ap (λ i. length (basis_at i) + w2) k ∙ sym (length-free_basis_from g d ds (both t)) in
      let parts : combination (w1 + w2) (product_bits r s) (map (λ q. times_at q n v1 ++ blocks q ds t v2) terms) ≡ combination w1 (product_bits r s) (map (λ q. times_at q n v1) terms) ++ combination w2 (product_bits r s) (map (λ q. blocks q ds t v2) terms) = combination-parts w1 w2 (product_bits r s) (λ q. times_at q n v1) (λ q. blocks q ds t v2) terms (HaveWidth-times_at n (both n) v1 refl) in
      ap (λ x. times_at r (middle -ℤ d) x ++ blocks r ds middle (drop a (here ++ rest))) (take-parts a here rest la)
      ∙ ap (λ x. times_at r (middle -ℤ d) here ++ blocks r ds middle x) (drop-parts a here rest la)
      ∙ ap (λ x. x ++ blocks r ds middle rest) own
      ∙ ap (λ x. combination w1 (product_bits r s) (map (λ q. times_at q n v1) terms) ++ x) ih
      ∙ sym parts
      ∙ ap (λ m. combination m (product_bits r s) (map (λ q. blocks q (d ∷ ds) t v) terms)) w

free_ActsByProducts : (degrees : List ℤ) → ActsByProducts (free_graded degrees)
free_ActsByProducts degrees r s t v hr hs e =
    let middle = t +ℤ pos (degree_of s) in
    let inner : free_action degrees s t v ≡ blocks s degrees t v = free_action_is_blocks degrees s t v e in
    let l : length (blocks s degrees t v) ≡ free_width degrees middle = length-blocks 0 degrees s t middle v refl in
    ap (free_action degrees r middle) inner
    ∙ free_action_is_blocks degrees r middle (blocks s degrees t v) l
    ∙ blocks-products r s 0 degrees t v e
    ∙ ap (λ f. combination (free_width degrees (t +ℤ pos (degree_of r + degree_of s))) (product_bits r s) (map f (basis_of (degree_of r + degree_of s)))) (fun_ext (λ q. sym (free_action_is_blocks degrees q t v e)))

pub free_modules_are_modules : FreeModulesAreModules
free_modules_are_modules degrees = record {
  unit = free_HasUnit degrees;
  widths = free_KeepsWidths degrees;
  linear = free_IsLinear degrees;
  products = free_ActsByProducts degrees;
}
