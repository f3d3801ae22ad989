-- Maps keep vectors without bare generators: an operation of positive degree makes none.
use Rattle.std.proofs.Common.{◌≡◌, ◌⊎◌, inl, inr, ℕ, zero, suc, ◌<◌, ℤ, pos, ◌+ℤ◌, ◌-ℤ◌, Bool, true, false, ◌&&◌, nat_eq, List, [], ◌∷◌, length, map, ap, subst, ◌∙◌, arith}
use Rattle.std.proofs.lemmas.Int.{ints}
use Rattle.std.proofs.lemmas.Bool.{cases_lt, ne_eqb}
use Rattle.std.proofs.lemmas.List.{length-map, get_or-map}
use Rattle.f2_vec.specs.Vectors.{bit, plus}
use Rattle.f2_vec.specs.Spans.{row, HaveWidth, combination}
use Rattle.f2_vec.proofs.Sums.{bit-zeros}
use Rattle.f2_vec.proofs.Spans.{HaveWidth-tail, bit-combination-cons, bit-combination_zero}
use Rattle.f2_vec.proofs.Combinations.{HaveWidth-map}
use Rattle.milnor_basis.specs.Exponents.{degree_of}
use Rattle.milnor_basis.specs.Product.{coefficient}
use Rattle.milnor_basis.proofs.ExponentLemmas.{of_degree_zero}
use Rattle.free_module.specs.FreeModule.{degree_at, free_basis, free_width, acted, free_action}
use Rattle.free_module.specs.FreeBasis.{element}
use Rattle.free_module.specs.Inside.FreeLaws.{coefficient_at}
use Rattle.free_module.specs.Graded.{free_graded}
use Rattle.resolution_laws.proofs.Generators.{element-IsOfDegree}
use Rattle.lift_laws.specs.Maps.{shifted, value_of, extended}
use Rattle.lift_laws.proofs.Facts.{HasNoBare}

-- Sq() is the one operation of degree 0

-- where each row with the coefficient 1 has a 0, so has the combination
pub bit-combination_where : (n : ℕ) (c : List Bool) (rows : List (List Bool)) (k : ℕ) → HaveWidth n rows → ((i : ℕ) → i < length rows → (bit c i ≡ false) ⊎ (bit (row rows i) k ≡ false)) → bit (combination n c rows) k ≡ false
bit-combination_where n [] rows k h z = bit-zeros n k
bit-combination_where n (c ∷ cs) [] k h z = bit-zeros n k
bit-combination_where n (false ∷ cs) (r ∷ rows) k h z =
    bit-combination_where n cs rows k (HaveWidth-tail n r rows h) (λ i l. z (suc i) (omega arith))
bit-combination_where n (true ∷ cs) (r ∷ rows) k h z =
    let zr : bit r k ≡ false = elim (z zero (omega arith)) [ inl a ↦ cc (a) | inr b ↦ b ] in
    let ih : bit (combination n cs rows) k ≡ false = bit-combination_where n cs rows k (HaveWidth-tail n r rows h) (λ i l. z (suc i) (omega arith)) in
    bit-combination-cons n cs r rows k h ∙ ap (λ t. plus t (bit (combination n cs rows) k)) zr ∙ ih

-- no operation of positive degree has a bare generator
pub action-HasNoBare : (es : List ℤ) (r : List ℕ) (u : ℤ) (v : List Bool) → 0 < degree_of r → HasNoBare es (u +ℤ pos (degree_of r)) (free_action es r u v)
action-HasNoBare es r u v h j l bare =
    let above = u +ℤ pos (degree_of r) in
    let f = element (free_basis es above) j in
    let of = (element-IsOfDegree es above j l).degree in
    let none : degree_of f.1 ≡ 0 = ap degree_of bare in
    bit-combination_zero (free_width es above) v (map (acted es r above) (free_basis es u)) j
    (HaveWidth-map (free_width es above) (acted es r above) (free_basis es u) (λ x. length-map (free_basis es above) (coefficient_at x.0 r x.1)))
    (λ i b.
    let c : i < length (free_basis es u) = omega (arith, length-map (free_basis es u) (acted es r above)) in
    let e = element (free_basis es u) i in
    let oe = (element-IsOfDegree es u i c).degree in
    let here : row (map (acted es r above) (free_basis es u)) i ≡ acted es r above e = get_or-map (acted es r above) (free_basis es u) i (0, []) [] c in
    let there : bit (acted es r above e) j ≡ nat_eq f.0 e.0 && coefficient r e.1 f.1 = get_or-map (λ (f : ℕ × List ℕ). nat_eq f.0 e.0 && coefficient r e.1 f.1) (free_basis es above) j (0, []) false l in
    let apart : ¬ (f.0 ≡ e.0) = λ same. let deg : degree_at es f.0 ≡ degree_at es e.0 = ap (degree_at es) same in omega (arith, ints) in
    ap (λ (z : List Bool). bit z j) here ∙ (there ∙ ap (λ (b : Bool). b && coefficient r e.1 f.1) (ne_eqb f.0 e.0 apart)))

pub lowered-HasNoBare : (x : ℤ) (ds es : List ℤ) (top : ℤ) (f : ℕ → List Bool) (t : ℤ) (v : List Bool) → HaveWidth (free_width es (t -ℤ x)) (map (value_of (shifted x (free_graded es)) ds f) (free_basis ds t)) → HasNoBare ds t v → HasNoBare es (t -ℤ x) (extended (shifted x (free_graded es)) ds f t v)
lowered-HasNoBare x ds es top f t v wide none_in j l bare =
    let target = shifted x (free_graded es) in
    let rows = map (value_of target ds f) (free_basis ds t) in
    bit-combination_where (free_width es (t -ℤ x)) v rows j wide (λ i b.
    let c : i < length (free_basis ds t) = omega (arith, length-map (free_basis ds t) (value_of target ds f)) in
    let e = element (free_basis ds t) i in
    let o = element-IsOfDegree ds t i c in
    let deg = o.degree in
    elim (cases_lt 0 (degree_of e.1)) [
      | inl positive ↦
          let here : row rows i ≡ value_of target ds f e = get_or-map (value_of target ds f) (free_basis ds t) i (0, []) [] c in
          let at : (degree_at ds e.0 -ℤ x) +ℤ pos (degree_of e.1) ≡ t -ℤ x = omega (arith, ints) in
          let P : ℤ → Type 0 = λ u. HasNoBare es u (value_of target ds f e) in
          let none : HasNoBare es (t -ℤ x) (value_of target ds f e) = subst P at (action-HasNoBare es e.1 (degree_at ds e.0 -ℤ x) (f e.0) positive) in
          inr (ap (λ (z : List Bool). bit z j) here ∙ none j l bare)
      | inr zero_degree ↦ inl (none_in i c (of_degree_zero e.1 o.trimmed (omega arith)))
    ])
