-- The columns of a map at the pivots of a kernel are coordinates on its vectors.
use Rattle.std.proofs.Common.{◌≡◌, ◌<◌, inl, inr, [], Bool, List, ℕ, length, map, reverse, get_or, ap, sym, subst, ◌∙◌, arith}
use Rattle.std.proofs.lemmas.Bool.{cases_order}
use Rattle.std.proofs.lemmas.List.{get_or-map, length-map, length-reverse}
use Rattle.f2_vec.specs.Vectors.{bit}
use Rattle.f2_vec.specs.Spans.{row, HaveWidth}
use Rattle.f2_vec.proofs.Combinations.{map-map, HaveWidth-map}
use Rattle.f2_matrix.specs.Echelon.{IsReduced, HasNoZeroRow}
use Rattle.f2_matrix.specs.Preimages.{pivot_of}
use Rattle.f2_matrix.proofs.Pivots.{is_pivot}
use Rattle.f2_choice.specs.Inside.Columns.{column}
use Rattle.f2_choice.specs.Coordinates.{coordinates}

-- pivots are apart
pub pivots_apart : (rows : List (List Bool)) → IsReduced rows → HasNoZeroRow rows → (i j : ℕ) → i < length rows → j < length rows → pivot_of (row rows i) ≡ pivot_of (row rows j) → i ≡ j
pivots_apart rows reduced nonzero i j l m e = elim (cases_order i j) [
  | inl s ↦ s
  | inr o ↦ elim o [
    | inl b ↦ absurd (let rise = reduced.pivots_rise i j (pivot_of (row rows i)) (pivot_of (row rows j)) b (is_pivot (row rows i) (nonzero i l)) (is_pivot (row rows j) (nonzero j m)) in omega (arith, rise, e))
    | inr b ↦ absurd (let rise = reduced.pivots_rise j i (pivot_of (row rows j)) (pivot_of (row rows i)) b (is_pivot (row rows j) (nonzero j m)) (is_pivot (row rows i) (nonzero i l)) in omega (arith, rise, e))
  ]
]

pub at_pivot : (rows : List (List Bool)) (pivots : List ℕ) (i : ℕ) → pivots ≡ map pivot_of rows → i < length rows → get_or pivots i 0 ≡ pivot_of (row rows i)
at_pivot rows pivots i e l = ap (λ z. get_or z i 0) e ∙ get_or-map pivot_of rows i [] 0 l

-- columns at the pivots are coordinates
pub columns_are : (below rows form : List (List Bool)) (pivots : List ℕ) → pivots ≡ map pivot_of below → form ≡ map (λ p. map (λ v. bit v p) (reverse rows)) pivots → form ≡ coordinates below rows
columns_are below rows form pivots e is =
    let f : ℕ → List Bool = λ p. map (λ v. bit v p) (reverse rows) in
    is ∙ ap (map f) e ∙ map-map f pivot_of below

pub wide_form : (n : ℕ) (below rows form : List (List Bool)) → form ≡ coordinates below rows → length rows ≡ n → HaveWidth n form
wide_form n below rows form is e =
    subst (λ (z : List (List Bool)). HaveWidth n z) (sym is)
    (HaveWidth-map n (λ c. column (pivot_of c) (reverse rows)) below (λ c. length-map (reverse rows) (λ v. bit v (pivot_of c)) ∙ length-reverse rows ∙ e))

pub many_form : (below rows form : List (List Bool)) → form ≡ coordinates below rows → length form ≡ length below
many_form below rows form is = ap length is ∙ length-map below (λ c. column (pivot_of c) (reverse rows))
