-- Sums of the values of the elements of one degree.
use Rattle.std.specs.Prelude.{nat_eq}
use Rattle.std.specs.Cmp.Lexicographic.{bytes_decides, pointwise}
use Rattle.std.specs.List.{filter}
use Rattle.std.proofs.Common.{◌≡◌, ℕ, ◌<◌, Bool, true, false, cond, ◌&&◌, List, [], ◌∷◌, length, map, get_or, refl, sym, ◌∙◌, ap, inl, inr, arith}
use Rattle.std.proofs.lemmas.Bool.{cases_lt, false_from_ne_true}
use Rattle.std.proofs.lemmas.List.{get_or_default, get_or_past, get_or-map, length-map}
use Rattle.f2_vec.specs.Vectors.{bit, sum_of, plus}
use Rattle.f2_vec.specs.Spans.{HaveWidth, combination}
use Rattle.f2_vec.proofs.Spans.{combination-sum_of, combination-zeros}
use Rattle.f2_vec.proofs.Combinations.{map_same_all, combination_alone}
use Rattle.milnor_laws.proofs.Vectors.{sum_of-map, zeros-map}
use Rattle.milnor_basis.specs.Exponents.{degree_of, IsTrimmed}
use Rattle.milnor_basis.specs.Basis.{basis_of}
use Rattle.milnor_basis.proofs.BasisLemmas.{All-basis_of, Contains-basis_of}
use Rattle.milnor_basis.specs.Product.{odd_by}
use Rattle.milnor_basis.proofs.Places.{basis_of-once}
use Rattle.finite_module.specs.Module.{total}

abbrev pub HasDegree : ℕ → List ℕ → Type 0
HasDegree n t = IsTrimmed t × (degree_of t ≡ n)

-- the sum of the values of the elements of degree n that pass
abbrev pub chosen : ℕ → ℕ → (List ℕ → List Bool) → (List ℕ → Bool) → List Bool
chosen w n v c = combination w (map c (basis_of n)) (map v (basis_of n))

pub filter-filter : {X : Type 0} → (p q : X → Bool) (xs : List X) → filter p (filter q xs) ≡ filter (λ x. q x && p x) xs
filter-filter p q [] = refl
filter-filter p q (x ∷ xs) = at (q x) (filter-filter p q xs)
  where
    at : (b : Bool) → filter p (filter q xs) ≡ filter (λ y. q y && p y) xs → filter p (cond b (x ∷ filter q xs) (filter q xs)) ≡ cond (b && p x) (x ∷ filter (λ y. q y && p y) xs) (filter (λ y. q y && p y) xs)
    at true e = ap (λ ys. cond (p x) (x ∷ ys) ys) e
    at false e = e

pub chosen-same : (w n : ℕ) (v : List ℕ → List Bool) (c d : List ℕ → Bool) → ((t : List ℕ) → HasDegree n t → c t ≡ d t) → chosen w n v c ≡ chosen w n v d
chosen-same w n v c d h = ap (λ bs. combination w bs (map v (basis_of n))) (map_same_all (HasDegree n) c d (basis_of n) (All-basis_of n) h)

module _ (w n : ℕ) (v : List ℕ → List Bool) (wide : HaveWidth w (map v (basis_of n))) where
  pub chosen-plus : (c d : List ℕ → Bool) → chosen w n v (λ t. plus (c t) (d t)) ≡ sum_of (chosen w n v c) (chosen w n v d)
  chosen-plus c d =
      ap (λ bs. combination w bs (map v (basis_of n))) (sym (sum_of-map c d (basis_of n)))
      ∙ combination-sum_of w (map c (basis_of n)) (map d (basis_of n)) (map v (basis_of n)) wide (length-map (basis_of n) c ∙ sym (length-map (basis_of n) d))

  pub chosen-total : {X : Type 0} → (g : X → List ℕ → Bool) (xs : List X) → total w (map (λ x. chosen w n v (g x)) xs) ≡ chosen w n v (λ t. odd_by (λ x. g x t) xs)
  chosen-total g [] =
      sym (ap (λ bs. combination w bs (map v (basis_of n))) (sym (zeros-map (basis_of n))) ∙ combination-zeros w (length (basis_of n)) (map v (basis_of n)))
  chosen-total g (x ∷ xs) = ap (sum_of (chosen w n v (g x))) (chosen-total g xs) ∙ sym (chosen-plus (g x) (λ t. odd_by (λ y. g y t) xs))

  pub chosen-one : (r : List ℕ) → HasDegree n r → chosen w n v (pointwise nat_eq r) ≡ v r
  chosen-one r h =
      let basis = basis_of n in
      let c = Contains-basis_of n r h.0 h.1 in
      let i = c.0 in
      let here : get_or basis i [] ≡ r = get_or_default basis i [] r c.1 ∙ c.2 in
      let at : (j : ℕ) → j < length basis → bit (map (pointwise nat_eq r) basis) j ≡ pointwise nat_eq r (get_or basis j []) = λ j l. get_or-map (pointwise nat_eq r) basis j [] false l in
      let one : bit (map (pointwise nat_eq r) basis) i ≡ true = at i c.1 ∙ (bytes_decides r (get_or basis i [])).1 (sym here) in
      let others : (j : ℕ) → ¬ (j ≡ i) → bit (map (pointwise nat_eq r) basis) j ≡ false = λ j d. elim (cases_lt j (length basis)) [
        | inl l ↦ at j l ∙ false_from_ne_true (pointwise nat_eq r (get_or basis j [])) (λ e. d (basis_of-once n j i l c.1 (sym ((bytes_decides r (get_or basis j [])).0 e) ∙ sym here)))
        | inr l ↦ get_or_past (map (pointwise nat_eq r) basis) j false (omega (arith, length-map basis (pointwise nat_eq r)))
      ] in
      combination_alone w (map (pointwise nat_eq r) basis) (map v basis) i wide (omega (arith, c.1, length-map basis v)) one others
      ∙ get_or-map v basis i [] [] c.1
      ∙ ap v here
