-- The terms of a product.
use Rattle.std.proofs.Common.{◌≡◌, ℕ, ◌+◌, ◌<◌, ◌≤◌, Bool, true, false, List, [], ◌∷◌, ◌++◌, length, map, take, cond, refl, sym, ◌∙◌, ap, arith, slice_index, slice_index_or}
use Rattle.std.specs.List.{filter}
use Rattle.std.proofs.lemmas.List.{append-nil, ext_get_or, get_or-map, length-map, take_more, take_all}
use Rattle.std.proofs.lemmas.List.Elements.{filter-append}
use Rattle.f2_vec.specs.Vectors.{plus}
use Rattle.f2_vec.proofs.Sums.{plus-false}
use Rattle.milnor_basis.specs.Exponents.{entry, degree_of}
use Rattle.milnor_basis.specs.Basis.{basis_of}
use Rattle.milnor_basis.specs.Product.{coefficient, product_bits, product_terms}
use Rattle.milnor_basis.specs.Inside.Walk.{IsLeft, no_sums, TurnsOver, AreChosen}
use Rattle.milnor_basis.proofs.Matrices.{coefficient-fillings}

-- at the beginning all is left
all_left : (r s rows columns diagonals : List ℕ) → length r ≤ 8 → length s ≤ 8 → ((i : ℕ) → i < 8 → slice_index rows i ≡ entry r i) → ((j : ℕ) → j < 8 → slice_index columns j ≡ entry s j) → ((k : ℕ) → slice_index diagonals k ≡ 0)
    → IsLeft r s (length r) (length s) rows columns diagonals no_sums
all_left r s rows columns diagonals short narrow er es ed = record {
  rows_left = λ i l. let e = er i (omega arith) in omega arith;
  columns_left = λ j l. let e = es j (omega arith) in omega arith;
  diagonals_so_far = λ k l. ed k;
  no_more_diagonals = λ k l. ed k;
  rows_done = λ i l m. absurd (omega arith);
  columns_done = λ z j l m. absurd (omega arith);
  is_apart = refl;
}

-- the bits that are turned over an odd number of times are the odd coefficients
pub bits_are : (r s rows columns diagonals : List ℕ) (degree : ℕ) (before after : List Bool) → length r ≤ 8 → length s ≤ 8
    → ((i : ℕ) → i < 8 → slice_index rows i ≡ entry r i) → ((j : ℕ) → j < 8 → slice_index columns j ≡ entry s j) → ((k : ℕ) → slice_index diagonals k ≡ 0)
    → degree ≡ degree_of r + degree_of s → length before ≡ length (basis_of degree) → length after ≡ length before → ((k : ℕ) → k < length before → slice_index_or before k false ≡ false)
    → TurnsOver degree (length s) (length r) (length s) rows columns diagonals before after → after ≡ product_bits r s
bits_are r s rows columns diagonals degree before after short narrow er es ed e long same clear turns =
    let basis = basis_of degree in
    ext_get_or false after (map (coefficient r s) basis) (same ∙ long ∙ sym (length-map basis (coefficient r s))) (λ k l.
    let within : k < length before = omega arith in
    let here : k < length basis = omega arith in
    turns r s no_sums refl narrow short (omega arith) (all_left r s rows columns diagonals short narrow er es ed) k within
    ∙ ap (λ b. plus b (slice_index_or before k false)) (sym (coefficient-fillings r s (slice_index_or basis k [])))
    ∙ ap (plus (coefficient r s (slice_index_or basis k []))) (clear k within)
    ∙ plus-false (coefficient r s (slice_index_or basis k []))
    ∙ sym (get_or-map (coefficient r s) basis k [] false here))
    ∙ ap (λ n. map (coefficient r s) (basis_of n)) e

-- the elements chosen by those coefficients are the terms
pub terms_are : (r s : List ℕ) (degree : ℕ) (elements terms : List (List ℕ)) (bits : List Bool) → degree ≡ degree_of r + degree_of s → elements ≡ basis_of degree → bits ≡ product_bits r s → AreChosen elements bits terms → terms ≡ product_terms r s
terms_are r s degree elements terms bits d e b chosen =
    let basis : elements ≡ basis_of (degree_of r + degree_of s) = e ∙ ap basis_of d in
    let bits_of : bits ≡ map (coefficient r s) elements = b ∙ ap (map (coefficient r s)) (sym basis) in
    chosen (coefficient r s) (λ k l. ap (λ xs. slice_index_or xs k false) bits_of ∙ get_or-map (coefficient r s) elements k [] false l)
    ∙ ap (filter (coefficient r s)) basis

-- the elements chosen among the first i
abbrev pub ChosenSoFar : List (List ℕ) → List Bool → ℕ → List (List ℕ) → Type 0
ChosenSoFar elements bits i chosen = (test : List ℕ → Bool) → ((k : ℕ) → k < length elements → slice_index_or bits k false ≡ test (slice_index_or elements k [])) → chosen ≡ filter test (take i elements)

module _ (elements : List (List ℕ)) (bits : List Bool) (i : ℕ) (chosen : List (List ℕ)) (within : i < length elements) (so_far : ChosenSoFar elements bits i chosen) where
  pub chosen_more : slice_index_or bits i false ≡ true → ChosenSoFar elements bits (i + 1) (chosen ++ slice_index_or elements i [] ∷ [])
  chosen_more set test is =
      let yes : test (slice_index_or elements i []) ≡ true = sym (is i within) ∙ set in
      let step : filter test (take (i + 1) elements) ≡ filter test (take i elements) ++ cond (test (slice_index_or elements i [])) (slice_index_or elements i [] ∷ []) [] = ap (filter test) (take_more elements i [] within) ∙ filter-append test (take i elements) (slice_index_or elements i [] ∷ []) in
      ap (λ xs. xs ++ slice_index_or elements i [] ∷ []) (so_far test is)
      ∙ sym (step ∙ ap (λ b. filter test (take i elements) ++ cond b (slice_index_or elements i [] ∷ []) []) yes)

  pub chosen_skip : slice_index_or bits i false ≡ false → ChosenSoFar elements bits (i + 1) chosen
  chosen_skip clear test is =
      let no : test (slice_index_or elements i []) ≡ false = sym (is i within) ∙ clear in
      let step : filter test (take (i + 1) elements) ≡ filter test (take i elements) ++ cond (test (slice_index_or elements i [])) (slice_index_or elements i [] ∷ []) [] = ap (filter test) (take_more elements i [] within) ∙ filter-append test (take i elements) (slice_index_or elements i [] ∷ []) in
      so_far test is ∙ sym (step ∙ ap (λ b. filter test (take i elements) ++ cond b (slice_index_or elements i [] ∷ []) []) no ∙ append-nil (filter test (take i elements)))

pub all_chosen : (elements : List (List ℕ)) (bits : List Bool) (i : ℕ) (chosen : List (List ℕ)) → length elements ≤ i → ChosenSoFar elements bits i chosen → AreChosen elements bits chosen
all_chosen elements bits i chosen all so_far test is = so_far test is ∙ ap (filter test) (take_all i elements all)
