-- The leading terms of what is left are taken off, from the last element of the basis to the first.
use Rattle.std.specs.List.{All, sum}
use Rattle.std.proofs.Common.{◌≡◌, ◌≢◌, ℕ, suc, ◌<◌, ◌≤◌, inl, inr, Bool, true, false, List, [], ◌∷◌, ◌++◌, length, map, get_or, sym, ◌∙◌, ap, subst, arith}
use Rattle.std.proofs.lemmas.Bool.{cases_eq, cases_lt}
use Rattle.std.proofs.lemmas.List.{get_or_default, get_or_past, get_or_read, length-map, map-append}
use Rattle.std.proofs.lemmas.List.Elements.{All-append, All-cons, All-nil, All-weaker}
use Rattle.f2_vec.specs.Vectors.{bit, plus, sum_of, zeros}
use Rattle.f2_vec.specs.Spans.{HaveWidth, combination}
use Rattle.f2_vec.proofs.Combinations.{HaveWidth-map_where}
use Rattle.f2_vec.proofs.Spans.{HaveWidth-cons, HaveWidth-nil, combination-append, length-combination}
use Rattle.f2_vec.proofs.Sums.{bit-sum_of, length-sum_of, sum_of-assoc, sum_of-comm, sum_of-self, sum_of-zeros_left, sum_of-zeros_right, zeros_from_bits}
use Rattle.milnor_basis.specs.Exponents.{degree_of}
use Rattle.milnor_basis.specs.Basis.{basis_of}
use Rattle.milnor_basis.proofs.Places.{basis_of-member}
use Rattle.adem_laws.specs.Admissible.{IsAdmissible, value, monomial_of, admissible_of, sum_of_values}
use Rattle.adem_laws.proofs.AdmissibleBasis.{values_lead}
use Rattle.adem_laws.proofs.Monomials.{admissible_at, admissibles_are, length-admissible_of}
use Rattle.adem_laws.proofs.Values.{length-value}
use Rattle.sq_calc.proofs.Counts.{count, once_more}
use Rattle.sq_calc.specs.Inside.Unordered.{IsUnorderedForm}

abbrev Degree : ℕ → List ℕ → Type 0
Degree n m = IsAdmissible m × (sum m ≡ n)

-- m is the monomial of place i or a later one
abbrev IsFrom : ℕ → ℕ → List ℕ → Type 0
IsFrom n i m = (k : ℕ) × (i ≤ k) × (k < length (basis_of n)) × (get_or (admissible_of n) k [] ≡ m)

-- v is what is left and the values of the monomials that were found, those of places from i on, each once; from place i on nothing is
-- left
pub record IsWalked (n i : ℕ) (v rest : List Bool) (monomials : List (List ℕ)) : Type 0 where
  pub width : length rest ≡ length (basis_of n)
  pub done : (j : ℕ) → i ≤ j → bit rest j ≡ false
  pub total : sum_of rest (sum_of_values n monomials) ≡ v
  pub places : All (IsFrom n i) monomials
  pub once : (m : List ℕ) → count m monomials ≤ 1

-- r is read at place i of the elements
pub element_at : (n i : ℕ) (elements : List (List ℕ)) (r : List ℕ) → elements ≡ basis_of n → i < length elements → r ≡ get_or elements i r → (degree_of r ≡ n) × (monomial_of r ≡ get_or (admissible_of n) i [])
element_at n i elements r all l is =
    let within : i < length (basis_of n) = omega (arith, ap length all) in
    let here : r ≡ get_or (basis_of n) i [] = get_or_read elements i r l is [] ∙ ap (λ xs. get_or xs i []) all in
    (ap degree_of here ∙ (basis_of-member n i within).1, ap monomial_of here ∙ sym (admissible_at n i within))

pub walk_start : (n : ℕ) (v : List Bool) → length v ≡ length (basis_of n) → IsWalked n (length (basis_of n)) v v []
walk_start n v e = record {
  width = e;
  done = λ j l. get_or_past v j false (omega arith);
  total = sum_of-zeros_right (length (basis_of n)) v e;
  places = All-nil (IsFrom n (length (basis_of n)));
  once = λ m. omega arith;
}

earlier : (n i : ℕ) (monomials : List (List ℕ)) → All (IsFrom n (suc i)) monomials → All (IsFrom n i) monomials
earlier n i monomials all = All-weaker (IsFrom n (suc i)) (IsFrom n i) (λ m from. (from.0, omega (arith, from.1), from.2, from.3)) monomials all

walk_over : (n i : ℕ) (v rest : List Bool) (monomials : List (List ℕ)) → bit rest i ≡ false → IsWalked n (suc i) v rest monomials → IsWalked n i v rest monomials
walk_over n i v rest monomials none w = record {
  width = w.width;
  done = λ j l. elim (cases_eq i j) [
    | inl here ↦ ap (bit rest) (sym here) ∙ none
    | inr later ↦ w.done j (omega arith)
  ];
  total = w.total;
  places = earlier n i monomials w.places;
  once = w.once;
}

-- what is admissible of degree n
at_place : (n i : ℕ) (m : List ℕ) → IsFrom n i m → Degree n m
at_place n i m from =
    let within : from.0 < length (admissible_of n) = omega (arith, from.2, length-admissible_of n) in
    ((admissibles_are n).members m).0 (from.0, within, get_or_default (admissible_of n) from.0 m [] within ∙ from.3)

all_in_degree : (n i : ℕ) (monomials : List (List ℕ)) → All (IsFrom n i) monomials → All (Degree n) monomials
all_in_degree n i monomials all = All-weaker (IsFrom n i) (Degree n) (at_place n i) monomials all

HaveWidth-values : (n : ℕ) (monomials : List (List ℕ)) → All (Degree n) monomials → HaveWidth (length (basis_of n)) (map value monomials)
HaveWidth-values n monomials all =
    HaveWidth-map_where (Degree n) (length (basis_of n)) value monomials (λ m h. length-value m ∙ ap (λ k. length (basis_of k)) h.1) all

-- one monomial more
sum_of_values-push : (n : ℕ) (monomials : List (List ℕ)) (m : List ℕ) → All (Degree n) monomials → Degree n m → sum_of_values n (monomials ++ m ∷ []) ≡ sum_of (sum_of_values n monomials) (value m)
sum_of_values-push n monomials m all h =
    let w : length (value m) ≡ length (basis_of n) = length-value m ∙ ap (λ k. length (basis_of k)) h.1 in
    ap (λ c. combination (length (basis_of n)) c (map value (monomials ++ m ∷ []))) (map-append (λ x. true) monomials (m ∷ []))
    ∙ ap (combination (length (basis_of n)) (map (λ x. true) monomials ++ true ∷ [])) (map-append value monomials (m ∷ []))
    ∙ combination-append (length (basis_of n)) (map (λ x. true) monomials) (true ∷ []) (map value monomials) (value m ∷ []) (HaveWidth-values n monomials all)
    (HaveWidth-cons (length (basis_of n)) (value m) [] w (HaveWidth-nil (length (basis_of n))))
    (length-map monomials (λ x. true) ∙ sym (length-map monomials value))
    ∙ ap (sum_of (sum_of_values n monomials)) (sum_of-zeros_right (length (basis_of n)) (value m) w)

-- what is moved from the one to the other
moved : (n : ℕ) (x y z : List Bool) → length x ≡ n → length y ≡ n → length z ≡ n → sum_of (sum_of x z) (sum_of y z) ≡ sum_of x y
moved n x y z a b c =
    sum_of-assoc x z (sum_of y z)
    ∙ ap (sum_of x) (ap (sum_of z) (sum_of-comm y z) ∙ sym (sum_of-assoc z z y) ∙ ap (λ u. sum_of u y) (sum_of-self n z c) ∙ sum_of-zeros_left n y b)

module _ (n i : ℕ) (v rest : List Bool) (monomials : List (List ℕ)) (m : List ℕ) (within : i < length (basis_of n)) (is : m ≡ get_or (admissible_of n) i []) (one : bit rest i ≡ true) (w : IsWalked n (suc i) v rest monomials) where
  own : IsFrom n i m
  own = (i, omega arith, within, sym is)

  own_width : length (value m) ≡ length (basis_of n)
  own_width = length-value m ∙ ap (λ k. length (basis_of k)) (at_place n i m own).1

  same_width : length rest ≡ length (value m)
  same_width = w.width ∙ sym own_width

  lead : bit (value m) i ≡ true
  lead = ap (λ x. bit (value x) i) is ∙ (values_lead n i within).0

  after : (j : ℕ) → i < j → bit (value m) j ≡ false
  after j l = elim (cases_lt j (length (basis_of n))) [
    | inl inside ↦ ap (λ x. bit (value x) j) is ∙ (values_lead n i within).1 j l inside
    | inr past ↦ get_or_past (value m) j false (omega (arith, own_width))
  ]

  apart : All (λ k. m ≢ k) monomials
  apart =
      All-weaker (IsFrom n (suc i)) (λ k. m ≢ k) (λ k from e.
      let same : get_or (admissible_of n) i [] ≡ get_or (admissible_of n) from.0 [] = sym is ∙ e ∙ sym from.3 in
      let place : i ≡ from.0 = (admissibles_are n).once i from.0 (omega (arith, length-admissible_of n)) (omega (arith, from.2, length-admissible_of n)) same in
      omega (arith, from.1, place)) monomials w.places

  walk_on : IsWalked n i v (sum_of rest (value m)) (monomials ++ m ∷ [])
  walk_on = record {
    width = length-sum_of rest (value m) same_width ∙ w.width;
    done = λ j l. bit-sum_of rest (value m) j same_width ∙ elim (cases_eq i j) [
      | inl here ↦ ap (λ k. plus (bit rest k) (bit (value m) k)) (sym here) ∙ ap (λ b. plus b (bit (value m) i)) one ∙ ap (plus true) lead
      | inr later ↦ ap (λ b. plus b (bit (value m) j)) (w.done j (omega arith)) ∙ after j (omega arith)
    ];
    total =
        let all = all_in_degree n (suc i) monomials w.places in
        ap (sum_of (sum_of rest (value m))) (sum_of_values-push n monomials m all (at_place n i m own))
        ∙ moved (length (basis_of n)) rest (sum_of_values n monomials) (value m) w.width (length-combination (length (basis_of n)) (map (λ x. true) monomials) (map value monomials) (HaveWidth-values n monomials all)) own_width
        ∙ w.total;
    places = All-append (IsFrom n i) monomials (m ∷ []) (earlier n i monomials w.places) (All-cons (IsFrom n i) m [] own (All-nil (IsFrom n i)));
    once = once_more m monomials apart w.once;
  }

pub walked_on : (n i j : ℕ) (v rest next w : List Bool) (ms more : List (List ℕ)) (m : List ℕ) → suc i ≡ j → i < length (basis_of n) → m ≡ get_or (admissible_of n) i [] → bit rest i ≡ true → w ≡ value m → next ≡ sum_of rest w → more ≡ ms ++ m ∷ [] → IsWalked n j v rest ms → IsWalked n i v next more
walked_on n i j v rest next w ms more m e l is one is_value is_next is_more walked =
    let before : IsWalked n (suc i) v rest ms = subst (λ k. IsWalked n k v rest ms) (sym e) walked in
    subst (λ xs. IsWalked n i v next xs) (sym is_more)
    (subst (λ x. IsWalked n i v x (ms ++ m ∷ [])) (sym (is_next ∙ ap (sum_of rest) is_value)) (walk_on n i v rest ms m l is one before))

pub walked_over : (n i j : ℕ) (v rest : List Bool) (ms : List (List ℕ)) → suc i ≡ j → bit rest i ≡ false → IsWalked n j v rest ms → IsWalked n i v rest ms
walked_over n i j v rest ms e none walked = walk_over n i v rest ms none (subst (λ k. IsWalked n k v rest ms) (sym e) walked)

pub walk_end : (n : ℕ) (v rest : List Bool) (monomials : List (List ℕ)) → IsWalked n 0 v rest monomials → IsUnorderedForm n v monomials
walk_end n v rest monomials w =
    let all = all_in_degree n 0 monomials w.places in
    let nothing : rest ≡ zeros (length (basis_of n)) = zeros_from_bits (length (basis_of n)) rest w.width (λ j. w.done j (omega arith)) in
    record {
      admissible = all;
      once = w.once;
      sum_is =
          sym (sum_of-zeros_left (length (basis_of n)) (sum_of_values n monomials) (length-combination (length (basis_of n)) (map (λ x. true) monomials) (map value monomials) (HaveWidth-values n monomials all)))
          ∙ ap (λ u. sum_of u (sum_of_values n monomials)) (sym nothing)
          ∙ w.total;
    }
