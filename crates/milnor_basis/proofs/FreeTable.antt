-- The pairs of the products of all R of a degree: one of them, and all.
use Rattle.std.proofs.Common.{◌≡◌, subst, ◌++◌, ◌∷◌, ℕ, ◌+◌, ◌-◌, ◌<◌, ◌≤◌, ◌≢◌, inl, inr, Bool, true, false, ◌&&◌, nat_eq, Some, List, [], length, replicate, take, drop, refl, sym, ◌∙◌, ap, arith, slice_index, slice_get}
use Rattle.std.specs.Cmp.Lexicographic.{pointwise}
use Rattle.std.proofs.lemmas.Bool.{cases_eq, cases_lt, eq-eqb, ne_eqb}
use Rattle.std.proofs.lemmas.List.{get_or-drop, length-drop, get_or-replicate}
use Rattle.std.proofs.lemmas.Option.{get_or_from_slice_get, slice_get_within}
use Rattle.f2_vec.specs.Vectors.{plus}
use Rattle.f2_vec.proofs.Sums.{plus-false, plus-comm, plus-assoc}
use Rattle.std.proofs.lemmas.List.Elements.{All-push}
use Rattle.milnor_basis.specs.Exponents.{entry, degree_of, trimmed}
use Rattle.milnor_basis.specs.Basis.{basis_of}
use Rattle.milnor_basis.specs.Product.{is_odd_at, AreWithin, ArePairs}
use Rattle.milnor_basis.specs.Inside.Walk.{no_sums}
use Rattle.milnor_basis.specs.Inside.FreeRows.{element, IsFree, IsTurnedOver, are_elements, leads_to}
use Rattle.milnor_basis.proofs.Bits.{same_exponents, other_exponents, trimmed_take, no_more_exponents}
use Rattle.milnor_basis.proofs.ExponentLemmas.{entry_past}
use Rattle.milnor_basis.proofs.FreeStart.{coefficient-padded}
use Rattle.milnor_basis.proofs.Places.{basis_of-once, basis_of-member}

-- one pair more
pub odd_at-push : (pairs : List (ℕ × ℕ)) (a b p k : ℕ) → is_odd_at (pairs ++ (a, b) ∷ []) p k ≡ plus (nat_eq a p && nat_eq b k) (is_odd_at pairs p k)
odd_at-push [] a b p k = refl
odd_at-push (x ∷ pairs) a b p k =
    let here = nat_eq x.0 p && nat_eq x.1 k in
    let new = nat_eq a p && nat_eq b k in
    let rest = is_odd_at pairs p k in
    ap (plus here) (odd_at-push pairs a b p k) ∙ sym (plus-assoc here new rest) ∙ ap (λ c. plus c rest) (plus-comm here new) ∙ plus-assoc new here rest

pub AreWithin-push : (n m : ℕ) (pairs : List (ℕ × ℕ)) (a b : ℕ) → AreWithin n m pairs → a < length (basis_of n) → b < length (basis_of m) → AreWithin n m (pairs ++ (a, b) ∷ [])
AreWithin-push n m pairs a b h l k = All-push (λ (x : ℕ × ℕ). (x.0 < length (basis_of n)) × (x.1 < length (basis_of m))) pairs (a, b) h (l, k)

pub second_false : (a b : Bool) → b ≡ false → (a && b) ≡ false
second_false true b h = h
second_false false b h = refl

-- no element of a degree is of another
pub other_degree : (n : ℕ) (r : List ℕ) → degree_of r ≢ n → (k : ℕ) → k < length (basis_of n) → r ≢ element n k
other_degree n r h k l e = h (ap degree_of e ∙ (basis_of-member n k l).1)

-- diagonals past the eighth are 0 in each element, and those before it tell it
pub too_long : (n : ℕ) (diagonals : List ℕ) → n ≤ 255 → (((i : ℕ) → i < length (drop 8 diagonals) → slice_index (drop 8 diagonals) i ≡ 0) → ⊥) → (k : ℕ) → k < length (basis_of n) → trimmed diagonals ≢ element n k
too_long n diagonals small some k l e =
    some (λ i m. get_or-drop 8 diagonals i 0 ∙ no_more_exponents diagonals n k small l e (8 + i) (omega arith))

pub front_tells : (diagonals : List ℕ) → ((i : ℕ) → i < length (drop 8 diagonals) → slice_index (drop 8 diagonals) i ≡ 0) → trimmed (take 8 diagonals) ≡ trimmed diagonals
front_tells diagonals zeros = trimmed_take 8 diagonals (λ i l. elim (cases_lt i (length diagonals)) [
  | inl m ↦
      let at : 8 + (i - 8) ≡ i = omega arith in
      ap (slice_index diagonals) (sym at) ∙ sym (get_or-drop 8 diagonals (i - 8) 0) ∙ zeros (i - 8) (omega (arith, length-drop 8 diagonals))
  | inr m ↦ entry_past diagonals i m
])

module _ (degree product : ℕ) (rows diagonals : List ℕ) (pairs : List (ℕ × ℕ)) where
  -- places are those of an element where they are equal to its place
  is_theirs : (n a : ℕ) (r : List ℕ) → slice_get (basis_of n) a ≡ Some (trimmed r) → (p : ℕ) → p < length (basis_of n) → nat_eq a p ≡ pointwise nat_eq (trimmed r) (element n p)
  is_theirs n a r ra p l =
      let la : a < length (basis_of n) = slice_get_within (basis_of n) a (trimmed r) ra in
      let ea : element n a ≡ trimmed r = get_or_from_slice_get (basis_of n) a (trimmed r) [] ra in
      elim (cases_eq a p) [
        | inr d ↦ let differs : trimmed r ≢ element n p = (λ q. d (basis_of-once n a p la l (ea ∙ q))) in
            ne_eqb a p d ∙ sym (other_exponents (trimmed r) (element n p) differs)
        | inl e ↦ eq-eqb a p e ∙ sym (same_exponents (trimmed r) (element n p) (sym ea ∙ ap (element n) e))
      ]

  pub one_turned : (a b : ℕ) → slice_get (basis_of degree) a ≡ Some (trimmed rows) → slice_get (basis_of product) b ≡ Some (trimmed diagonals)
      → IsTurnedOver degree product (are_elements degree product rows diagonals) pairs (pairs ++ (a, b) ∷ [])
  one_turned a b ra rb p k l m =
      odd_at-push pairs a b p k
      ∙ ap (λ c. plus (c && nat_eq b k) (is_odd_at pairs p k)) (is_theirs degree a rows ra p l)
      ∙ ap (λ c. plus (pointwise nat_eq (trimmed rows) (element degree p) && c) (is_odd_at pairs p k)) (is_theirs product b diagonals rb k m)

-- When all is filled, the pairs are those of the products.
pub all_free : (degree height : ℕ) (s columns diagonals : List ℕ) → ((j : ℕ) → j < 8 → slice_index columns j ≡ entry s j) → ((k : ℕ) → slice_index diagonals k ≡ 0) → 0 < height → length s ≤ 8
    → IsFree degree s height (length s) degree (replicate 8 0) columns diagonals no_sums
all_free degree height s columns diagonals es ed some wide = record {
  rows_so_far = λ i l. get_or-replicate 8 i 0 0 l;
  room_left = omega arith;
  room_done = λ z. absurd (omega arith);
  columns_left = λ j l. let e = es j (omega arith) in omega arith;
  columns_done = λ z j l m. absurd (omega arith);
  diagonals_so_far = λ k l. ed k;
  no_more_diagonals = λ k l. ed k;
  is_apart = refl;
}

pub pairs_are : (degree product height : ℕ) (s : List ℕ) (pairs : List (ℕ × ℕ)) → degree ≤ 255 → product ≡ degree + degree_of s
    → AreWithin degree product pairs → ((p : ℕ) → p < length (basis_of degree) → length (element degree p) ≤ height) → height ≤ 8
    → IsTurnedOver degree product (leads_to degree product s height (length s) no_sums) [] pairs → ArePairs degree s pairs
pairs_are degree product height s pairs small e within low high turns = record {
  within = subst (λ n. AreWithin degree n pairs) e within;
  odd = λ p k l m.
      let r = element degree p in
      let t = element (degree + degree_of s) k in
      subst (λ n. IsTurnedOver degree n (leads_to degree n s height (length s) no_sums) [] pairs) e turns p k l m
      ∙ plus-false (leads_to degree (degree + degree_of s) s height (length s) no_sums p k)
      ∙ sym (coefficient-padded r s t height (low p l) high);
}
