-- The product is associative, since the coproduct is coassociative.
use Rattle.std.specs.Prelude.{nat_eq}
use Rattle.std.specs.Cmp.Lexicographic.{bytes_decides, pointwise}
use Rattle.std.specs.List.{All, range_with_len}
use Rattle.std.proofs.Common.{◌≡◌, ℕ, zero, suc, ◌+◌, ◌-◌, ◌<◌, ◌≤◌, inl, inr, Bool, true, false, ◌&&◌, if◌then◌else◌, List, [], ◌∷◌, map, length, get_or, refl, sym, ◌∙◌, ap, arith}
use Rattle.std.proofs.Math.Bool as Booleans
use Rattle.std.proofs.lemmas.Bool.{and_left, and_right, cases_Bool, false_from_ne_true, false≢true}
use Rattle.std.proofs.lemmas.List.{get_or_default}
use Rattle.std.proofs.lemmas.List.Elements.{All-append, All-cons, All-head, All-map, All-nil, All-tail}
use Rattle.std.proofs.lemmas.List.FromFn.{length-map-range_with_len}
use Rattle.f2_vec.specs.Vectors.{plus}
use Rattle.milnor_basis.specs.Exponents.{degree_of, trimmed, IsTrimmed}
use Rattle.milnor_basis.specs.Basis.{basis_of}
use Rattle.milnor_basis.specs.Product.{coefficient, product_terms, odd_by}
use Rattle.milnor_basis.specs.Inside.Walk.{is_odd_below}
use Rattle.milnor_basis.proofs.BasisLemmas.{All-basis_of, Contains-basis_of}
use Rattle.milnor_basis.proofs.ExponentLemmas.{same_answers, IsTrimmed-trimmed, length-trimmed, length_within}
use Rattle.milnor_basis.proofs.Homogeneous.{product_is_homogeneous}
use Rattle.milnor_basis.proofs.Parity.{odd_by-same, is_odd-count_by, odd_by-filter}
use Rattle.milnor_basis.proofs.Places.{basis_of-once}
use Rattle.milnor_laws.specs.Laws.{ProductIsAssociative}
use Rattle.milnor_laws.proofs.SumsModTwo.{odd_by-none, odd_by-and, is_odd_below-first, is_odd_below-one, splits, one_lower}
use Rattle.milnor_laws.proofs.BinomialSums.{binomial_sum, binomial_sum-same}
use Rattle.milnor_laws.proofs.Powers.{Monomial, Test, less, agree, agree_at, agree_from, Term, shift, odd_terms, odd_terms-same, odd_terms-and, odd_terms-odd_by}
use Rattle.milnor_laws.proofs.Coproduct.{TripleTest, term, triangle, coproduct, left_split, right_split, coassociative}
use Rattle.milnor_laws.proofs.Coefficients.{exponents, exponents-past, is_pair, listed, listed-agree, listed-is, coefficient_is}

-- the exponents of x_1 to x_n alone are read

abbrev IsRead : ℕ → Term → Type 0
IsRead n c = 0 < c.diagonal × (c.diagonal ≤ n)

odd_terms-agree : (n : ℕ) (cs : List Term) → All (IsRead n) cs → (t u : Monomial) → ((k : ℕ) → 0 < k → k ≤ n → t k ≡ u k) → (f : Test) → odd_terms n cs t f ≡ odd_terms n cs u f
odd_terms-agree n [] read t u h f =
    ap (λ b. b && f (λ _. 0) (λ _. 0)) (same_answers (agree n (λ _. 0) t) (agree n (λ _. 0) u)
    (λ e. agree_from n (λ _. 0) u (λ k l m. agree_at n (λ _. 0) t e k l m ∙ h k l m))
    (λ e. agree_from n (λ _. 0) t (λ k l m. agree_at n (λ _. 0) u e k l m ∙ sym (h k l m))))
odd_terms-agree n (c ∷ cs) read t u h f =
    let here = All-head (IsRead n) c cs read in
    ap (λ m. binomial_sum m (λ v. odd_terms n cs (less t c.diagonal v) (shift v c f))) (h c.diagonal here.0 here.1)
    ∙ binomial_sum-same (u c.diagonal) (λ v. odd_terms n cs (less t c.diagonal v) (shift v c f)) (λ v. odd_terms n cs (less u c.diagonal v) (shift v c f))
    (λ v l. odd_terms-agree n cs (All-tail (IsRead n) c cs read) (less t c.diagonal v) (less u c.diagonal v) (λ k p q. ap (λ x. if nat_eq k c.diagonal then x - v else x) (h k p q)) (shift v c f))

All-splits : (P : ℕ × ℕ → Type 0) (n : ℕ) → ((i j : ℕ) → i + j ≡ n → P (i, j)) → All P (splits n)
All-splits P zero h = All-cons P (0, 0) [] (h 0 0 refl) (All-nil P)
All-splits P (suc n) h = All-cons P (0, suc n) (map one_lower (splits n)) (h 0 (suc n) (omega arith)) (All-map P one_lower (splits n) (All-splits (λ p. P (one_lower p)) n (λ i j e. h (suc i) j (omega arith))))

is_read : (n m : ℕ) → m ≤ n → All (λ p. IsRead n (term p)) (triangle m)
is_read n zero l = All-nil (λ p. IsRead n (term p))
is_read n (suc m) l =
    All-append (λ p. IsRead n (term p)) (splits (suc m)) (triangle m) (All-splits (λ p. IsRead n (term p)) (suc m) (λ i j e. (omega arith, omega arith))) (is_read n m (omega arith))

coproduct-agree : (n : ℕ) (t u : Monomial) → ((k : ℕ) → 0 < k → k ≤ n → t k ≡ u k) → (f : Test) → coproduct n t f ≡ coproduct n u f
coproduct-agree n t u h f = odd_terms-agree n (map term (triangle n)) (All-map (IsRead n) term (triangle n) (is_read n n (omega arith))) t u h f

pub odd_by-same_all : {X : Type 0} → (P : X → Type 0) (p q : X → Bool) (xs : List X) → All P xs → ((x : X) → P x → p x ≡ q x) → odd_by p xs ≡ odd_by q xs
odd_by-same_all P p q [] all h = refl
odd_by-same_all P p q (x ∷ xs) all h =
    ap (λ b. plus b (odd_by p xs)) (h x (All-head P x xs all)) ∙ ap (plus (q x)) (odd_by-same_all P p q xs (All-tail P x xs all) h)

-- One element of a basis is the one with given exponents.

pub odd_by-places : {X : Type 0} → (p : X → Bool) (xs : List X) (d : X) → odd_by p xs ≡ is_odd_below (λ i. p (get_or xs i d)) (length xs)
odd_by-places p [] d = refl
odd_by-places p (x ∷ xs) d = ap (plus (p x)) (odd_by-places p xs d) ∙ sym (is_odd_below-first (λ i. p (get_or (x ∷ xs) i d)) (length xs))

pub once_in_basis : (n : ℕ) (r : List ℕ) → IsTrimmed r → degree_of r ≡ n → odd_by (pointwise nat_eq r) (basis_of n) ≡ true
once_in_basis n r tight degree =
    let found = Contains-basis_of n r tight degree in
    odd_by-places (pointwise nat_eq r) (basis_of n) r
    ∙ is_odd_below-one (λ j. pointwise nat_eq r (get_or (basis_of n) j r)) found.0 (length (basis_of n)) found.1
    (λ j l d. false_from_ne_true (pointwise nat_eq r (get_or (basis_of n) j r)) (λ e. d (basis_of-once n j found.0 l found.1
    (get_or_default (basis_of n) j [] r l ∙ sym ((bytes_decides r (get_or (basis_of n) j r)).0 e) ∙ sym found.2 ∙ get_or_default (basis_of n) found.0 r [] found.1))))
    ∙ (bytes_decides r (get_or (basis_of n) found.0 r)).1 (sym found.2)

module _ (r s t : List ℕ) where
  at_equal : (x : List ℕ) (b : Bool) → pointwise nat_eq t x ≡ b → (coefficient r s x && pointwise nat_eq t x) ≡ (coefficient r s t && pointwise nat_eq t x)
  at_equal x true e = ap (λ y. coefficient r s y && pointwise nat_eq t x) (sym ((bytes_decides t x).0 e))
  at_equal x false e = and_right (coefficient r s x) (pointwise nat_eq t x) e ∙ sym (and_right (coefficient r s t) (pointwise nat_eq t x) e)

  in_its_degree : (b : Bool) → coefficient r s t ≡ b → (coefficient r s t && odd_by (pointwise nat_eq t) (basis_of (degree_of r + degree_of s))) ≡ coefficient r s t
  in_its_degree true e =
      let is = product_is_homogeneous r s t e in
      ap (λ b. coefficient r s t && b) (once_in_basis (degree_of r + degree_of s) t is.0 is.1) ∙ Booleans.and-true (coefficient r s t)
  in_its_degree false e = and_left (coefficient r s t) (odd_by (pointwise nat_eq t) (basis_of (degree_of r + degree_of s))) e ∙ sym e

  coefficient_in_basis : odd_by (λ x. coefficient r s x && pointwise nat_eq t x) (basis_of (degree_of r + degree_of s)) ≡ coefficient r s t
  coefficient_in_basis =
      odd_by-same (λ x. coefficient r s x && pointwise nat_eq t x) (λ x. coefficient r s t && pointwise nat_eq t x) (basis_of (degree_of r + degree_of s)) (λ x. at_equal x (pointwise nat_eq t x) refl)
      ∙ odd_by-and (coefficient r s t) (pointwise nat_eq t) (basis_of (degree_of r + degree_of s))
      ∙ in_its_degree (coefficient r s t) refl

-- A monomial that is a term of Sq(R) Sq(S) is split once more.
module _ (n : ℕ) (r s : List ℕ) (fits : length r + length s ≤ n) (low : degree_of r + degree_of s ≤ n) where
  pub at_monomial : (t : Monomial) → odd_by (λ x. coefficient r s x && agree n t (exponents x)) (basis_of (degree_of r + degree_of s)) ≡ coproduct n t (is_pair n r s)
  at_monomial t =
      let none : (i : ℕ) → n < i → i ≤ n → t i ≡ 0 = λ i l m. absurd (omega arith) in
      let whole : n ≤ n = omega arith in
      let short : length (listed n t) ≤ n = omega (arith, length-trimmed (map t (range_with_len 1 n)), length-map-range_with_len t 1 n) in
      odd_by-same_all (λ x. IsTrimmed x × (degree_of x ≡ degree_of r + degree_of s)) (λ x. coefficient r s x && agree n t (exponents x)) (λ x. coefficient r s x && pointwise nat_eq (listed n t) x) (basis_of (degree_of r + degree_of s)) (All-basis_of (degree_of r + degree_of s))
      (λ x h. let d = h.1 in ap (λ b. coefficient r s x && b) (sym (listed-is n n t whole none x h.0 (omega (arith, length_within x h.0)))))
      ∙ coefficient_in_basis r s (listed n t)
      ∙ coefficient_is n r s (listed n t) (IsTrimmed-trimmed (map t (range_with_len 1 n))) fits short
      ∙ coproduct-agree n (exponents (listed n t)) t (λ k l m. sym (listed-agree n n t whole none k l m)) (is_pair n r s)

  -- the sum over the terms, where they are one of two factors
  through : (u : Monomial) (k : Monomial → Monomial → Monomial) (rest : Test)
      → odd_by (λ x. coefficient r s x && coproduct n u (λ a b. agree n (k a b) (exponents x) && rest a b)) (basis_of (degree_of r + degree_of s)) ≡ coproduct n u (λ a b. rest a b && coproduct n (k a b) (is_pair n r s))
  through u k rest =
      let ts : List Term = map term (triangle n) in
      odd_by-same (λ x. coefficient r s x && coproduct n u (λ a b. agree n (k a b) (exponents x) && rest a b)) (λ x. coproduct n u (λ a b. coefficient r s x && (agree n (k a b) (exponents x) && rest a b))) (basis_of (degree_of r + degree_of s))
      (λ x. sym (odd_terms-and n ts u (coefficient r s x) (λ a b. agree n (k a b) (exponents x) && rest a b)))
      ∙ sym (odd_terms-odd_by n ts u (λ x a b. coefficient r s x && (agree n (k a b) (exponents x) && rest a b)) (basis_of (degree_of r + degree_of s)))
      ∙ odd_terms-same n ts u (λ a b. odd_by (λ x. coefficient r s x && (agree n (k a b) (exponents x) && rest a b)) (basis_of (degree_of r + degree_of s))) (λ a b. rest a b && coproduct n (k a b) (is_pair n r s))
      (λ a b. odd_by-same (λ x. coefficient r s x && (agree n (k a b) (exponents x) && rest a b)) (λ x. rest a b && (coefficient r s x && agree n (k a b) (exponents x))) (basis_of (degree_of r + degree_of s)) (λ x. last_first (coefficient r s x) (agree n (k a b) (exponents x)) (rest a b))
      ∙ odd_by-and (rest a b) (λ x. coefficient r s x && agree n (k a b) (exponents x)) (basis_of (degree_of r + degree_of s))
      ∙ ap (λ c. rest a b && c) (at_monomial (k a b)))
    where
      last_first : (a b c : Bool) → (a && (b && c)) ≡ (c && (a && b))
      last_first true true true = refl
      last_first true true false = refl
      last_first true false true = refl
      last_first true false false = refl
      last_first false b true = refl
      last_first false b false = refl

-- whether three monomials are x^R, y^S and z^Q
abbrev is_triple : ℕ → List ℕ → List ℕ → List ℕ → TripleTest
is_triple n r s q x y z = agree n x (exponents r) && (agree n y (exponents s) && agree n z (exponents q))

module _ (n : ℕ) (r s q u : List ℕ) (tight : IsTrimmed u) (fits : length r + length s + length q + length u + degree_of r + degree_of s + degree_of q ≤ n) where
  left_product : odd_by (λ t. coefficient t q u) (product_terms r s) ≡ left_split n (exponents u) (is_triple n r s q)
  left_product =
      odd_by-filter (λ t. coefficient t q u) (coefficient r s) (basis_of (degree_of r + degree_of s))
      ∙ odd_by-same_all (λ t. IsTrimmed t × (degree_of t ≡ degree_of r + degree_of s)) (λ t. coefficient r s t && coefficient t q u) (λ t. coefficient r s t && coproduct n (exponents u) (λ a b. agree n a (exponents t) && agree n b (exponents q))) (basis_of (degree_of r + degree_of s)) (All-basis_of (degree_of r + degree_of s))
      (λ t h. let d = h.1 in ap (λ b. coefficient r s t && b) (coefficient_is n t q u tight (omega (arith, length_within t h.0)) (omega arith)))
      ∙ through n r s (omega arith) (omega arith) (exponents u) (λ a b. a) (λ a b. agree n b (exponents q))
      ∙ odd_terms-same n (map term (triangle n)) (exponents u) (λ a z. agree n z (exponents q) && coproduct n a (is_pair n r s)) (λ a z. coproduct n a (λ x y. is_triple n r s q x y z))
      (λ a z. sym (odd_terms-and n (map term (triangle n)) a (agree n z (exponents q)) (is_pair n r s))
      ∙ odd_terms-same n (map term (triangle n)) a (λ x y. agree n z (exponents q) && is_pair n r s x y) (λ x y. is_triple n r s q x y z)
      (λ x y. Booleans.and_comm (agree n z (exponents q)) (is_pair n r s x y) ∙ Booleans.and_assoc (agree n x (exponents r)) (agree n y (exponents s)) (agree n z (exponents q))))

  right_product : odd_by (λ t. coefficient r t u) (product_terms s q) ≡ right_split n (exponents u) (is_triple n r s q)
  right_product =
      odd_by-filter (λ t. coefficient r t u) (coefficient s q) (basis_of (degree_of s + degree_of q))
      ∙ odd_by-same_all (λ t. IsTrimmed t × (degree_of t ≡ degree_of s + degree_of q)) (λ t. coefficient s q t && coefficient r t u) (λ t. coefficient s q t && coproduct n (exponents u) (λ a b. agree n b (exponents t) && agree n a (exponents r))) (basis_of (degree_of s + degree_of q)) (All-basis_of (degree_of s + degree_of q))
      (λ t h. let d = h.1 in ap (λ b. coefficient s q t && b) (coefficient_is n r t u tight (omega (arith, length_within t h.0)) (omega arith)
      ∙ odd_terms-same n (map term (triangle n)) (exponents u) (is_pair n r t) (λ a b. agree n b (exponents t) && agree n a (exponents r)) (λ a b. Booleans.and_comm (agree n a (exponents r)) (agree n b (exponents t)))))
      ∙ through n s q (omega arith) (omega arith) (exponents u) (λ a b. b) (λ a b. agree n a (exponents r))
      ∙ odd_terms-same n (map term (triangle n)) (exponents u) (λ x a. agree n x (exponents r) && coproduct n a (is_pair n s q)) (λ x a. coproduct n a (λ y z. is_triple n r s q x y z))
      (λ x a. sym (odd_terms-and n (map term (triangle n)) a (agree n x (exponents r)) (is_pair n s q)))

  products_agree : odd_by (λ t. coefficient t q u) (product_terms r s) ≡ odd_by (λ t. coefficient r t u) (product_terms s q)
  products_agree =
      left_product ∙ coassociative n (exponents u) refl (λ k l. exponents-past u k (omega arith)) (is_triple n r s q) ∙ sym right_product

-- no product has a term with a zero at its end
pub coefficient_not_trimmed : (r s t : List ℕ) → pointwise nat_eq (trimmed t) t ≡ false → coefficient r s t ≡ false
coefficient_not_trimmed r s t e =
    false_from_ne_true (coefficient r s t) (λ h. false≢true (sym e ∙ (bytes_decides (trimmed t) t).1 (product_is_homogeneous r s t h).0))

pub associative : (r s q u : List ℕ) → odd_by (λ t. coefficient t q u) (product_terms r s) ≡ odd_by (λ t. coefficient r t u) (product_terms s q)
associative r s q u = elim (cases_Bool (pointwise nat_eq (trimmed u) u)) [
  | inl e ↦ products_agree (length r + length s + length q + length u + degree_of r + degree_of s + degree_of q) r s q u ((bytes_decides (trimmed u) u).0 e) (omega arith)
  | inr e ↦ odd_by-none (λ t. coefficient t q u) (product_terms r s) (λ t. coefficient_not_trimmed t q u e)
      ∙ sym (odd_by-none (λ t. coefficient r t u) (product_terms s q) (λ t. coefficient_not_trimmed r t u e))
]

pub product_is_associative : ProductIsAssociative
product_is_associative r s q u =
    is_odd-count_by (λ t. coefficient t q u) (product_terms r s) ∙ associative r s q u ∙ sym (is_odd-count_by (λ t. coefficient r t u) (product_terms s q))
