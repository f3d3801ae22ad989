-- The diagonal is multiplicative, since the coproduct takes products to products.
use Rattle.std.specs.Prelude.{nat_eq}
use Rattle.std.specs.Cmp.Lexicographic.{bytes_decides, pointwise}
use Rattle.std.specs.List.{All, flat_map, filter}
use Rattle.std.proofs.Common.{◌≡◌, ℕ, zero, suc, ◌+◌, ◌<◌, ◌≤◌, inl, inr, Bool, true, false, cond, ◌&&◌, List, [], ◌∷◌, map, length, refl, sym, ◌∙◌, ap, subst, arith}
use Rattle.std.proofs.Math.Path.{fun_ext}
use Rattle.std.proofs.Math.Bool as Booleans
use Rattle.std.proofs.lemmas.Bool.{and_from, and_left, and_right, and_parts, cases_Bool, false_from_ne_true, false≢true}
use Rattle.std.proofs.lemmas.List.Elements.{All-cons, All-head, All-nil, All-tail}
use Rattle.milnor_basis.specs.Exponents.{entry, degree_of, put_before, trimmed, IsTrimmed}
use Rattle.milnor_basis.specs.Basis.{basis_of}
use Rattle.milnor_basis.specs.Product.{coefficient, product_terms, odd_by}
use Rattle.milnor_basis.proofs.BasisLemmas.{All-basis_of}
use Rattle.milnor_basis.proofs.Homogeneous.{product_is_homogeneous}
use Rattle.milnor_basis.proofs.ExponentLemmas.{IsTrimmed-tail, same_answers}
use Rattle.milnor_basis.proofs.Parity.{odd_by-filter, odd_by-flat_map, odd_by-map, odd_by-same}
use Rattle.milnor_laws.proofs.SumsModTwo.{odd_by-and, odd_by-none}
use Rattle.milnor_laws.proofs.Powers.{Monomial, agree, agree_from, Term, odd_terms-same}
use Rattle.milnor_laws.proofs.Coproduct.{term, triangle, coproduct}
use Rattle.milnor_laws.proofs.Coefficients.{exponents, exponents-past, is_pair, listed, listed-is, coefficient_is}
use Rattle.milnor_laws.proofs.Associative.{odd_by-same_all, once_in_basis, coefficient_not_trimmed}
use Rattle.hopf_laws.specs.Diagonal.{splittings, added, diagonal_coefficient, DiagonalIsMultiplicative}
use Rattle.hopf_laws.proofs.SameCounts.{same_counts}
use Rattle.hopf_laws.proofs.CoproductSums.{times, product_test, coproduct-times, odd_terms-two}
use Rattle.hopf_laws.proofs.Splittings.{Pair, IsSplit, All-splittings, agree-splittings, and-exchanged}

-- a product of two sums
pub odd_by-product : {X Y : Type 0} → (p : X → Bool) (q : Y → Bool) (xs : List X) (ys : List Y) → (odd_by p xs && odd_by q ys) ≡ odd_by (λ x. odd_by (λ y. p x && q y) ys) xs
odd_by-product p q xs ys =
    Booleans.and_comm (odd_by p xs) (odd_by q ys)
    ∙ sym (odd_by-and (odd_by q ys) p xs)
    ∙ odd_by-same (λ x. odd_by q ys && p x) (λ x. odd_by (λ y. p x && q y) ys) xs (λ x. Booleans.and_comm (odd_by q ys) (p x) ∙ sym (odd_by-and (p x) q ys))

-- the sum over the splittings of R and of S
abbrev pub diagonal_sum : List ℕ → List ℕ → List ℕ → List ℕ → Bool
diagonal_sum r s t u = odd_by (λ p. odd_by (λ q. coefficient p.0 q.0 t && coefficient p.1 q.1 u) (splittings s)) (splittings r)

module _ (n : ℕ) (r s : List ℕ) (fits : length r + length s ≤ n) where
  is_pair-times : (a b c d : Monomial) → is_pair n r s (times a c) (times b d) ≡ odd_by (λ p. odd_by (λ q. is_pair n p.0 q.0 a b && is_pair n p.1 q.1 c d) (splittings s)) (splittings r)
  is_pair-times a b c d =
      ap (λ x. x && agree n (times b d) (exponents s)) (agree-splittings n a c r (omega arith))
      ∙ ap (λ x. odd_by (λ p. agree n a (exponents p.0) && agree n c (exponents p.1)) (splittings r) && x) (agree-splittings n b d s (omega arith))
      ∙ odd_by-product (λ p. agree n a (exponents p.0) && agree n c (exponents p.1)) (λ q. agree n b (exponents q.0) && agree n d (exponents q.1)) (splittings r) (splittings s)
      ∙ odd_by-same (λ p. odd_by (λ q. (agree n a (exponents p.0) && agree n c (exponents p.1)) && (agree n b (exponents q.0) && agree n d (exponents q.1))) (splittings s)) (λ p. odd_by (λ q. is_pair n p.0 q.0 a b && is_pair n p.1 q.1 c d) (splittings s)) (splittings r)
      (λ p. odd_by-same (λ q. (agree n a (exponents p.0) && agree n c (exponents p.1)) && (agree n b (exponents q.0) && agree n d (exponents q.1))) (λ q. is_pair n p.0 q.0 a b && is_pair n p.1 q.1 c d) (splittings s)
      (λ q. and-exchanged (agree n a (exponents p.0)) (agree n c (exponents p.1)) (agree n b (exponents q.0)) (agree n d (exponents q.1))))

  -- the coefficient of a product of monomials
  pub coproduct-diagonal : (t u : List ℕ) → IsTrimmed t → IsTrimmed u → length t ≤ n → length u ≤ n → coproduct n (times (exponents t) (exponents u)) (is_pair n r s) ≡ diagonal_sum r s t u
  coproduct-diagonal t u ht hu lt lu =
      let ts : List Term = map term (triangle n) in
      coproduct-times n (exponents u) (exponents t) refl (λ k l. exponents-past t k (omega arith)) (is_pair n r s)
      ∙ odd_terms-same n ts (exponents t) (product_test n (exponents u) (is_pair n r s)) (λ a b. odd_by (λ p. odd_by (λ q. coproduct n (exponents u) (is_pair n p.1 q.1) && is_pair n p.0 q.0 a b) (splittings s)) (splittings r))
      (λ a b. odd_terms-same n ts (exponents u) (λ c d. is_pair n r s (times a c) (times b d)) (λ c d. odd_by (λ p. odd_by (λ q. is_pair n p.0 q.0 a b && is_pair n p.1 q.1 c d) (splittings s)) (splittings r)) (λ c d. is_pair-times a b c d)
      ∙ odd_terms-two n ts (exponents u) (λ p q. is_pair n p.0 q.0 a b) (λ p q. is_pair n p.1 q.1) (splittings r) (splittings s)
      ∙ odd_by-same (λ p. odd_by (λ q. is_pair n p.0 q.0 a b && coproduct n (exponents u) (is_pair n p.1 q.1)) (splittings s)) (λ p. odd_by (λ q. coproduct n (exponents u) (is_pair n p.1 q.1) && is_pair n p.0 q.0 a b) (splittings s)) (splittings r)
      (λ p. odd_by-same (λ q. is_pair n p.0 q.0 a b && coproduct n (exponents u) (is_pair n p.1 q.1)) (λ q. coproduct n (exponents u) (is_pair n p.1 q.1) && is_pair n p.0 q.0 a b) (splittings s)
      (λ q. Booleans.and_comm (is_pair n p.0 q.0 a b) (coproduct n (exponents u) (is_pair n p.1 q.1)))))
      ∙ odd_terms-two n ts (exponents t) (λ p q. coproduct n (exponents u) (is_pair n p.1 q.1)) (λ p q. is_pair n p.0 q.0) (splittings r) (splittings s)
      ∙ odd_by-same_all (IsSplit 1 r) (λ p. odd_by (λ q. coproduct n (exponents u) (is_pair n p.1 q.1) && coproduct n (exponents t) (is_pair n p.0 q.0)) (splittings s)) (λ p. odd_by (λ q. coefficient p.0 q.0 t && coefficient p.1 q.1 u) (splittings s)) (splittings r) (All-splittings 1 r)
      (λ p hp. odd_by-same_all (IsSplit 1 s) (λ q. coproduct n (exponents u) (is_pair n p.1 q.1) && coproduct n (exponents t) (is_pair n p.0 q.0)) (λ q. coefficient p.0 q.0 t && coefficient p.1 q.1 u) (splittings s) (All-splittings 1 s)
      (λ q hq. let a = hp.left_length in let b = hp.right_length in let c = hq.left_length in let d = hq.right_length in
      Booleans.and_comm (coproduct n (exponents u) (is_pair n p.1 q.1)) (coproduct n (exponents t) (is_pair n p.0 q.0))
      ∙ ap (λ x. x && coproduct n (exponents u) (is_pair n p.1 q.1)) (sym (coefficient_is n p.0 q.0 t ht (omega arith) lt))
      ∙ ap (λ x. coefficient p.0 q.0 t && x) (sym (coefficient_is n p.1 q.1 u hu (omega arith) lu))))

-- The sum of two lists.

pub entry-added : (t u : List ℕ) (j : ℕ) → entry (added t u) j ≡ entry t j + entry u j
entry-added [] u j = omega arith
entry-added (x ∷ xs) [] j = omega arith
entry-added (x ∷ xs) (y ∷ ys) zero = refl
entry-added (x ∷ xs) (y ∷ ys) (suc j) = entry-added xs ys j

length-added : (t u : List ℕ) → length (added t u) ≤ length t + length u
length-added [] u = omega arith
length-added (x ∷ xs) [] = omega arith
length-added (x ∷ xs) (y ∷ ys) = omega (arith, length-added xs ys)

pub length-left : (t u : List ℕ) → length t ≤ length (added t u)
length-left [] u = omega arith
length-left (x ∷ xs) [] = omega arith
length-left (x ∷ xs) (y ∷ ys) = omega (arith, length-left xs ys)

put_before_some : (x : ℕ) (xs : List ℕ) → 0 < x + length xs → put_before x xs ≡ x ∷ xs
put_before_some zero [] l = absurd (omega arith)
put_before_some (suc x) [] l = refl
put_before_some zero (y ∷ ys) l = refl
put_before_some (suc x) (y ∷ ys) l = refl

some_trimmed : (x : ℕ) (xs : List ℕ) → IsTrimmed (x ∷ xs) → 0 < x + length xs
some_trimmed zero [] h = cc
some_trimmed (suc x) [] h = omega arith
some_trimmed x (y ∷ ys) h = omega arith

pub IsTrimmed-added : (t u : List ℕ) → IsTrimmed t → IsTrimmed u → IsTrimmed (added t u)
IsTrimmed-added [] u ht hu = hu
IsTrimmed-added (x ∷ xs) [] ht hu = ht
IsTrimmed-added (x ∷ xs) (y ∷ ys) ht hu =
    ap (put_before (x + y)) (IsTrimmed-added xs ys (IsTrimmed-tail x xs ht) (IsTrimmed-tail y ys hu))
    ∙ put_before_some (x + y) (added xs ys) (omega (arith, some_trimmed x xs ht, length-left xs ys))

diagonal_is : (r s t u : List ℕ) → diagonal_coefficient r s t u ≡ diagonal_sum r s t u
diagonal_is r s t u =
    let test : Pair × Pair → Bool = λ x. coefficient x.0.0 x.1.0 t && coefficient x.0.1 x.1.1 u in
    odd_by-flat_map test (λ p. map (λ q. (p, q)) (splittings s)) (splittings r)
    ∙ odd_by-same (λ p. odd_by test (map (λ q. (p, q)) (splittings s))) (λ p. odd_by (λ q. test (p, q)) (splittings s)) (splittings r) (λ p. odd_by-map test (λ q. (p, q)) (splittings s))

exponents-added : (t u : List ℕ) → exponents (added t u) ≡ times (exponents t) (exponents u)
exponents-added t u = fun_ext (λ k. at k)
  where
    at : (k : ℕ) → exponents (added t u) k ≡ times (exponents t) (exponents u) k
    at zero = refl
    at (suc j) = entry-added t u j

pub diagonal_is_multiplicative : DiagonalIsMultiplicative
diagonal_is_multiplicative r s t u ht hu =
    let n : ℕ = length r + length s + length t + length u in
    diagonal_is r s t u
    ∙ sym (coproduct-diagonal n r s (omega arith) t u ht hu (omega arith) (omega arith))
    ∙ ap (λ v. coproduct n v (is_pair n r s)) (sym (exponents-added t u))
    ∙ sym (coefficient_is n r s (added t u) (IsTrimmed-added t u ht hu) (omega arith) (omega (arith, length-added t u)))

-- one monomial is that of one list
exponents-agree : (n : ℕ) (a t : List ℕ) → IsTrimmed a → IsTrimmed t → length a ≤ n → length t ≤ n → agree n (exponents a) (exponents t) ≡ pointwise nat_eq a t
exponents-agree n a t ha ht la lt =
    let own : listed n (exponents a) ≡ a = (bytes_decides (listed n (exponents a)) a).0 (is a ha la ∙ agree_from n (exponents a) (exponents a) (λ k l m. refl)) in
    sym (is t ht lt) ∙ ap (λ x. pointwise nat_eq x t) own
  where
    is : (x : List ℕ) → IsTrimmed x → length x ≤ n → pointwise nat_eq (listed n (exponents a)) x ≡ agree n (exponents a) (exponents x)
    is x h l = listed-is n n (exponents a) (omega arith) (λ i p q. absurd (omega arith)) x h l

-- The same of the sums of any function over the terms.

pub term_count : (r s t : List ℕ) → odd_by (pointwise nat_eq t) (product_terms r s) ≡ coefficient r s t
term_count r s t = odd_by-filter (pointwise nat_eq t) (coefficient r s) basis ∙ by (coefficient r s t) refl
  where
    basis : List (List ℕ)
    basis = basis_of (degree_of r + degree_of s)

    by : (b : Bool) → coefficient r s t ≡ b → odd_by (λ x. coefficient r s x && pointwise nat_eq t x) basis ≡ b
    by true e =
        let own = product_is_homogeneous r s t e in
        odd_by-same (λ x. coefficient r s x && pointwise nat_eq t x) (pointwise nat_eq t) basis
        (λ x. same_answers (coefficient r s x && pointwise nat_eq t x) (pointwise nat_eq t x)
        (λ h. (and_parts (coefficient r s x) (pointwise nat_eq t x) h).1)
        (λ h. and_from (coefficient r s x) (pointwise nat_eq t x) (ap (coefficient r s) (sym ((bytes_decides t x).0 h)) ∙ e) h))
        ∙ once_in_basis (degree_of r + degree_of s) t own.0 own.1
    by false e =
        odd_by-none (λ x. coefficient r s x && pointwise nat_eq t x) basis
        (λ x. false_from_ne_true (coefficient r s x && pointwise nat_eq t x) (λ h.
        let both = and_parts (coefficient r s x) (pointwise nat_eq t x) h in
        false≢true (sym e ∙ ap (coefficient r s) ((bytes_decides t x).0 both.1) ∙ both.0)))

abbrev pub HasDegree : ℕ → List ℕ → Type 0
HasDegree n x = IsTrimmed x × (degree_of x ≡ n)

-- the terms of a product are of its degree, without zeros at their ends
pub All-product_terms : (r s : List ℕ) → All (λ x. IsTrimmed x × (degree_of x ≡ degree_of r + degree_of s)) (product_terms r s)
All-product_terms r s = All-filtered (HasDegree (degree_of r + degree_of s)) (coefficient r s) (basis_of (degree_of r + degree_of s)) (All-basis_of (degree_of r + degree_of s))
  where
    All-filtered : {X : Type 0} → (P : X → Type 0) (q : X → Bool) (xs : List X) → All P xs → All P (filter q xs)
    All-filtered P q [] all = All-nil P
    All-filtered P q (x ∷ xs) all = at (q x) (All-filtered P q xs (All-tail P x xs all))
      where
        at : (b : Bool) → All P (filter q xs) → All P (cond b (x ∷ filter q xs) (filter q xs))
        at true rest = All-cons P x (filter q xs) (All-head P x xs all) rest
        at false rest = rest

abbrev pub same_pair : Pair → Pair → Bool
same_pair p q = pointwise nat_eq p.0 q.0 && pointwise nat_eq p.1 q.1

pub same_pair-sound : (p q : Pair) → same_pair p q ≡ true → p ≡ q
same_pair-sound p q h =
    let two = and_parts (pointwise nat_eq p.0 q.0) (pointwise nat_eq p.1 q.1) h in
    ap (λ x. (x, p.1)) ((bytes_decides p.0 q.0).0 two.0) ∙ ap (λ y. (q.0, y)) ((bytes_decides p.1 q.1).0 two.1)

pub same_pair-same : (p : Pair) → same_pair p p ≡ true
same_pair-same p = and_from (pointwise nat_eq p.0 p.0) (pointwise nat_eq p.1 p.1) ((bytes_decides p.0 p.0).1 refl) ((bytes_decides p.1 p.1).1 refl)

-- a pair is one of the splittings of its sum, and of no other list
pub splitting_count : (z : Pair) → IsTrimmed z.0 → IsTrimmed z.1 → (t : List ℕ) → IsTrimmed t → odd_by (same_pair z) (splittings t) ≡ pointwise nat_eq (added z.0 z.1) t
splitting_count z ht hu t h =
    let n : ℕ = length t + length z.0 + length z.1 in
    odd_by-same_all (IsSplit 1 t) (same_pair z) (λ p. agree n (exponents z.0) (exponents p.0) && agree n (exponents z.1) (exponents p.1)) (splittings t) (All-splittings 1 t)
    (λ p k. let a = k.left_length in let b = k.right_length in
    ap (λ c. c && pointwise nat_eq z.1 p.1) (sym (exponents-agree n z.0 p.0 ht k.left (omega arith) (omega arith)))
    ∙ ap (λ c. agree n (exponents z.0) (exponents p.0) && c) (sym (exponents-agree n z.1 p.1 hu k.right (omega arith) (omega arith))))
    ∙ sym (agree-splittings n (exponents z.0) (exponents z.1) t (omega arith))
    ∙ ap (λ v. agree n v (exponents t)) (sym (exponents-added z.0 z.1))
    ∙ exponents-agree n (added z.0 z.1) t (IsTrimmed-added z.0 z.1 ht hu) h (omega (arith, length-added z.0 z.1)) (omega arith)

-- the terms of the diagonal of a product, and those of the product of two diagonals
abbrev terms_of_product : List ℕ → List ℕ → List Pair
terms_of_product r s = flat_map splittings (product_terms r s)

abbrev terms_of_diagonals : List ℕ → List ℕ → List Pair
terms_of_diagonals r s = flat_map (λ p. flat_map (λ q. flat_map (λ x. map (λ y. (x, y)) (product_terms p.1 q.1)) (product_terms p.0 q.0)) (splittings s)) (splittings r)

abbrev pub sum_over_diagonals : List ℕ → List ℕ → (Pair → Bool) → Bool
sum_over_diagonals r s f = odd_by (λ p. odd_by (λ q. odd_by (λ x. odd_by (λ y. f (x, y)) (product_terms p.1 q.1)) (product_terms p.0 q.0)) (splittings s)) (splittings r)

odd_by-diagonals : (r s : List ℕ) (f : Pair → Bool) → odd_by f (terms_of_diagonals r s) ≡ sum_over_diagonals r s f
odd_by-diagonals r s f =
    odd_by-flat_map f (λ p. flat_map (λ q. flat_map (λ x. map (λ y. (x, y)) (product_terms p.1 q.1)) (product_terms p.0 q.0)) (splittings s)) (splittings r)
    ∙ odd_by-same (λ p. odd_by f (flat_map (λ q. flat_map (λ x. map (λ y. (x, y)) (product_terms p.1 q.1)) (product_terms p.0 q.0)) (splittings s))) (λ p. odd_by (λ q. odd_by (λ x. odd_by (λ y. f (x, y)) (product_terms p.1 q.1)) (product_terms p.0 q.0)) (splittings s)) (splittings r)
    (λ p. odd_by-flat_map f (λ q. flat_map (λ x. map (λ y. (x, y)) (product_terms p.1 q.1)) (product_terms p.0 q.0)) (splittings s)
    ∙ odd_by-same (λ q. odd_by f (flat_map (λ x. map (λ y. (x, y)) (product_terms p.1 q.1)) (product_terms p.0 q.0))) (λ q. odd_by (λ x. odd_by (λ y. f (x, y)) (product_terms p.1 q.1)) (product_terms p.0 q.0)) (splittings s)
    (λ q. odd_by-flat_map f (λ x. map (λ y. (x, y)) (product_terms p.1 q.1)) (product_terms p.0 q.0)
    ∙ odd_by-same (λ x. odd_by f (map (λ y. (x, y)) (product_terms p.1 q.1))) (λ x. odd_by (λ y. f (x, y)) (product_terms p.1 q.1)) (product_terms p.0 q.0) (λ x. odd_by-map f (λ y. (x, y)) (product_terms p.1 q.1))))

module _ (r s : List ℕ) (z : Pair) where
  diagonals_count : odd_by (same_pair z) (terms_of_diagonals r s) ≡ diagonal_sum r s z.0 z.1
  diagonals_count =
      odd_by-diagonals r s (same_pair z)
      ∙ odd_by-same (λ p. odd_by (λ q. odd_by (λ x. odd_by (λ y. same_pair z (x, y)) (product_terms p.1 q.1)) (product_terms p.0 q.0)) (splittings s)) (λ p. odd_by (λ q. coefficient p.0 q.0 z.0 && coefficient p.1 q.1 z.1) (splittings s)) (splittings r)
      (λ p. odd_by-same (λ q. odd_by (λ x. odd_by (λ y. same_pair z (x, y)) (product_terms p.1 q.1)) (product_terms p.0 q.0)) (λ q. coefficient p.0 q.0 z.0 && coefficient p.1 q.1 z.1) (splittings s)
      (λ q. sym (odd_by-product (pointwise nat_eq z.0) (pointwise nat_eq z.1) (product_terms p.0 q.0) (product_terms p.1 q.1))
      ∙ ap (λ b. b && odd_by (pointwise nat_eq z.1) (product_terms p.1 q.1)) (term_count p.0 q.0 z.0)
      ∙ ap (λ b. coefficient p.0 q.0 z.0 && b) (term_count p.1 q.1 z.1)))

  product_count : IsTrimmed z.0 → IsTrimmed z.1 → odd_by (same_pair z) (terms_of_product r s) ≡ diagonal_sum r s z.0 z.1
  product_count ht hu =
      odd_by-flat_map (same_pair z) splittings (product_terms r s)
      ∙ odd_by-same_all (HasDegree (degree_of r + degree_of s)) (λ t. odd_by (same_pair z) (splittings t)) (pointwise nat_eq (added z.0 z.1)) (product_terms r s) (All-product_terms r s) (λ t h. splitting_count z ht hu t h.0)
      ∙ term_count r s (added z.0 z.1)
      ∙ sym (diagonal_is_multiplicative r s z.0 z.1 ht hu)
      ∙ diagonal_is r s z.0 z.1

  -- no term of either has a zero at an end
  not_left : pointwise nat_eq (trimmed z.0) z.0 ≡ false → odd_by (same_pair z) (terms_of_product r s) ≡ diagonal_sum r s z.0 z.1
  not_left e =
      odd_by-flat_map (same_pair z) splittings (product_terms r s)
      ∙ odd_by-none (λ t. odd_by (same_pair z) (splittings t)) (product_terms r s)
      (λ t. odd_by-same_all (IsSplit 1 t) (same_pair z) (λ p. false) (splittings t) (All-splittings 1 t)
      (λ p k. and_left (pointwise nat_eq z.0 p.0) (pointwise nat_eq z.1 p.1) (other z.0 p.0 e k.left))
      ∙ odd_by-none (λ p. false) (splittings t) (λ p. refl))
      ∙ sym (odd_by-none (λ p. odd_by (λ q. coefficient p.0 q.0 z.0 && coefficient p.1 q.1 z.1) (splittings s)) (splittings r)
      (λ p. odd_by-none (λ q. coefficient p.0 q.0 z.0 && coefficient p.1 q.1 z.1) (splittings s) (λ q. and_left (coefficient p.0 q.0 z.0) (coefficient p.1 q.1 z.1) (coefficient_not_trimmed p.0 q.0 z.0 e))))
    where
      other : (a b : List ℕ) → pointwise nat_eq (trimmed a) a ≡ false → IsTrimmed b → pointwise nat_eq a b ≡ false
      other a b e h = false_from_ne_true (pointwise nat_eq a b) (λ g. false≢true (sym e ∙ (bytes_decides (trimmed a) a).1 (subst IsTrimmed (sym ((bytes_decides a b).0 g)) h)))

  not_right : pointwise nat_eq (trimmed z.1) z.1 ≡ false → odd_by (same_pair z) (terms_of_product r s) ≡ diagonal_sum r s z.0 z.1
  not_right e =
      odd_by-flat_map (same_pair z) splittings (product_terms r s)
      ∙ odd_by-none (λ t. odd_by (same_pair z) (splittings t)) (product_terms r s)
      (λ t. odd_by-same_all (IsSplit 1 t) (same_pair z) (λ p. false) (splittings t) (All-splittings 1 t)
      (λ p k. and_right (pointwise nat_eq z.0 p.0) (pointwise nat_eq z.1 p.1) (other z.1 p.1 e k.right))
      ∙ odd_by-none (λ p. false) (splittings t) (λ p. refl))
      ∙ sym (odd_by-none (λ p. odd_by (λ q. coefficient p.0 q.0 z.0 && coefficient p.1 q.1 z.1) (splittings s)) (splittings r)
      (λ p. odd_by-none (λ q. coefficient p.0 q.0 z.0 && coefficient p.1 q.1 z.1) (splittings s) (λ q. and_right (coefficient p.0 q.0 z.0) (coefficient p.1 q.1 z.1) (coefficient_not_trimmed p.1 q.1 z.1 e))))
    where
      other : (a b : List ℕ) → pointwise nat_eq (trimmed a) a ≡ false → IsTrimmed b → pointwise nat_eq a b ≡ false
      other a b e h = false_from_ne_true (pointwise nat_eq a b) (λ g. false≢true (sym e ∙ (bytes_decides (trimmed a) a).1 (subst IsTrimmed (sym ((bytes_decides a b).0 g)) h)))

  counts_agree : odd_by (same_pair z) (terms_of_product r s) ≡ odd_by (same_pair z) (terms_of_diagonals r s)
  counts_agree = elim (cases_Bool (pointwise nat_eq (trimmed z.0) z.0)) [
    | inl e ↦ elim (cases_Bool (pointwise nat_eq (trimmed z.1) z.1)) [
      | inl g ↦ product_count ((bytes_decides (trimmed z.0) z.0).0 e) ((bytes_decides (trimmed z.1) z.1).0 g) ∙ sym diagonals_count
      | inr g ↦ not_right g ∙ sym diagonals_count
    ]
    | inr e ↦ not_left e ∙ sym diagonals_count
  ]

-- the sum of any function over the diagonal of a product is that over the product of the diagonals
pub cartan : (r s : List ℕ) (f : Pair → Bool) → odd_by (λ t. odd_by f (splittings t)) (product_terms r s) ≡ sum_over_diagonals r s f
cartan r s f =
    sym (odd_by-flat_map f splittings (product_terms r s))
    ∙ same_counts same_pair same_pair-sound same_pair-same f (terms_of_product r s) (terms_of_diagonals r s) (counts_agree r s)
    ∙ odd_by-diagonals r s f
