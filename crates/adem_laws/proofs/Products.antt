-- Adem's relations for Milnor's product.
use Rattle.std.specs.Prelude.{nat_eq}
use Rattle.std.specs.Cmp.Lexicographic.{bytes_decides, pointwise}
use Rattle.std.specs.List.{count_by, range_with_len}
use Rattle.std.proofs.Common.{◌≡◌, ◌≢◌, ◌⊎◌, ℕ, zero, suc, ◌+◌, ◌-◌, ◌*◌, ◌/◌, ◌<◌, ◌≤◌, inl, inr, Bool, true, false, ◌&&◌, List, length, map, refl, sym, ◌∙◌, ap, arith}
use Rattle.std.proofs.Math.Path.{fun_ext}
use Rattle.std.proofs.lemmas.Bool.{and_left, and_right, and_from, cases_eq, cases_lt, cases_Bool}
use Rattle.milnor_basis.specs.Exponents.{trimmed, IsTrimmed}
use Rattle.milnor_basis.specs.Product.{choose, is_odd, coefficient}
use Rattle.f2_vec.specs.Vectors.{plus}
use Rattle.milnor_basis.specs.Inside.Walk.{is_odd_below}
use Rattle.f2_vec.proofs.Sums.{plus-comm, plus-false}
use Rattle.milnor_basis.proofs.Parity.{is_odd_below-none, is_odd_below-same}
use Rattle.milnor_laws.proofs.SumsModTwo.{is_odd_below-first}
use Rattle.milnor_basis.proofs.Kummer.{choose-past}
use Rattle.milnor_laws.proofs.Powers.{Monomial, agree, agree_at, agree_from, variable, odd_terms-one, less, less-same, less-other}
use Rattle.milnor_laws.proofs.Coproduct.{term, triangle, by_factors}
use Rattle.milnor_basis.proofs.ExponentLemmas.{same_answers}
use Rattle.milnor_laws.proofs.Coefficients.{exponents, exponents-past}
use Rattle.milnor_laws.proofs.Associative.{coefficient_not_trimmed}
use Rattle.adem_laws.specs.Adem.{square, is_term, AdemRelations}
use Rattle.milnor_laws.proofs.BinomialSums.{is_odd-add}
use Rattle.adem_laws.proofs.Binomials.{weight, weight_past, choose_turned, weighted_sum, terms_are}
use Rattle.adem_laws.proofs.Singles.{single, square-single, with_single, coefficient_single, lower, single_raised, by_right, by_left, by_right-none, by_right-some, by_left-small, by_left-none, by_left-some}

-- A polynomial in x and y mod 2 is the function of its coefficients.
abbrev Polynomial : Type 0
Polynomial = ℕ → ℕ → Bool

abbrev one : Polynomial
one zero zero = true
one zero (suc b) = false
one (suc a) b = false

-- x p and y p
abbrev times_x : Polynomial → Polynomial
times_x p zero b = false
times_x p (suc a) b = p a b

abbrev times_y : Polynomial → Polynomial
times_y p a zero = false
times_y p a (suc b) = p a b

-- (x + y) p
abbrev times_sum : Polynomial → Polynomial
times_sum p a b = plus (times_x p a b) (times_y p a b)

-- (x + y)^k (x^2 y)^l
abbrev powers : ℕ → ℕ → Polynomial
powers zero zero = one
powers (suc k) zero = times_sum (powers k zero)
powers k (suc l) = times_y (times_x (times_x (powers k l)))

sum_inside : (p : Polynomial) (a b : ℕ) → times_sum (times_y (times_x (times_x p))) a b ≡ times_y (times_x (times_x (times_sum p))) a b
sum_inside p zero zero = refl
sum_inside p zero (suc zero) = refl
sum_inside p zero (suc (suc b)) = refl
sum_inside p (suc zero) zero = refl
sum_inside p (suc zero) (suc zero) = refl
sum_inside p (suc zero) (suc (suc b)) = refl
sum_inside p (suc (suc zero)) zero = refl
sum_inside p (suc (suc zero)) (suc zero) = refl
sum_inside p (suc (suc zero)) (suc (suc b)) = refl
sum_inside p (suc (suc (suc a))) zero = refl
sum_inside p (suc (suc (suc a))) (suc zero) = refl
sum_inside p (suc (suc (suc a))) (suc (suc b)) = refl

sum_more : (k l a b : ℕ) → powers (suc k) l a b ≡ times_sum (powers k l) a b
sum_more k zero a b = refl
sum_more k (suc l) a b =
    ap (λ p. times_y (times_x (times_x p)) a b) (fun_ext (λ x. fun_ext (λ y. sum_more k l x y))) ∙ sym (sum_inside (powers k l) a b)

-- The coefficients of (x + y)^k are the binomials.

powers_binomial : (k a b : ℕ) → a + b ≡ k → powers k 0 a b ≡ is_odd (choose k b)
powers_binomial zero zero zero e = refl
powers_binomial zero zero (suc b) e = absurd (omega arith)
powers_binomial zero (suc a) b e = absurd (omega arith)
powers_binomial (suc k) zero zero e = absurd (omega arith)
powers_binomial (suc k) (suc a) zero e = ap (λ c. plus c false) (powers_binomial k a zero (omega arith))
powers_binomial (suc k) zero (suc b) e =
    let none : choose k (suc b) ≡ 0 = choose-past k (suc b) (omega arith) in
    powers_binomial k zero b (omega arith)
    ∙ sym (plus-false (is_odd (choose k b)))
    ∙ ap (λ c. plus (is_odd (choose k b)) (is_odd c)) (sym none)
    ∙ sym (is_odd-add (choose k b) (choose k (suc b)))
powers_binomial (suc k) (suc a) (suc b) e =
    ap (λ c. plus c (powers k 0 (suc a) b)) (powers_binomial k a (suc b) (omega arith))
    ∙ ap (plus (is_odd (choose k (suc b)))) (powers_binomial k (suc a) b (omega arith))
    ∙ plus-comm (is_odd (choose k (suc b))) (is_odd (choose k b))
    ∙ sym (is_odd-add (choose k b) (choose k (suc b)))

powers_other : (k a b : ℕ) → a + b ≢ k → powers k 0 a b ≡ false
powers_other zero zero zero d = absurd (d (omega arith))
powers_other zero zero (suc b) d = refl
powers_other zero (suc a) b d = refl
powers_other (suc k) zero zero d = refl
powers_other (suc k) (suc a) zero d = ap (λ c. plus c false) (powers_other k a zero (λ e. d (omega arith)))
powers_other (suc k) zero (suc b) d = powers_other k zero b (λ e. d (omega arith))
powers_other (suc k) (suc a) (suc b) d =
    ap (λ c. plus c (powers k 0 (suc a) b)) (powers_other k a (suc b) (λ e. d (omega arith))) ∙ powers_other k (suc a) b (λ e. d (omega arith))

-- Adem's relation for the coefficients of such a polynomial
abbrev IsAdem : Polynomial → ℕ → ℕ → ℕ → Type 0
IsAdem p m a bound = is_odd_below (λ c. weight m a c && p (a + m + 1 - c) c) bound ≡ p a (m + 1)

sum_adem : (k m a bound : ℕ) → a ≤ 2 * m + 1 → a < 2 * bound → IsAdem (powers k 0) m a bound
sum_adem k m a bound l h = elim (cases_eq (a + m + 1) k) [
  | inl same ↦
      is_odd_below-same (λ c. weight m a c && powers k 0 (a + m + 1 - c) c) (λ c. weight m a c && is_odd (choose k c)) bound (λ c b. elim (cases_lt a (2 * c)) [
        | inl past ↦ and_left (weight m a c) (powers k 0 (a + m + 1 - c) c) (weight_past m a c past) ∙ sym (and_left (weight m a c) (is_odd (choose k c)) (weight_past m a c past))
        | inr within ↦ ap (λ q. weight m a c && q) (powers_binomial k (a + m + 1 - c) c (omega arith))
      ])
      ∙ weighted_sum m a k bound l (sym same) h
      ∙ choose_turned k a (m + 1) (omega arith)
      ∙ sym (powers_binomial k a (m + 1) (omega arith))
  | inr other ↦
      is_odd_below-none (λ c. weight m a c && powers k 0 (a + m + 1 - c) c) bound (λ c b. elim (cases_lt a (2 * c)) [
        | inl past ↦ and_left (weight m a c) (powers k 0 (a + m + 1 - c) c) (weight_past m a c past)
        | inr within ↦ and_right (weight m a c) (powers k 0 (a + m + 1 - c) c) (powers_other k (a + m + 1 - c) c (λ e. other (omega arith)))
      ])
      ∙ sym (powers_other k a (m + 1) (λ e. other (omega arith)))
]

-- one factor x^2 y more
module _ (p : Polynomial) where
  abbrev more : Polynomial
  more = times_y (times_x (times_x p))

  no_more : (m a bound : ℕ) → a < 2 → IsAdem more m a bound
  no_more m a bound l =
      is_odd_below-none (λ c. weight m a c && more (a + m + 1 - c) c) bound (λ c h. first c) ∙ sym (small a (m + 1) l)
    where
      small : (a b : ℕ) → a < 2 → more a b ≡ false
      small zero zero h = refl
      small zero (suc b) h = refl
      small (suc zero) zero h = refl
      small (suc zero) (suc b) h = refl
      small (suc (suc a)) b h = absurd (omega arith)

      first : (c : ℕ) → (weight m a c && more (a + m + 1 - c) c) ≡ false
      first zero = and_right (weight m a 0) false refl
      first (suc c) = and_left (weight m a (suc c)) (more (a + m + 1 - suc c) (suc c)) (weight_past m a (suc c) (omega arith))

  one_more : (m a bound : ℕ) → IsAdem p m a bound → IsAdem more (suc m) (suc (suc a)) (suc bound)
  one_more m a bound h =
      let q : ℕ → Bool = λ c. weight (suc m) (suc (suc a)) c && more (suc (suc a) + suc m + 1 - c) c in
      let last : suc m + 1 ≡ suc (m + 1) = omega arith in
      is_odd_below-first q bound
      ∙ ap (λ b. plus b (is_odd_below (λ c. q (suc c)) bound)) (and_right (weight (suc m) (suc (suc a)) 0) false refl)
      ∙ is_odd_below-same (λ c. q (suc c)) (λ c. weight m a c && p (a + m + 1 - c) c) bound (λ c l. elim (cases_lt a (2 * c)) [
        | inl past ↦ and_left (weight m a c) (more (suc (suc a) + suc m + 1 - suc c) (suc c)) (weight_past m a c past) ∙ sym (and_left (weight m a c) (p (a + m + 1 - c) c) (weight_past m a c past))
        | inr within ↦ let e : suc (suc a) + suc m + 1 - suc c ≡ suc (suc (a + m + 1 - c)) = omega arith in
            ap (λ k. weight m a c && more k (suc c)) e
      ])
      ∙ h
      ∙ ap (more (suc (suc a))) (sym last)

powers_adem : (k l m a bound : ℕ) → a ≤ 2 * m + 1 → a < 2 * bound → IsAdem (powers k l) m a bound
powers_adem k zero m a bound h b = sum_adem k m a bound h b
powers_adem k (suc l) m zero bound h b = no_more (powers k l) m 0 bound (omega arith)
powers_adem k (suc l) m (suc zero) bound h b = no_more (powers k l) m 1 bound (omega arith)
powers_adem k (suc l) zero (suc (suc a)) bound h b = absurd (omega arith)
powers_adem k (suc l) (suc m) (suc (suc a)) zero h b = absurd (omega arith)
powers_adem k (suc l) (suc m) (suc (suc a)) (suc bound) h b =
    one_more (powers k l) m a bound (powers_adem k l m a bound (omega arith) (omega arith))

-- The coefficient of x_1^a y_1^b in the coproduct of x^t is that of such a polynomial, or it is 0 for all a and b.

abbrev pair : ℕ → Monomial → Polynomial
pair n t a b = with_single n t a (single b)

abbrev IsPowers : ℕ → Monomial → Type 0
IsPowers n t = ((k : ℕ) × (l : ℕ) × ((a b : ℕ) → pair n t a b ≡ powers k l a b)) ⊎ ((a b : ℕ) → pair n t a b ≡ false)

lower-single : (b : ℕ) → lower (single (suc b)) 1 ≡ single b
lower-single b = fun_ext (λ a. at a)
  where
    at : (a : ℕ) → less (single (suc b)) 1 1 a ≡ single b a
    at zero = less-other (single (suc b)) 1 1 0 (λ e. omega arith)
    at (suc zero) = less-same (single (suc b)) 1 1 ∙ omega arith
    at (suc (suc a)) = less-other (single (suc b)) 1 1 (suc (suc a)) (λ e. omega arith)

-- x_1 more
pair_sum : (n : ℕ) → 1 ≤ n → (t : Monomial) (a b : ℕ) → pair n (λ x. variable 1 x + t x) a b ≡ times_sum (pair n t) a b
pair_sum n within t a b =
    single_raised n 0 within t a (single b)
    ∙ ap (λ c. plus c (by_left n 0 within t a (single b))) (right b)
    ∙ plus-comm (times_y (pair n t) a b) (by_left n 0 within t a (single b))
    ∙ ap (λ c. plus c (times_y (pair n t) a b)) (left a)
  where
    right : (b : ℕ) → by_right n 0 within t a (single b) ≡ times_y (pair n t) a b
    right zero = by_right-none n 0 within t a (single 0) refl
    right (suc b) = by_right-some n 0 within t a (single (suc b)) (omega arith) ∙ ap (with_single n t a) (lower-single b)

    left : (a : ℕ) → by_left n 0 within t a (single b) ≡ times_x (pair n t) a b
    left zero = by_left-small n 0 within t 0 (single b) (omega arith)
    left (suc a) = by_left-some n 0 within t (suc a) (single b) (omega arith) (λ l. absurd (omega arith)) ∙ ap (λ k. with_single n t k (single b)) (omega arith)

-- x_2 more
pair_more : (n : ℕ) → 2 ≤ n → (t : Monomial) (a b : ℕ) → pair n (λ x. variable 2 x + t x) a b ≡ times_y (times_x (times_x (pair n t))) a b
pair_more n within t a b =
    single_raised n 1 within t a (single b)
    ∙ ap (λ c. plus c (by_left n 1 within t a (single b))) (by_right-none n 1 within t a (single b) refl)
    ∙ left a b
  where
    left : (a b : ℕ) → by_left n 1 within t a (single b) ≡ times_y (times_x (times_x (pair n t))) a b
    left a zero = by_left-none n 1 within t a (single 0) (omega arith) refl
    left zero (suc b) = by_left-small n 1 within t 0 (single (suc b)) (omega arith)
    left (suc zero) (suc b) = by_left-small n 1 within t 1 (single (suc b)) (omega arith)
    left (suc (suc a)) (suc b) =
        by_left-some n 1 within t (suc (suc a)) (single (suc b)) (omega arith) (λ l. omega arith)
        ∙ ap (λ k. with_single n t k (lower (single (suc b)) 1)) (omega arith)
        ∙ ap (with_single n t a) (lower-single b)

-- x_3 or a later one more
pair_none : (n j : ℕ) → suc (suc (suc j)) ≤ n → (t : Monomial) (a b : ℕ) → pair n (λ x. variable (suc (suc (suc j))) x + t x) a b ≡ false
pair_none n j within t a b =
    single_raised n (suc (suc j)) within t a (single b)
    ∙ ap (λ c. plus c (by_left n (suc (suc j)) within t a (single b))) (by_right-none n (suc (suc j)) within t a (single b) refl)
    ∙ by_left-none n (suc (suc j)) within t a (single b) (omega arith) refl

pair_one : (n : ℕ) → 1 ≤ n → (a b : ℕ) → pair n (λ _. 0) a b ≡ one a b
pair_one n within a b =
    odd_terms-one n (map term (triangle n)) (λ x y. agree n x (single a) && agree n y (single b)) ∙ at a b
  where
    zeros : agree n (λ _. 0) (single 0) ≡ true
    zeros = agree_from n (λ _. 0) (single 0) (λ k l m. nought k)
      where
        nought : (k : ℕ) → 0 ≡ single 0 k
        nought zero = refl
        nought (suc zero) = refl
        nought (suc (suc k)) = refl

    some : (c : ℕ) → agree n (λ _. 0) (single (suc c)) ≡ false
    some c = same_answers (agree n (λ _. 0) (single (suc c))) false (λ e. absurd (impossible (agree_at n (λ _. 0) (single (suc c)) e 1 (omega arith) within))) (λ e. absurd (false_true e))
      where
        impossible : 0 ≡ suc c → ⊥
        impossible e = omega arith

        false_true : false ≡ true → ⊥
        false_true e = cc

    at : (a b : ℕ) → (agree n (λ _. 0) (single a) && agree n (λ _. 0) (single b)) ≡ one a b
    at zero zero = and_from (agree n (λ _. 0) (single 0)) (agree n (λ _. 0) (single 0)) zeros zeros
    at zero (suc b) = and_right (agree n (λ _. 0) (single 0)) (agree n (λ _. 0) (single (suc b))) (some b)
    at (suc a) b = and_left (agree n (λ _. 0) (single (suc a))) (agree n (λ _. 0) (single b)) (some a)

pair_raised : (n : ℕ) → 1 ≤ n → (k : ℕ) (t : Monomial) → 0 < k → k ≤ n → IsPowers n t → IsPowers n (λ x. variable k x + t x)
pair_raised n many zero t above within h = absurd (omega arith)
pair_raised n many (suc zero) t above within (inl (k, l, h)) =
    inl (suc k, l, λ a b. pair_sum n within t a b ∙ ap (λ p. times_sum p a b) (fun_ext (λ x. fun_ext (λ y. h x y))) ∙ sym (sum_more k l a b))
pair_raised n many (suc zero) t above within (inr h) =
    inr (λ a b. pair_sum n within t a b ∙ ap (λ p. times_sum p a b) (fun_ext (λ x. fun_ext (λ y. h x y))) ∙ none a b)
  where
    none : (a b : ℕ) → times_sum (λ x y. false) a b ≡ false
    none zero zero = refl
    none zero (suc b) = refl
    none (suc a) zero = refl
    none (suc a) (suc b) = refl
pair_raised n many (suc (suc zero)) t above within (inl (k, l, h)) =
    inl (k, suc l, λ a b. pair_more n within t a b ∙ ap (λ p. times_y (times_x (times_x p)) a b) (fun_ext (λ x. fun_ext (λ y. h x y))))
pair_raised n many (suc (suc zero)) t above within (inr h) =
    inr (λ a b. pair_more n within t a b ∙ ap (λ p. times_y (times_x (times_x p)) a b) (fun_ext (λ x. fun_ext (λ y. h x y))) ∙ none a b)
  where
    none : (a b : ℕ) → times_y (times_x (times_x (λ x y. false))) a b ≡ false
    none a zero = refl
    none zero (suc b) = refl
    none (suc zero) (suc b) = refl
    none (suc (suc a)) (suc b) = refl
pair_raised n many (suc (suc (suc j))) t above within h = inr (pair_none n j within t)

pair_is : (n : ℕ) → 1 ≤ n → (t : Monomial) → t 0 ≡ 0 → ((k : ℕ) → n < k → t k ≡ 0) → IsPowers n t
pair_is n many = by_factors n (IsPowers n) (inl (0, 0, pair_one n many)) (pair_raised n many)

-- So the relations hold.

square_pair : (n a b : ℕ) (t : List ℕ) → IsTrimmed t → 2 ≤ n → length t ≤ n → coefficient (square a) (square b) t ≡ pair n (exponents t) a b
square_pair n a b t tight many short =
    coefficient_single n a (square b) t tight (few b) short ∙ ap (with_single n (exponents t) a) (square-single b)
  where
    few : (b : ℕ) → 1 + length (square b) ≤ n
    few zero = omega arith
    few (suc b) = omega arith

module _ (a b : ℕ) (l : a < 2 * b) (t : List ℕ) where
  abbrev right_side : Bool
  right_side = is_odd (count_by (λ c. is_term a b c && coefficient (square (a + b - c)) (square c) t) (range_with_len 0 (a / 2 + 1)))

  by_weights : right_side ≡ is_odd_below (λ c. weight (b - 1) a c && coefficient (square (a + b - c)) (square c) t) (a / 2 + 1)
  by_weights = terms_are a b (λ c. coefficient (square (a + b - c)) (square c) t) l

  nothing_there : ((x y : ℕ) → coefficient (square x) (square y) t ≡ false) → coefficient (square a) (square b) t ≡ right_side
  nothing_there h =
      h a b ∙ sym (by_weights ∙ is_odd_below-none (λ c. weight (b - 1) a c && coefficient (square (a + b - c)) (square c) t) (a / 2 + 1) (λ c k.
      and_right (weight (b - 1) a c) (coefficient (square (a + b - c)) (square c) t) (h (a + b - c) c)))

  as_powers : (k e : ℕ) → ((x y : ℕ) → coefficient (square x) (square y) t ≡ powers k e x y) → coefficient (square a) (square b) t ≡ right_side
  as_powers k e h =
      let last : b - 1 + 1 ≡ b = omega arith in
      h a b ∙ ap (powers k e a) (sym last)
      ∙ sym (by_weights
      ∙ is_odd_below-same (λ c. weight (b - 1) a c && coefficient (square (a + b - c)) (square c) t) (λ c. weight (b - 1) a c && powers k e (a + (b - 1) + 1 - c) c) (a / 2 + 1) (λ c q.
      let same : a + b - c ≡ a + (b - 1) + 1 - c = omega arith in
      ap (λ x. weight (b - 1) a c && x) (h (a + b - c) c ∙ ap (λ x. powers k e x c) same))
      ∙ powers_adem k e (b - 1) a (a / 2 + 1) (omega arith) (omega arith))

  relation : coefficient (square a) (square b) t ≡ right_side
  relation = elim (cases_Bool (pointwise nat_eq (trimmed t) t)) [
    | inr e ↦ nothing_there (λ x y. coefficient_not_trimmed (square x) (square y) t e)
    | inl e ↦ let n : ℕ = length t + 2 in
        let tight : IsTrimmed t = (bytes_decides (trimmed t) t).0 e in
        elim (pair_is n (omega arith) (exponents t) refl (λ k p. exponents-past t k (omega arith))) [
          | inl is ↦ as_powers is.0 is.1 (λ x y. square_pair n x y t tight (omega arith) (omega arith) ∙ is.2 x y)
          | inr none ↦ nothing_there (λ x y. square_pair n x y t tight (omega arith) (omega arith) ∙ none x y)
        ]
  ]

pub adem_relations : AdemRelations
adem_relations a b p l t = relation a b l t
