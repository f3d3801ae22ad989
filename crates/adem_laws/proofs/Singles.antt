-- The product Sq(u) Sq(S), read in the coproduct: of its terms x_i^(2^j) y_j those with i = 0 and i = 1 alone.
use Rattle.std.proofs.Common.{◌≡◌, ◌≢◌, ℕ, zero, suc, ◌+◌, ◌-◌, ◌*◌, ◌^◌, ◌<◌, ◌≤◌, inl, inr, Bool, false, ◌&&◌, List, length, map, refl, sym, ◌∙◌, ap, arith}
use Rattle.std.proofs.Math.Path.{fun_ext}
use Rattle.std.proofs.lemmas.Bool.{and_left, and_right, cases_eq}
use Rattle.std.proofs.lemmas.Nat.{pow_pos}
use Rattle.milnor_basis.specs.Exponents.{IsTrimmed}
use Rattle.milnor_basis.specs.Product.{coefficient}
use Rattle.f2_vec.specs.Vectors.{plus}
use Rattle.f2_vec.proofs.Sums.{plus-false}
use Rattle.milnor_basis.proofs.Parity.{is_odd_below-none}
use Rattle.milnor_laws.proofs.SumsModTwo.{is_odd_below-first, splits-below}
use Rattle.milnor_laws.proofs.Powers.{Monomial, Test, variable, variable-same, variable-other, less, less-same, less-other, agree, agree_at, agree_from, agree_not, shift, odd_terms-fails, odd_terms-same}
use Rattle.milnor_laws.proofs.Coproduct.{term, triangle, coproduct, coproduct_raised}
use Rattle.milnor_laws.proofs.Coefficients.{exponents, coefficient_is}
use Rattle.milnor_basis.proofs.ExponentLemmas.{same_answers}
use Rattle.adem_laws.specs.Adem.{square}

-- x_1^u
abbrev pub single : ℕ → Monomial
single u zero = 0
single u (suc zero) = u
single u (suc (suc a)) = 0

pub square-single : (u : ℕ) → exponents (square u) ≡ single u
square-single u = fun_ext (λ k. at u k)
  where
    at : (u k : ℕ) → exponents (square u) k ≡ single u k
    at zero zero = refl
    at (suc u) zero = refl
    at zero (suc zero) = refl
    at (suc u) (suc zero) = refl
    at zero (suc (suc k)) = refl
    at (suc u) (suc (suc k)) = refl

-- whether a pair of monomials is x_1^u y^s
abbrev pub is_single : ℕ → ℕ → Monomial → Test
is_single n u s a b = agree n a (single u) && agree n b s

-- the coefficient of x_1^u y^s in the coproduct of x^t
abbrev pub with_single : ℕ → Monomial → ℕ → Monomial → Bool
with_single n t u s = coproduct n t (is_single n u s)

pub coefficient_single : (n u : ℕ) (s t : List ℕ) → IsTrimmed t → 1 + length s ≤ n → length t ≤ n → coefficient (square u) s t ≡ with_single n (exponents t) u (exponents s)
coefficient_single n u s t tight fits short =
    coefficient_is n (square u) s t tight (few u) short ∙ ap (λ e. coproduct n (exponents t) (λ a b. agree n a e && agree n b (exponents s))) (square-single u)
  where
    few : (u : ℕ) → length (square u) + length s ≤ n
    few zero = omega arith
    few (suc u) = omega arith

-- x_i^p times x^a is x^s

module _ (n i p : ℕ) (h a s : Monomial) (above : 0 < i) (within : i ≤ n) (is : (x : ℕ) → h x ≡ p * variable i x + a x) where
  at_place : h i ≡ p + a i
  at_place = let one : p * variable i i ≡ p * 1 = ap (λ v. p * v) (variable-same i above) in omega (arith, is i)

  elsewhere : (x : ℕ) → x ≢ i → h x ≡ a x
  elsewhere x d = let none : p * variable i x ≡ p * 0 = ap (λ v. p * v) (variable-other i x d) in omega (arith, is x)

  pub agree_few : s i < p → agree n h s ≡ false
  agree_few l = agree_not n h s i above within (λ e. omega (arith, at_place))

  pub agree_more : p ≤ s i → agree n h s ≡ agree n a (less s i p)
  agree_more l =
      same_answers (agree n h s) (agree n a (less s i p))
      (λ e. agree_from n a (less s i p) (λ k m w. elim (cases_eq k i) [
        | inl same ↦ let both : h i ≡ s i = agree_at n h s e i above within in
            let left : a i ≡ s i - p = omega (arith, at_place) in
            ap a same ∙ left ∙ sym (less-same s i p) ∙ ap (less s i p) (sym same)
        | inr other ↦ sym (elsewhere k other) ∙ agree_at n h s e k m w ∙ sym (less-other s i p k other)
      ]))
      (λ e. agree_from n h s (λ k m w. elim (cases_eq k i) [
        | inl same ↦ let both : a i ≡ s i - p = agree_at n a (less s i p) e i above within ∙ less-same s i p in
            let left : h i ≡ s i = omega (arith, at_place) in
            ap h same ∙ left ∙ ap s (sym same)
        | inr other ↦ elsewhere k other ∙ agree_at n a (less s i p) e k m w ∙ less-other s i p k other
      ]))

less-single : (u p : ℕ) → less (single u) 1 p ≡ single (u - p)
less-single u p = fun_ext (λ a. at a)
  where
    at : (a : ℕ) → less (single u) 1 p a ≡ single (u - p) a
    at zero = less-other (single u) 1 p 0 (λ e. omega arith)
    at (suc zero) = less-same (single u) 1 p
    at (suc (suc a)) = less-other (single u) 1 p (suc (suc a)) (λ e. omega arith)

-- the exponents with one taken from that at j, none at j = 0
abbrev pub lower : Monomial → ℕ → Monomial
lower s zero = s
lower s (suc j) = less s (suc j) 1

once : (x y : ℕ) → 1 * x + y ≡ x + y
once x y = omega arith

one_time : (p x y : ℕ) → 1 * (p * x) + y ≡ p * x + y
one_time p x y = omega arith

nothing : (p x y : ℕ) → x ≡ 0 → 1 * (p * x) + y ≡ y
nothing p x y e = let g : p * x ≡ p * 0 = ap (λ z. p * z) e in omega arith

-- One factor x_(j + 1) more in x^t.
module _ (n j : ℕ) (within : suc j ≤ n) (t : Monomial) (u : ℕ) (s : Monomial) where
  -- by its term y_(j + 1), and by its term x_1^(2^j) y_j
  abbrev pub by_right : Bool
  by_right = coproduct n t (shift 1 (term (0, suc j)) (is_single n u s))

  abbrev pub by_left : Bool
  by_left = coproduct n t (shift 1 (term (1, j)) (is_single n u s))

  others : (i k : ℕ) → 1 < i → i ≤ n → coproduct n t (shift 1 (term (i, k)) (is_single n u s)) ≡ false
  others zero k l m = absurd (omega arith)
  others (suc zero) k l m = absurd (omega arith)
  others (suc (suc i)) k l m =
      odd_terms-fails n (map term (triangle n)) t (shift 1 (term (suc (suc i), k)) (is_single n u s)) (λ a b.
      and_left (agree n (λ x. 1 * (2 ^ k * variable (suc (suc i)) x) + a x) (single u)) (agree n (λ x. 1 * variable k x + b x) s)
      (agree_few n (suc (suc i)) (2 ^ k) (λ x. 1 * (2 ^ k * variable (suc (suc i)) x) + a x) a (single u) (omega arith) m (λ x. one_time (2 ^ k) (variable (suc (suc i)) x) (a x)) (power_positive k)))
    where
      power_positive : (k : ℕ) → 0 < 2 ^ k
      power_positive k = pow_pos k

  pub single_raised : with_single n (λ a. variable (suc j) a + t a) u s ≡ plus by_right by_left
  single_raised =
      let p : ℕ → Bool = λ i. coproduct n t (shift 1 (term (i, suc j - i)) (is_single n u s)) in
      let e : suc j - 0 ≡ suc j = omega arith in
      let f : suc j - 1 ≡ j = omega arith in
      coproduct_raised n (suc j) within t (is_single n u s)
      ∙ splits-below (λ q. coproduct n t (shift 1 (term q) (is_single n u s))) (suc j)
      ∙ is_odd_below-first p (suc j)
      ∙ ap (plus (p 0)) (is_odd_below-first (λ i. p (suc i)) j)
      ∙ ap (λ b. plus (p 0) (plus (p 1) b)) (is_odd_below-none (λ i. p (suc (suc i))) j (λ i l. others (suc (suc i)) (suc j - suc (suc i)) (omega arith) (omega arith)))
      ∙ ap (plus (p 0)) (plus-false (p 1))
      ∙ ap (λ k. plus (coproduct n t (shift 1 (term (0, k)) (is_single n u s))) (p 1)) e
      ∙ ap (λ k. plus by_right (coproduct n t (shift 1 (term (1, k)) (is_single n u s)))) f

  pub by_right-none : s (suc j) ≡ 0 → by_right ≡ false
  by_right-none z =
      odd_terms-fails n (map term (triangle n)) t (shift 1 (term (0, suc j)) (is_single n u s)) (λ a b.
      and_right (agree n (λ x. 1 * (2 ^ suc j * 0) + a x) (single u)) (agree n (λ x. 1 * variable (suc j) x + b x) s)
      (agree_few n (suc j) 1 (λ x. 1 * variable (suc j) x + b x) b s (omega arith) within (λ x. refl) (omega arith)))

  pub by_right-some : 0 < s (suc j) → by_right ≡ with_single n t u (lower s (suc j))
  by_right-some l =
      odd_terms-same n (map term (triangle n)) t (shift 1 (term (0, suc j)) (is_single n u s)) (is_single n u (lower s (suc j))) (λ a b.
      ap (λ h. agree n h (single u) && agree n (λ x. 1 * variable (suc j) x + b x) s) (fun_ext (λ x. nothing (2 ^ suc j) 0 (a x) refl))
      ∙ ap (λ c. agree n a (single u) && c) (agree_more n (suc j) 1 (λ x. 1 * variable (suc j) x + b x) b s (omega arith) within (λ x. refl) l))

  pub by_left-small : u < 2 ^ j → by_left ≡ false
  by_left-small l =
      odd_terms-fails n (map term (triangle n)) t (shift 1 (term (1, j)) (is_single n u s)) (λ a b.
      and_left (agree n (λ x. 1 * (2 ^ j * variable 1 x) + a x) (single u)) (agree n (λ x. 1 * variable j x + b x) s)
      (agree_few n 1 (2 ^ j) (λ x. 1 * (2 ^ j * variable 1 x) + a x) a (single u) (omega arith) (omega arith) (λ x. one_time (2 ^ j) (variable 1 x) (a x)) l))

  pub by_left-none : 0 < j → s j ≡ 0 → by_left ≡ false
  by_left-none above z =
      odd_terms-fails n (map term (triangle n)) t (shift 1 (term (1, j)) (is_single n u s)) (λ a b.
      and_right (agree n (λ x. 1 * (2 ^ j * variable 1 x) + a x) (single u)) (agree n (λ x. 1 * variable j x + b x) s)
      (agree_few n j 1 (λ x. 1 * variable j x + b x) b s above (omega arith) (λ x. refl) (omega arith)))

  pub by_left-some : 2 ^ j ≤ u → (0 < j → 0 < s j) → by_left ≡ with_single n t (u - 2 ^ j) (lower s j)
  by_left-some l has =
      odd_terms-same n (map term (triangle n)) t (shift 1 (term (1, j)) (is_single n u s)) (is_single n (u - 2 ^ j) (lower s j)) (λ a b.
      ap (λ c. c && agree n (λ x. 1 * variable j x + b x) s)
      (agree_more n 1 (2 ^ j) (λ x. 1 * (2 ^ j * variable 1 x) + a x) a (single u) (omega arith) (omega arith) (λ x. one_time (2 ^ j) (variable 1 x) (a x)) l
      ∙ ap (agree n a) (less-single u (2 ^ j)))
      ∙ ap (λ c. agree n a (single (u - 2 ^ j)) && c) (lowered j within has b))
    where
      zero_more : (y : ℕ) → 1 * 0 + y ≡ y
      zero_more y = omega arith

      lowered : (i : ℕ) → suc i ≤ n → (0 < i → 0 < s i) → (b : Monomial) → agree n (λ x. 1 * variable i x + b x) s ≡ agree n b (lower s i)
      lowered zero fits some b = ap (λ h. agree n h s) (fun_ext (λ x. zero_more (b x)))
      lowered (suc i) fits some b = agree_more n (suc i) 1 (λ x. 1 * variable (suc i) x + b x) b s (omega arith) (omega arith) (λ x. refl) (some (omega arith))
