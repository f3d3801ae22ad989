-- The coefficients of the coaction are multinomials.
use Rattle.std.specs.Prelude.{nat_lt}
use Rattle.std.proofs.Common.{◌≡◌, ℕ, zero, suc, ◌+◌, ◌-◌, ◌<◌, ◌≤◌, inl, inr, Bool, true, false, ◌&&◌, List, [], ◌∷◌, length, refl, sym, ◌∙◌, ap, arith, zero-add}
use Rattle.std.proofs.Math.Path.{fun_ext}
use Rattle.std.proofs.Math.Bool as Booleans
use Rattle.std.proofs.lemmas.Bool.{cases_eq, cases_lt, and_right, lt-ltb, false≢true}
use Rattle.f2_vec.specs.Vectors.{plus}
use Rattle.milnor_basis.specs.Exponents.{degree_of, entry, IsTrimmed}
use Rattle.milnor_basis.specs.Basis.{basis_of}
use Rattle.milnor_basis.specs.Product.{choose, is_odd, coefficient, product_terms}
use Rattle.milnor_basis.specs.Inside.Walk.{is_odd_below}
use Rattle.milnor_basis.proofs.BasisLemmas.{All-basis_of}
use Rattle.milnor_basis.proofs.ExponentLemmas.{length_within, same_answers}
use Rattle.milnor_basis.proofs.Kummer.{choose-past}
use Rattle.milnor_basis.proofs.Parity.{odd_by-range, odd_by-filter, is_odd-count_by, is_odd_below-same, is_odd_below-none}
use Rattle.milnor_laws.proofs.SumsModTwo.{plus-swap, and-plus, plus-and, is_odd_below-first}
use Rattle.milnor_laws.proofs.BinomialSums.{is_odd-add}
use Rattle.milnor_laws.proofs.Powers.{Monomial, variable, less, less-same, less-other, agree, agree_at, agree_from}
use Rattle.milnor_laws.proofs.Coefficients.{exponents}
use Rattle.milnor_laws.proofs.Associative.{odd_by-same_all}
use Rattle.adem_laws.proofs.Singles.{agree_few, agree_more}
use Rattle.projective_laws.specs.Powers.{power_coefficient, PowersAct}
use Rattle.projective_laws.proofs.Coaction.{coaction, coaction-same, coaction-fails, of_exponents, exponents_act}

-- the multinomial of n over the m exponents from that at j on
abbrev pub ways : ℕ → Monomial → ℕ → ℕ → Bool
ways n t j zero = true
ways n t j (suc m) = is_odd (choose n (t j)) && ways (n - t j) t (suc j) m

ways-same : (n : ℕ) (t u : Monomial) (j m : ℕ) → ((k : ℕ) → j ≤ k → t k ≡ u k) → ways n t j m ≡ ways n u j m
ways-same n t u j zero h = refl
ways-same n t u j (suc m) h =
    ap (λ x. is_odd (choose n x) && ways (n - x) t (suc j) m) (h j (omega arith))
    ∙ ap (λ b. is_odd (choose n (u j)) && b) (ways-same (n - u j) t u (suc j) m (λ k l. h k (omega arith)))

-- with one exponent lowered, if it is not 0
abbrev lowered : ℕ → Monomial → ℕ → ℕ → ℕ → Bool
lowered n t j m i = nat_lt 0 (t i) && ways n (less t i 1) j m

-- Pascal's rule, for one exponent and the sum over those behind it

and-sum : (c : Bool) (p : ℕ → Bool) (m : ℕ) → is_odd_below (λ i. c && p i) m ≡ (c && is_odd_below p m)
and-sum true p m = refl
and-sum false p m = is_odd_below-none (λ i. false && p i) m (λ i l. refl)

-- an exponent behind the first lowered
lowered-later : (n : ℕ) (t : Monomial) (j m i : ℕ) → j < i → lowered n t j (suc m) i ≡ (is_odd (choose n (t j)) && lowered (n - t j) t (suc j) m i)
lowered-later n t j m i l =
    ap (λ x. nat_lt 0 (t i) && (is_odd (choose n x) && ways (n - x) (less t i 1) (suc j) m)) (less-other t i 1 j (λ e. omega arith))
    ∙ inside (is_odd (choose n (t j)))
  where
    inside : (b : Bool) → (nat_lt 0 (t i) && (b && ways (n - t j) (less t i 1) (suc j) m)) ≡ (b && lowered (n - t j) t (suc j) m i)
    inside true = refl
    inside false = Booleans.and-false (nat_lt 0 (t i))

-- the first lowered
lowered-first : (n : ℕ) (t : Monomial) (j m v : ℕ) → t j ≡ suc v → lowered n t j (suc m) j ≡ (is_odd (choose n v) && ways (n - v) t (suc j) m)
lowered-first n t j m v e =
    let down : less t j 1 j ≡ v = less-same t j 1 ∙ (let f : t j - 1 ≡ v = omega (arith, e) in f) in
    ap (λ x. nat_lt 0 x && ways n (less t j 1) j (suc m)) e
    ∙ ap (λ b. b && ways n (less t j 1) j (suc m)) (lt-ltb 0 (suc v) (omega arith))
    ∙ ap (λ x. is_odd (choose n x) && ways (n - x) (less t j 1) (suc j) m) down
    ∙ ap (λ b. is_odd (choose n v) && b) (ways-same (n - v) (less t j 1) t (suc j) m (λ k l. less-other t j 1 k (λ f. omega arith)))

-- the sum over the exponents, each lowered
abbrev lowered_once : Monomial → ℕ → ℕ → ℕ → Bool
lowered_once t j m n = is_odd_below (λ i. lowered n t j m (i + j)) m

abbrev IsPascal : Monomial → ℕ → ℕ → Type 0
IsPascal t j m = (n : ℕ) → ways (suc n) t j m ≡ plus (ways n t j m) (lowered_once t j m n)

pascal : (n : ℕ) (t : Monomial) (j m : ℕ) → ways (suc n) t j m ≡ plus (ways n t j m) (lowered_once t j m n)
pascal n t j zero = refl
pascal n t j (suc m) = by (λ k. pascal k t (suc j) m) (t j) refl ∙ sym split
  where
    split : plus (ways n t j (suc m)) (is_odd_below (λ i. lowered n t j (suc m) (i + j)) (suc m)) ≡ plus (ways n t j (suc m)) (plus (lowered n t j (suc m) j) (is_odd (choose n (t j)) && lowered_once t (suc j) m (n - t j)))
    split =
        let here : 0 + j ≡ j = omega arith in
        ap (plus (ways n t j (suc m))) (is_odd_below-first (λ i. lowered n t j (suc m) (i + j)) m
        ∙ ap (λ k. plus (lowered n t j (suc m) k) (is_odd_below (λ i. lowered n t j (suc m) (suc i + j)) m)) here
        ∙ ap (plus (lowered n t j (suc m) j))
        (is_odd_below-same (λ i. lowered n t j (suc m) (suc i + j)) (λ i. is_odd (choose n (t j)) && lowered (n - t j) t (suc j) m (i + suc j)) m
        (λ i l. let e : suc i + j ≡ i + suc j = omega arith in ap (lowered n t j (suc m)) e ∙ lowered-later n t j m (i + suc j) (omega arith))
        ∙ and-sum (is_odd (choose n (t j))) (λ i. lowered (n - t j) t (suc j) m (i + suc j)) m))

    -- the exponent itself is v + 1
    more : IsPascal t (suc j) m → (v : ℕ) → t j ≡ suc v → (is_odd (choose n (suc v)) && ways (n - v) t (suc j) m) ≡ plus (is_odd (choose n (suc v)) && ways (n - suc v) t (suc j) m) (is_odd (choose n (suc v)) && lowered_once t (suc j) m (n - suc v))
    more before v e = elim (cases_lt v n) [
      | inl within ↦
          let f : n - v ≡ suc (n - suc v) = omega arith in
          ap (λ k. is_odd (choose n (suc v)) && ways k t (suc j) m) f
          ∙ ap (λ b. is_odd (choose n (suc v)) && b) (before (n - suc v))
          ∙ and-plus (is_odd (choose n (suc v))) (ways (n - suc v) t (suc j) m) (lowered_once t (suc j) m (n - suc v))
      | inr past ↦
          let none : is_odd (choose n (suc v)) ≡ false = ap is_odd (choose-past n (suc v) (omega arith)) in
          ap (λ b. b && ways (n - v) t (suc j) m) none
          ∙ sym (ap (λ b. plus (b && ways (n - suc v) t (suc j) m) (b && lowered_once t (suc j) m (n - suc v))) none)
    ]

    by : IsPascal t (suc j) m → (u : ℕ) → t j ≡ u → ways (suc n) t j (suc m) ≡ plus (ways n t j (suc m)) (plus (lowered n t j (suc m) j) (is_odd (choose n (t j)) && lowered_once t (suc j) m (n - t j)))
    by before zero e =
        let still : n - 0 ≡ n = omega arith in
        let more_still : suc n - 0 ≡ suc n = omega arith in
        ap (λ x. is_odd (choose (suc n) x) && ways (suc n - x) t (suc j) m) e
        ∙ ap (λ k. ways k t (suc j) m) more_still
        ∙ before n
        ∙ sym (ap (λ x. plus (is_odd (choose n x) && ways (n - x) t (suc j) m) (plus (nat_lt 0 x && ways n (less t j 1) j (suc m)) (is_odd (choose n x) && lowered_once t (suc j) m (n - x)))) e
        ∙ ap (λ k. plus (ways k t (suc j) m) (lowered_once t (suc j) m k)) still)
    by before (suc v) e =
        let a = is_odd (choose n v) in
        let b = is_odd (choose n (suc v)) in
        let first = lowered-first n t j m v e in
        let down : suc n - suc v ≡ n - v = omega arith in
        ap (λ x. is_odd (choose (suc n) x) && ways (suc n - x) t (suc j) m) e
        ∙ ap (λ k. is_odd (choose (suc n) (suc v)) && ways k t (suc j) m) down
        ∙ ap (λ x. x && ways (n - v) t (suc j) m) (is_odd-add (choose n v) (choose n (suc v)))
        ∙ plus-and a b (ways (n - v) t (suc j) m)
        ∙ ap (plus (a && ways (n - v) t (suc j) m)) (more before v e)
        ∙ plus-swap (a && ways (n - v) t (suc j) m) (b && ways (n - suc v) t (suc j) m) (b && lowered_once t (suc j) m (n - suc v))
        ∙ ap (λ x. plus (b && ways (n - suc v) t (suc j) m) (plus x (b && lowered_once t (suc j) m (n - suc v)))) (sym first)
        ∙ sym (ap (λ x. plus (is_odd (choose n x) && ways (n - x) t (suc j) m) (plus (lowered n t j (suc m) j) (is_odd (choose n x) && lowered_once t (suc j) m (n - x)))) e)

-- the power 0 has the term without variables alone

ways-nothing : (t : Monomial) (j m : ℕ) → ((k : ℕ) → j ≤ k → k < j + m → t k ≡ 0) → ways 0 t j m ≡ true
ways-nothing t j zero h = refl
ways-nothing t j (suc m) h =
    ap (λ x. is_odd (choose 0 x) && ways (0 - x) t (suc j) m) (h j (omega arith) (omega arith)) ∙ ways-nothing t (suc j) m (λ k l p. h k (omega arith) (omega arith))

ways-something : (t : Monomial) (j m k : ℕ) → j ≤ k → k < j + m → 0 < t k → ways 0 t j m ≡ false
ways-something t j zero k l h p = absurd (omega arith)
ways-something t j (suc m) k l h p = elim (cases_eq j k) [
  | inl same ↦ ap (λ b. b && ways (0 - t j) t (suc j) m) (ap is_odd (choose-past 0 (t j) (let e = ap t same in omega (arith, e))))
  | inr other ↦
      let e : 0 - t j ≡ 0 = omega arith in
      ap (λ x. is_odd (choose 0 (t j)) && ways x t (suc j) m) e
      ∙ and_right (is_odd (choose 0 (t j))) (ways 0 t (suc j) m) (ways-something t (suc j) m k (omega arith) (omega arith) p)
]

nothing_is : (w : ℕ) (t : Monomial) → agree w (λ _. 0) t ≡ ways 0 t 1 w
nothing_is w t =
    same_answers (agree w (λ _. 0) t) (ways 0 t 1 w)
    (λ e. ways-nothing t 1 w (λ k l h. sym (agree_at w (λ _. 0) t e k l (omega arith))))
    (λ e. agree_from w (λ _. 0) t (λ k l h. zero_at e k l h (t k) refl))
  where
    zero_at : ways 0 t 1 w ≡ true → (k : ℕ) → 0 < k → k ≤ w → (x : ℕ) → t k ≡ x → 0 ≡ t k
    zero_at e k l h zero z = sym z
    zero_at e k l h (suc x) z = absurd (false≢true (sym (ways-something t 1 w k l (omega arith) (omega (arith, z))) ∙ e))

-- the coefficient of y^t in the n-th power
pub counted : (w n : ℕ) (t : Monomial) → coaction w n (λ e y. agree w y t) ≡ ways n t 1 w
counted w zero t = nothing_is w t
counted w (suc n) t =
    odd_by-range part (suc w)
    ∙ is_odd_below-first part w
    ∙ ap (λ b. plus b (is_odd_below (λ i. part (suc i)) w))
    (coaction-same w n (λ e y. agree w (λ a. variable 0 a + y a) t) (λ e y. agree w y t) (λ e y. ap (λ z. agree w z t) (fun_ext (λ a. zero-add (y a)))) ∙ counted w n t)
    ∙ ap (plus (ways n t 1 w)) (is_odd_below-same (λ i. part (suc i)) (λ i. lowered n t 1 w (i + 1)) w (λ i l. let e : suc i ≡ i + 1 = omega arith in one i l (t (suc i)) refl (counted w n (less t (suc i) 1)) ∙ ap (lowered n t 1 w) e))
    ∙ sym (pascal n t 1 w)
  where
    part : ℕ → Bool
    part i = coaction w n (λ e y. agree w (λ a. variable i a + y a) t)

    one : (i : ℕ) → i < w → (x : ℕ) → t (suc i) ≡ x → coaction w n (λ e y. agree w y (less t (suc i) 1)) ≡ ways n (less t (suc i) 1) 1 w → part (suc i) ≡ lowered n t 1 w (suc i)
    one i l zero e before =
        let few : t (suc i) < 1 = omega (arith, e) in
        coaction-fails w n (λ e y. agree w (λ a. variable (suc i) a + y a) t) (λ e y. agree_few w (suc i) 1 (λ a. variable (suc i) a + y a) y t (omega arith) (omega arith) (λ a. omega arith) few)
        ∙ sym (ap (λ x. nat_lt 0 x && ways n (less t (suc i) 1) 1 w) e)
    one i l (suc x) e before =
        let some : 1 ≤ t (suc i) = omega (arith, e) in
        coaction-same w n (λ e y. agree w (λ a. variable (suc i) a + y a) t) (λ e y. agree w y (less t (suc i) 1)) (λ e y. agree_more w (suc i) 1 (λ a. variable (suc i) a + y a) y t (omega arith) (omega arith) (λ a. omega arith) some)
        ∙ before
        ∙ sym (ap (λ x. nat_lt 0 x && ways n (less t (suc i) 1) 1 w) e ∙ ap (λ b. b && ways n (less t (suc i) 1) 1 w) (lt-ltb 0 (suc x) (omega arith)))

-- as of a list of exponents

ways-list : (n : ℕ) (t : Monomial) (j m : ℕ) (r : List ℕ) → length r ≤ m → ((k : ℕ) → t (k + j) ≡ entry r k) → ways n t j m ≡ power_coefficient n r
ways-list n t j zero [] l h = refl
ways-list n t j zero (x ∷ r) l h = absurd (omega arith)
ways-list n t j (suc m) [] l h =
    let here : t j ≡ 0 = ap t (omega arith) ∙ h 0 in
    let still : n - 0 ≡ n = omega arith in
    ap (λ x. is_odd (choose n x) && ways (n - x) t (suc j) m) here
    ∙ ap (λ k. ways k t (suc j) m) still
    ∙ ways-list n t (suc j) m [] (omega arith) (λ k. let e : k + suc j ≡ suc k + j = omega arith in ap t e ∙ h (suc k))
ways-list n t j (suc m) (x ∷ r) l h =
    let here : t j ≡ x = ap t (omega arith) ∙ h 0 in
    ap (λ y. is_odd (choose n y) && ways (n - y) t (suc j) m) here
    ∙ ap (λ b. is_odd (choose n x) && b) (ways-list (n - x) t (suc j) m r (omega arith) (λ k. let e : k + suc j ≡ suc k + j = omega arith in ap t e ∙ h (suc k)))

coefficient_is : (w n : ℕ) (r : List ℕ) → length r ≤ w → of_exponents w n r ≡ power_coefficient n r
coefficient_is w n r l =
    counted w n (exponents r) ∙ ways-list n (exponents r) 1 w r l (λ k. let e : k + 1 ≡ suc k = omega arith in ap (exponents r) e)

pub powers_act : PowersAct
powers_act n r s hr hs =
    let w = degree_of r + degree_of s in
    let a = length_within r hr in
    let b = length_within s hs in
    let basis = basis_of w in
    ap (λ x. x && power_coefficient (n + degree_of s) r) (sym (coefficient_is w n s (omega arith)))
    ∙ ap (λ x. of_exponents w n s && x) (sym (coefficient_is w (n + degree_of s) r (omega arith)))
    ∙ exponents_act w n r s hr hs (omega arith)
    ∙ is_odd-count_by (of_exponents w n) (product_terms r s)
    ∙ odd_by-filter (of_exponents w n) (coefficient r s) basis
    ∙ odd_by-same_all (λ x. IsTrimmed x × (degree_of x ≡ w)) (λ x. coefficient r s x && of_exponents w n x) (λ x. coefficient r s x && power_coefficient n x) basis (All-basis_of w)
    (λ x own. ap (λ c. coefficient r s x && c) (coefficient_is w n x (let c = length_within x own.0 in omega (arith, own.1))))
    ∙ sym (odd_by-filter (power_coefficient n) (coefficient r s) basis)
    ∙ sym (is_odd-count_by (power_coefficient n) (product_terms r s))
