-- Sums over 0 to n weighted by the binomial coefficients mod 2.
use Rattle.std.proofs.Common.{◌≡◌, ℕ, zero, suc, ◌+◌, ◌≤◌, ◌%◌, Bool, true, false, not, ◌&&◌, List, [], ◌∷◌, refl, sym, ◌∙◌, ap, arith, zero-add}
use Rattle.f2_vec.specs.Vectors.{plus}
use Rattle.f2_vec.proofs.Sums.{plus-assoc, plus-comm, plus-false}
use Rattle.milnor_basis.specs.Product.{choose, is_odd, odd_by}
use Rattle.milnor_basis.specs.Inside.Walk.{is_odd_below}
use Rattle.milnor_basis.proofs.Kummer.{choose-past}
use Rattle.milnor_basis.proofs.Parity.{is_odd_below-same}
use Rattle.milnor_laws.proofs.SumsModTwo.{plus-four, plus-and, is_odd_below-plus, is_odd_below-first}

-- the sum of h v, as often as v of n things can be chosen: the last of the n is left, or it is taken
abbrev pub binomial_sum : ℕ → (ℕ → Bool) → Bool
binomial_sum zero h = h 0
binomial_sum (suc n) h = plus (binomial_sum n h) (binomial_sum n (λ v. h (suc v)))

pub binomial_sum-same : (n : ℕ) (g h : ℕ → Bool) → ((v : ℕ) → v ≤ n → g v ≡ h v) → binomial_sum n g ≡ binomial_sum n h
binomial_sum-same zero g h k = k 0 (omega arith)
binomial_sum-same (suc n) g h k =
    ap (λ b. plus b (binomial_sum n (λ v. g (suc v)))) (binomial_sum-same n g h (λ v l. k v (omega arith)))
    ∙ ap (plus (binomial_sum n h)) (binomial_sum-same n (λ v. g (suc v)) (λ v. h (suc v)) (λ v l. k (suc v) (omega arith)))

pub binomial_sum-plus : (n : ℕ) (g h : ℕ → Bool) → binomial_sum n (λ v. plus (g v) (h v)) ≡ plus (binomial_sum n g) (binomial_sum n h)
binomial_sum-plus zero g h = refl
binomial_sum-plus (suc n) g h =
    ap (λ b. plus b (binomial_sum n (λ v. plus (g (suc v)) (h (suc v))))) (binomial_sum-plus n g h)
    ∙ ap (plus (plus (binomial_sum n g) (binomial_sum n h))) (binomial_sum-plus n (λ v. g (suc v)) (λ v. h (suc v)))
    ∙ plus-four (binomial_sum n g) (binomial_sum n h) (binomial_sum n (λ v. g (suc v))) (binomial_sum n (λ v. h (suc v)))

pub binomial_sum-none : (n : ℕ) → binomial_sum n (λ v. false) ≡ false
binomial_sum-none zero = refl
binomial_sum-none (suc n) = ap (λ b. plus b (binomial_sum n (λ v. false))) (binomial_sum-none n) ∙ binomial_sum-none n

pub binomial_sum-and : (n : ℕ) (c : Bool) (h : ℕ → Bool) → binomial_sum n (λ v. c && h v) ≡ (c && binomial_sum n h)
binomial_sum-and n true h = refl
binomial_sum-and n false h = binomial_sum-none n

pub binomial_sum-odd_by : {X : Type 0} → (n : ℕ) (g : X → ℕ → Bool) (xs : List X) → binomial_sum n (λ v. odd_by (λ x. g x v) xs) ≡ odd_by (λ x. binomial_sum n (g x)) xs
binomial_sum-odd_by n g [] = binomial_sum-none n
binomial_sum-odd_by n g (x ∷ xs) = binomial_sum-plus n (g x) (λ v. odd_by (λ y. g y v) xs) ∙ ap (plus (binomial_sum n (g x))) (binomial_sum-odd_by n g xs)

-- the same by Pascal's triangle

is_odd-suc : (n : ℕ) → is_odd (suc n) ≡ not (is_odd n)
is_odd-suc n = elim-mod n (n % 2) refl where
  elim-mod : (n k : ℕ) → n % 2 ≡ k → is_odd (suc n) ≡ not (is_odd n)
  elim-mod n zero e = let a : suc n % 2 ≡ 1 = omega arith in rw (a, e) refl
  elim-mod n (suc zero) e = let a : suc n % 2 ≡ 0 = omega arith in rw (a, e) refl
  elim-mod n (suc (suc k)) e = absurd (omega arith)

pub is_odd-add : (m n : ℕ) → is_odd (m + n) ≡ plus (is_odd m) (is_odd n)
is_odd-add zero n = ap is_odd (zero-add n)
is_odd-add (suc m) n =
    let e : suc m + n ≡ suc (m + n) = omega arith in
    ap is_odd e ∙ is_odd-suc (m + n) ∙ ap not (is_odd-add m n) ∙ turned (is_odd m) (is_odd n) ∙ ap (λ b. plus b (is_odd n)) (sym (is_odd-suc m))
  where
    turned : (a b : Bool) → not (plus a b) ≡ plus (not a) b
    turned true true = refl
    turned true false = refl
    turned false b = refl

pub binomial_sum-is : (n : ℕ) (h : ℕ → Bool) → binomial_sum n h ≡ is_odd_below (λ v. is_odd (choose n v) && h v) (suc n)
binomial_sum-is zero h = sym (plus-false (h 0))
binomial_sum-is (suc n) h =
    let a : ℕ → Bool = λ v. is_odd (choose n v) && h (suc v) in
    let b : ℕ → Bool = λ v. is_odd (choose n (suc v)) && h (suc v) in
    let front : is_odd_below (λ v. is_odd (choose n v) && h v) (suc (suc n)) ≡ plus (h 0) (is_odd_below b (suc n)) = is_odd_below-first (λ v. is_odd (choose n v) && h v) (suc n) in
    let past : is_odd_below (λ v. is_odd (choose n v) && h v) (suc (suc n)) ≡ is_odd_below (λ v. is_odd (choose n v) && h v) (suc n) = ap (λ k. plus (is_odd k && h (suc n)) (is_odd_below (λ v. is_odd (choose n v) && h v) (suc n))) (choose-past n (suc n) (omega arith)) in
    let left : binomial_sum n h ≡ plus (h 0) (is_odd_below b (suc n)) = binomial_sum-is n h ∙ sym past ∙ front in
    let pascal : is_odd_below (λ v. is_odd (choose (suc n) (suc v)) && h (suc v)) (suc n) ≡ plus (is_odd_below a (suc n)) (is_odd_below b (suc n)) =
    is_odd_below-same (λ v. is_odd (choose (suc n) (suc v)) && h (suc v)) (λ v. plus (a v) (b v)) (suc n)
    (λ v l. ap (λ c. c && h (suc v)) (is_odd-add (choose n v) (choose n (suc v))) ∙ plus-and (is_odd (choose n v)) (is_odd (choose n (suc v))) (h (suc v)))
    ∙ is_odd_below-plus a b (suc n) in
    ap (λ c. plus c (binomial_sum n (λ v. h (suc v)))) left
    ∙ ap (plus (plus (h 0) (is_odd_below b (suc n)))) (binomial_sum-is n (λ v. h (suc v)))
    ∙ plus-assoc (h 0) (is_odd_below b (suc n)) (is_odd_below a (suc n))
    ∙ ap (plus (h 0)) (plus-comm (is_odd_below b (suc n)) (is_odd_below a (suc n)) ∙ sym pascal)
    ∙ sym (is_odd_below-first (λ v. is_odd (choose (suc n) v) && h v) (suc n))
