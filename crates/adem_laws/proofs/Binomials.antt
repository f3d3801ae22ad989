-- The binomials of Adem's relations, mod 2.
use Rattle.std.specs.Prelude.{bit_and, nat_eq, ◌%◌}
use Rattle.std.specs.List.{count_by, range_with_len}
use Rattle.std.proofs.Common.{◌≡◌, ◌≢◌, ℕ, zero, suc, ◌+◌, ◌-◌, ◌*◌, ◌/◌, ◌<◌, ◌≤◌, inl, inr, Bool, true, false, ◌&&◌, refl, sym, ◌∙◌, ap, subst, arith}
use Rattle.std.proofs.Math.Bool as Booleans
use Rattle.std.proofs.lemmas.Bool.{cases_eq, cases_lt, ne_eqb, and_left, and_right}
use Rattle.std.proofs.lemmas.Nat.{and_comm}
use Rattle.milnor_basis.specs.Product.{choose, is_odd}
use Rattle.f2_vec.specs.Vectors.{plus}
use Rattle.milnor_basis.specs.Inside.Walk.{is_odd_below}
use Rattle.milnor_basis.proofs.Kummer.{and-digits, choose_odd, choose-past}
use Rattle.milnor_basis.proofs.Parity.{odd_by-range, is_odd-count_by, is_odd_below-same}
use Rattle.f2_vec.proofs.Sums.{plus-false, plus-comm, plus-self}
use Rattle.milnor_laws.proofs.SumsModTwo.{plus-cancel, is_odd_below-one, is_odd_below-ends}
use Rattle.milnor_laws.proofs.BinomialSums.{binomial_sum, binomial_sum-same, binomial_sum-plus, binomial_sum-none, binomial_sum-is, is_odd-add}
use Rattle.adem_laws.specs.Adem.{is_term, AdemBinomials}

-- The weight of c, for m = b - 1: binom(m - c, a - 2c), and 0 where 2c > a.

abbrev pub weight : ℕ → ℕ → ℕ → Bool
weight m a zero = is_odd (choose m a)
weight m zero (suc c) = false
weight m (suc zero) (suc c) = false
weight zero (suc (suc a)) (suc c) = false
weight (suc m) (suc (suc a)) (suc c) = weight m a c

pub weight_is : (m a c : ℕ) → a ≤ 2 * m + 1 → 2 * c ≤ a → weight m a c ≡ is_odd (choose (m - c) (a - 2 * c))
weight_is m a zero l h =
    let e : m - 0 ≡ m = omega arith in
    let f : a - 2 * 0 ≡ a = omega arith in
    rw (e, f) refl
weight_is m zero (suc c) l h = absurd (omega arith)
weight_is m (suc zero) (suc c) l h = absurd (omega arith)
weight_is zero (suc (suc a)) (suc c) l h = absurd (omega arith)
weight_is (suc m) (suc (suc a)) (suc c) l h =
    let e : suc m - suc c ≡ m - c = omega arith in
    let f : suc (suc a) - 2 * suc c ≡ a - 2 * c = omega arith in
    weight_is m a c (omega arith) (omega arith) ∙ sym (ap (λ k. is_odd (choose k (suc (suc a) - 2 * suc c))) e ∙ ap (λ k. is_odd (choose (m - c) k)) f)

pub weight_past : (m a c : ℕ) → a < 2 * c → weight m a c ≡ false
weight_past m a zero l = absurd (omega arith)
weight_past m zero (suc c) l = refl
weight_past m (suc zero) (suc c) l = refl
weight_past zero (suc (suc a)) (suc c) l = refl
weight_past (suc m) (suc (suc a)) (suc c) l = weight_past m a c (omega arith)

weight_pascal : (m a c : ℕ) → a ≤ 2 * m → weight (suc m) (suc a) c ≡ plus (weight m a c) (weight m (suc a) c)
weight_pascal m a zero l = is_odd-add (choose m a) (choose m (suc a))
weight_pascal m zero (suc c) l = refl
weight_pascal zero (suc a) (suc c) l = absurd (omega arith)
weight_pascal (suc m) (suc zero) (suc zero) l = refl
weight_pascal (suc m) (suc zero) (suc (suc c)) l = refl
weight_pascal (suc m) (suc (suc a)) (suc c) l = weight_pascal m a c (omega arith)

-- at a = 2m the one weight is at c = m, and at a = 2m + 1 there is none

weight_top : (m a : ℕ) → a ≡ 2 * m → weight m a m ≡ true
weight_top zero zero e = refl
weight_top zero (suc a) e = absurd (omega arith)
weight_top (suc m) zero e = absurd (omega arith)
weight_top (suc m) (suc zero) e = absurd (omega arith)
weight_top (suc m) (suc (suc a)) e = weight_top m a (omega arith)

weight_none : (m a c : ℕ) → 2 * m ≤ a → (a ≡ 2 * m → c ≢ m) → weight m a c ≡ false
weight_none m a zero l d = ap is_odd (choose-past m a (elim (cases_lt m a) [
  | inl below ↦ below
  | inr above ↦ absurd (d (omega arith) (omega arith))
]))
weight_none m zero (suc c) l d = refl
weight_none m (suc zero) (suc c) l d = refl
weight_none zero (suc (suc a)) (suc c) l d = refl
weight_none (suc m) (suc (suc a)) (suc c) l d = weight_none m a c (omega arith) (λ e f. d (omega arith) (omega arith))

-- 2b + 1 and b + 1 share a binary digit
share_by : (k b : ℕ) → b < suc k → ((h : ℕ) → h < k → bit_and (2 * h + 1) (h + 1) ≢ 0) → (h r : ℕ) → r < 2 → b ≡ h * 2 + r → bit_and (2 * b + 1) (b + 1) ≢ 0
share_by k b l before h zero p e z =
    let d : bit_and (2 * b + 1) (b + 1) ≡ bit_and b h * 2 + bit_and 1 1 = and-digits (2 * b + 1) (b + 1) b h 1 1 (omega arith) (omega arith) (omega arith) (omega arith) in
    let one : bit_and 1 1 ≡ 1 = refl in
    omega arith
share_by k b l before h (suc zero) p e z =
    let d : bit_and (2 * b + 1) (b + 1) ≡ bit_and b (h + 1) * 2 + bit_and 1 0 = and-digits (2 * b + 1) (b + 1) b (h + 1) 1 0 (omega arith) (omega arith) (omega arith) (omega arith) in
    let same : b ≡ 2 * h + 1 = omega arith in
    before h (omega arith) (subst (λ i. bit_and i (h + 1) ≡ 0) same (omega arith))
share_by k b l before h (suc (suc r)) p e z = absurd (omega arith)

share : (k b : ℕ) → b < k → bit_and (2 * b + 1) (b + 1) ≢ 0
share zero b l = absurd (omega arith)
share (suc k) b l = share_by k b l (share k) (b / 2) (b % 2) (omega arith) (omega arith)

-- binom(x + y, x) and binom(x + y, y) have one parity
pub choose_turned : (n x y : ℕ) → x + y ≡ n → is_odd (choose n x) ≡ is_odd (choose n y)
choose_turned n x y e =
    let f : y + x ≡ n = omega arith in
    ap (λ k. is_odd (choose k x)) (sym e) ∙ choose_odd x y ∙ ap (λ k. nat_eq k 0) (and_comm x y) ∙ sym (choose_odd y x) ∙ ap (λ k. is_odd (choose k y)) f

-- binom(3m + 2, 2m + 1) is even
middle_even : (m n : ℕ) → n ≡ 3 * m + 2 → is_odd (choose n (2 * m + 1)) ≡ false
middle_even m n e =
    let f : n ≡ 2 * m + 1 + (m + 1) = omega arith in
    ap (λ k. is_odd (choose k (2 * m + 1))) f ∙ choose_odd (2 * m + 1) (m + 1) ∙ ne_eqb (bit_and (2 * m + 1) (m + 1)) 0 (share (suc m) m (omega arith))

-- so binom(3m + 1, 2m) is as odd as binom(3m + 1, m)
middle_same : (m n : ℕ) → n ≡ 3 * m + 1 → is_odd (choose n m) ≡ is_odd (choose n (2 * m))
middle_same m n e =
    let f : 2 * m + 1 ≡ suc (2 * m) = omega arith in
    let even : plus (is_odd (choose n (2 * m))) (is_odd (choose n (suc (2 * m)))) ≡ false =
    sym (is_odd-add (choose n (2 * m)) (choose n (suc (2 * m)))) ∙ ap (λ k. is_odd (choose (suc n) k)) (sym f) ∙ middle_even m (suc n) (omega arith) in
    choose_turned n m (suc (2 * m)) (omega arith) ∙ plus-cancel (is_odd (choose n (2 * m))) (is_odd (choose n (suc (2 * m)))) (is_odd (choose n (2 * m))) (even ∙ sym (plus-self (is_odd (choose n (2 * m)))))

-- The sum of binom(n, c) with these weights

sum_zero : (n m : ℕ) → binomial_sum n (weight m 0) ≡ true
sum_zero zero m = refl
sum_zero (suc n) m = ap (λ b. plus b (binomial_sum n (λ v. false))) (sum_zero n m) ∙ ap (plus true) (binomial_sum-none n)

sum_pascal : (n m a : ℕ) → a ≤ 2 * m → binomial_sum n (weight (suc m) (suc a)) ≡ plus (binomial_sum n (weight m a)) (binomial_sum n (weight m (suc a)))
sum_pascal n m a l =
    binomial_sum-same n (weight (suc m) (suc a)) (λ c. plus (weight m a c) (weight m (suc a) c)) (λ c k. weight_pascal m a c l) ∙ binomial_sum-plus n (weight m a) (weight m (suc a))

-- whether it is binom(n, a)
abbrev IsSum : ℕ → ℕ → ℕ → Type 0
IsSum n m a = binomial_sum n (weight m a) ≡ is_odd (choose n a)

sum_top : (n m : ℕ) → n ≡ 3 * m + 1 → IsSum n m (2 * m)
sum_top n m e =
    binomial_sum-is n (weight m (2 * m))
    ∙ is_odd_below-one (λ c. is_odd (choose n c) && weight m (2 * m) c) m (suc n) (omega arith) (λ c l d. and_right (is_odd (choose n c)) (weight m (2 * m) c) (weight_none m (2 * m) c (omega arith) (λ _. d)))
    ∙ ap (λ b. is_odd (choose n m) && b) (weight_top m (2 * m) refl)
    ∙ Booleans.and-true (is_odd (choose n m))
    ∙ middle_same m n e

sum_past : (n m : ℕ) → n ≡ 3 * m + 2 → IsSum n m (2 * m + 1)
sum_past n m e =
    binomial_sum-same n (weight m (2 * m + 1)) (λ c. false) (λ c l. weight_none m (2 * m + 1) c (omega arith) (λ f. absurd (omega arith)))
    ∙ binomial_sum-none n
    ∙ sym (middle_even m n e)

rearranged : (p q r : Bool) → plus (plus q r) p ≡ plus r (plus p q)
rearranged true true true = refl
rearranged true true false = refl
rearranged true false true = refl
rearranged true false false = refl
rearranged false true true = refl
rearranged false true false = refl
rearranged false false r = plus-false r ∙ sym (plus-false r)

module _ (m : ℕ) (before : (a n : ℕ) → a ≤ 2 * m + 1 → n ≡ a + m + 1 → IsSum n m a) where
  -- one more in m
  sum_more : (a n : ℕ) → a ≤ 2 * m + 1 → n ≡ a + suc m + 1 → IsSum n (suc m) a
  sum_more zero n l e = sum_zero n (suc m)
  sum_more (suc zero) zero l e = absurd (omega arith)
  sum_more (suc zero) (suc n) l e =
      ap (plus (binomial_sum n (weight (suc m) 1))) (binomial_sum-none n)
      ∙ plus-false (binomial_sum n (weight (suc m) 1))
      ∙ sum_pascal n m 0 (omega arith)
      ∙ ap (λ b. plus b (binomial_sum n (weight m 1))) (sum_zero n m)
      ∙ ap (plus true) (before 1 n (omega arith) (omega arith))
      ∙ sym (is_odd-add (choose n 0) (choose n 1))
  sum_more (suc (suc a)) zero l e = absurd (omega arith)
  sum_more (suc (suc a)) (suc n) l e =
      let s : ℕ → ℕ → Bool = λ k x. binomial_sum n (weight k x) in
      ap (λ b. plus b (s m a)) (sum_pascal n m (suc a) (omega arith))
      ∙ rearranged (s m a) (s m (suc a)) (s m (suc (suc a)))
      ∙ ap (plus (s m (suc (suc a)))) (sym (sum_pascal n m a (omega arith)) ∙ sum_more (suc a) n (omega arith) (omega arith))
      ∙ ap (λ b. plus b (is_odd (choose n (suc a)))) (before (suc (suc a)) n l (omega arith))
      ∙ plus-comm (is_odd (choose n (suc (suc a)))) (is_odd (choose n (suc a)))
      ∙ sym (is_odd-add (choose n (suc a)) (choose n (suc (suc a))))

pub sum_is : (m a n : ℕ) → a ≤ 2 * m + 1 → n ≡ a + m + 1 → IsSum n m a
sum_is zero a n l e = elim (cases_eq a 0) [
  | inl none ↦ subst (λ k. IsSum n 0 k) (sym none) (sum_zero n 0)
  | inr some ↦ let one : 1 ≡ a = omega arith in subst (λ k. IsSum n 0 k) one (sum_past n 0 (omega arith))
]
sum_is (suc m) a n l e = elim (cases_lt a (2 * m + 2)) [
  | inl below ↦ sum_more m (sum_is m) a n (omega arith) e
  | inr above ↦ elim (cases_eq a (2 * suc m)) [
    | inl top ↦ subst (λ k. IsSum n (suc m) k) (sym top) (sum_top n (suc m) (omega arith))
    | inr past ↦ let odd : 2 * suc m + 1 ≡ a = omega arith in subst (λ k. IsSum n (suc m) k) odd (sum_past n (suc m) (omega arith))
  ]
]

-- the same over the c up to a bound
pub weighted_sum : (m a n bound : ℕ) → a ≤ 2 * m + 1 → n ≡ a + m + 1 → a < 2 * bound → is_odd_below (λ c. weight m a c && is_odd (choose n c)) bound ≡ is_odd (choose n a)
weighted_sum m a n bound l e h =
    is_odd_below-ends (λ c. weight m a c && is_odd (choose n c)) bound (suc n)
    (λ c k. and_left (weight m a c) (is_odd (choose n c)) (weight_past m a c (omega arith)))
    (λ c k. and_right (weight m a c) (is_odd (choose n c)) (ap is_odd (choose-past n c (omega arith))))
    ∙ is_odd_below-same (λ c. weight m a c && is_odd (choose n c)) (λ c. is_odd (choose n c) && weight m a c) (suc n) (λ c k. Booleans.and_comm (weight m a c) (is_odd (choose n c)))
    ∙ sym (binomial_sum-is n (weight m a))
    ∙ sum_is m a n l e

-- Adem's terms, by their weights
pub terms_are : (a b : ℕ) (f : ℕ → Bool) → a < 2 * b → is_odd (count_by (λ c. is_term a b c && f c) (range_with_len 0 (a / 2 + 1))) ≡ is_odd_below (λ c. weight (b - 1) a c && f c) (a / 2 + 1)
terms_are a b f l =
    is_odd-count_by (λ c. is_term a b c && f c) (range_with_len 0 (a / 2 + 1))
    ∙ odd_by-range (λ c. is_term a b c && f c) (a / 2 + 1)
    ∙ is_odd_below-same (λ c. is_term a b c && f c) (λ c. weight (b - 1) a c && f c) (a / 2 + 1) (λ c k.
    let e : b - c - 1 ≡ b - 1 - c = omega arith in
    ap (λ p. p && f c) (ap (λ j. is_odd (choose j (a - 2 * c))) e ∙ sym (weight_is (b - 1) a c (omega arith) (omega arith))))

pub adem_binomials : AdemBinomials
adem_binomials a b l =
    sym (terms_are a b (λ c. is_odd (choose (a + b) c)) l
    ∙ weighted_sum (b - 1) a (a + b) (a / 2 + 1) (omega arith) (omega arith) (omega arith)
    ∙ choose_turned (a + b) a b refl)
