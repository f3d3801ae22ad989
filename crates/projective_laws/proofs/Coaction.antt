-- The coaction of the dual algebra on the powers of a class x of degree 1 takes x to the sum of x^(2^i) y_i, with y_0 = 1, and products to
-- products. It is coassociative, so its coefficients act.
use Rattle.std.specs.Prelude.{nat_eq}
use Rattle.std.specs.List.{count_by, range_with_len}
use Rattle.std.proofs.Common.{◌≡◌, ℕ, zero, suc, ◌+◌, ◌-◌, ◌*◌, ◌^◌, ◌<◌, ◌≤◌, inl, inr, Bool, true, false, ◌&&◌, List, [], ◌∷◌, length, map, refl, sym, ◌∙◌, ap, arith}
use Rattle.std.proofs.Math.Path.{fun_ext}
use Rattle.std.proofs.Math.Nat.{pow-suc}
use Rattle.std.proofs.Math.Bool as Booleans
use Rattle.std.proofs.lemmas.Bool.{and_left, and_right, cases_lt, cases_eq, eq-eqb, ne_eqb}
use Rattle.std.proofs.lemmas.Nat.{pow-add, pow_pos}
use Rattle.milnor_basis.specs.Exponents.{degree_from, degree_of, entry, IsTrimmed}
use Rattle.milnor_basis.specs.Basis.{basis_of}
use Rattle.milnor_basis.specs.Product.{is_odd, coefficient, product_terms, odd_by}
use Rattle.milnor_basis.proofs.ExponentLemmas.{length_within}
use Rattle.milnor_basis.proofs.Parity.{odd_by-same, odd_by-range, odd_by-filter, is_odd-count_by, is_odd_below-same, is_odd_below-up_to}
use Rattle.milnor_laws.proofs.SumsModTwo.{odd_by-plus, odd_by-none, odd_by-swap, odd_by-symmetric, is_odd_below-swap, is_odd_below-first, splits, splits-same, splits-below}
use Rattle.milnor_laws.proofs.Powers.{Monomial, variable, variable-same, variable-other, agree, agree_at, shift, odd_terms-one, odd_terms-same}
use Rattle.milnor_laws.proofs.Coproduct.{term, triangle, coproduct, coproduct_raised}
use Rattle.milnor_laws.proofs.Coefficients.{exponents, exponents-past, is_pair}
use Rattle.milnor_laws.proofs.Associative.{at_monomial}
use Rattle.adem_laws.proofs.Singles.{agree_few}
use Rattle.f2_vec.specs.Vectors.{plus}
use Rattle.milnor_basis.specs.Inside.Walk.{is_odd_below}

-- a test of terms x^e y^t
abbrev pub PowerTest : Type 0
PowerTest = ℕ → Monomial → Bool

-- whether an odd number of the terms x^e y^t of (the sum of x^(2^i) y_i, i from 0 to w)^n pass a test
abbrev pub coaction : ℕ → ℕ → PowerTest → Bool
coaction w zero test = test 0 (λ _. 0)
coaction w (suc n) test = odd_by (λ i. coaction w n (λ e y. test (2 ^ i + e) (λ a. variable i a + y a))) (range_with_len 0 (suc w))

-- the coefficient of x^(n + the degree of R) y^R in it
abbrev pub of_exponents : ℕ → ℕ → List ℕ → Bool
of_exponents w n r = coaction w n (λ e y. agree w y (exponents r))

-- the test of terms times p times x^(2^i) y_i
abbrev pub moved : ℕ → ℕ → PowerTest → PowerTest
moved p i g e y = g (p * 2 ^ i + e) (λ a. p * variable i a + y a)

pub coaction-same : (w n : ℕ) (g h : PowerTest) → ((e : ℕ) (y : Monomial) → g e y ≡ h e y) → coaction w n g ≡ coaction w n h
coaction-same w n g h same = ap (coaction w n) (fun_ext (λ e. fun_ext (λ y. same e y)))

coaction-plus : (w n : ℕ) (g h : PowerTest) → coaction w n (λ e y. plus (g e y) (h e y)) ≡ plus (coaction w n g) (coaction w n h)
coaction-plus w zero g h = refl
coaction-plus w (suc n) g h =
    odd_by-same (λ i. coaction w n (λ e y. plus (g (2 ^ i + e) (λ a. variable i a + y a)) (h (2 ^ i + e) (λ a. variable i a + y a)))) (λ i. plus (coaction w n (λ e y. g (2 ^ i + e) (λ a. variable i a + y a))) (coaction w n (λ e y. h (2 ^ i + e) (λ a. variable i a + y a)))) (range_with_len 0 (suc w))
    (λ i. coaction-plus w n (λ e y. g (2 ^ i + e) (λ a. variable i a + y a)) (λ e y. h (2 ^ i + e) (λ a. variable i a + y a)))
    ∙ odd_by-plus (λ i. coaction w n (λ e y. g (2 ^ i + e) (λ a. variable i a + y a))) (λ i. coaction w n (λ e y. h (2 ^ i + e) (λ a. variable i a + y a))) (range_with_len 0 (suc w))

coaction-none : (w n : ℕ) → coaction w n (λ e y. false) ≡ false
coaction-none w zero = refl
coaction-none w (suc n) =
    odd_by-none (λ i. coaction w n (λ e y. false)) (range_with_len 0 (suc w)) (λ i. coaction-none w n)

pub coaction-fails : (w n : ℕ) (g : PowerTest) → ((e : ℕ) (y : Monomial) → g e y ≡ false) → coaction w n g ≡ false
coaction-fails w n g h = coaction-same w n g (λ e y. false) h ∙ coaction-none w n

coaction-and : (w n : ℕ) (c : Bool) (g : PowerTest) → coaction w n (λ e y. c && g e y) ≡ (c && coaction w n g)
coaction-and w n true g = refl
coaction-and w n false g = coaction-none w n

coaction-odd_by : {X : Type 0} → (w n : ℕ) (g : X → PowerTest) (xs : List X) → coaction w n (λ e y. odd_by (λ x. g x e y) xs) ≡ odd_by (λ x. coaction w n (g x)) xs
coaction-odd_by w n g [] = coaction-none w n
coaction-odd_by w n g (x ∷ xs) = coaction-plus w n (g x) (λ e y. odd_by (λ z. g z e y) xs) ∙ ap (plus (coaction w n (g x))) (coaction-odd_by w n g xs)

-- the powers of x by powers of two

turned : (a b c : ℕ) → a + (b + c) ≡ b + (a + c)
turned a b c = omega arith

moved-moved : (p q i j : ℕ) (g : PowerTest) → moved p i (moved q j g) ≡ moved q j (moved p i g)
moved-moved p q i j g = fun_ext (λ e. fun_ext (λ y.
    ap (λ k. g k (λ a. q * variable j a + (p * variable i a + y a))) (turned (q * 2 ^ j) (p * 2 ^ i) e)
    ∙ ap (g (p * 2 ^ i + (q * 2 ^ j + e))) (fun_ext (λ a. turned (q * variable j a) (p * variable i a) (y a)))))

moved-twice : (p u i : ℕ) (g : PowerTest) → p + p ≡ u → moved p i (moved p i g) ≡ moved u i g
moved-twice p u i g s = fun_ext (λ e. fun_ext (λ y.
    ap (λ k. g k (λ a. p * variable i a + (p * variable i a + y a))) (together (2 ^ i) e)
    ∙ ap (g (u * 2 ^ i + e)) (fun_ext (λ a. together (variable i a) (y a)))))
  where
    together : (x y : ℕ) → p * x + (p * x + y) ≡ u * x + y
    together x y = let f : u * x ≡ (p + p) * x = ap (λ z. z * x) (sym s) in omega arith

pub coaction-power : (w v n : ℕ) (g : PowerTest) → coaction w (2 ^ v + n) g ≡ odd_by (λ i. coaction w n (moved (2 ^ v) i g)) (range_with_len 0 (suc w))
coaction-power w zero n g =
    let e : 2 ^ 0 + n ≡ suc n = omega arith in
    ap (λ k. coaction w k g) e
    ∙ odd_by-same (λ i. coaction w n (λ e y. g (2 ^ i + e) (λ a. variable i a + y a))) (λ i. coaction w n (moved (2 ^ 0) i g)) (range_with_len 0 (suc w))
    (λ i. coaction-same w n (λ e y. g (2 ^ i + e) (λ a. variable i a + y a)) (moved (2 ^ 0) i g) (λ e y.
    ap (λ k. g k (λ a. variable i a + y a)) (once (2 ^ i) e) ∙ ap (g (2 ^ 0 * 2 ^ i + e)) (fun_ext (λ a. once (variable i a) (y a)))))
  where
    once : (x y : ℕ) → x + y ≡ 2 ^ 0 * x + y
    once x y = omega arith
coaction-power w (suc v) n g =
    let twice : 2 ^ v + 2 ^ v ≡ 2 ^ suc v = omega (arith, pow-suc 2 v) in
    let split : 2 ^ suc v + n ≡ 2 ^ v + (2 ^ v + n) = omega arith in
    let xs : List ℕ = range_with_len 0 (suc w) in
    ap (λ k. coaction w k g) split
    ∙ coaction-power w v (2 ^ v + n) g
    ∙ odd_by-same (λ i. coaction w (2 ^ v + n) (moved (2 ^ v) i g)) (λ i. odd_by (λ j. coaction w n (moved (2 ^ v) j (moved (2 ^ v) i g))) xs) xs (λ i. coaction-power w v n (moved (2 ^ v) i g))
    ∙ odd_by-symmetric (λ i j. coaction w n (moved (2 ^ v) j (moved (2 ^ v) i g))) xs (λ i j. ap (coaction w n) (moved-moved (2 ^ v) (2 ^ v) j i g))
    ∙ odd_by-same (λ i. coaction w n (moved (2 ^ v) i (moved (2 ^ v) i g))) (λ i. coaction w n (moved (2 ^ suc v) i g)) xs (λ i. ap (coaction w n) (moved-twice (2 ^ v) (2 ^ suc v) i g twice))

-- sums over i, j up to w and over i + j up to w

below_cut : (p : ℕ → Bool) (m w : ℕ) → m ≤ w → is_odd_below (λ i. nat_eq (i - m) 0 && p i) (suc w) ≡ is_odd_below p (suc m)
below_cut p m w l =
    let e : (w - m) + suc m ≡ suc w = omega arith in
    ap (is_odd_below (λ i. nat_eq (i - m) 0 && p i)) (sym e)
    ∙ is_odd_below-up_to (λ i. nat_eq (i - m) 0 && p i) (suc m) (w - m) (λ i k. ap (λ b. b && p i) (ne_eqb (i - m) 0 (λ z. omega arith)))
    ∙ is_odd_below-same (λ i. nat_eq (i - m) 0 && p i) p (suc m) (λ i k. ap (λ b. b && p i) (eq-eqb (i - m) 0 (omega arith)))

row_shifted : (q : ℕ → Bool) (i w : ℕ) → i ≤ w → ((j : ℕ) → j ≤ w → w < i + j → q j ≡ false) → is_odd_below (λ m. nat_eq (i - m) 0 && q (m - i)) (suc w) ≡ is_odd_below q (suc w)
row_shifted q zero w l h =
    is_odd_below-same (λ m. nat_eq (0 - m) 0 && q (m - 0)) q (suc w) (λ m k. ap (λ b. b && q (m - 0)) (eq-eqb (0 - m) 0 (omega arith)) ∙ ap q (omega arith))
row_shifted q (suc i) zero l h = absurd (omega arith)
row_shifted q (suc i) (suc w) l h =
    is_odd_below-first (λ m. nat_eq (suc i - m) 0 && q (m - suc i)) (suc w)
    ∙ ap (λ b. plus (b && q (0 - suc i)) (is_odd_below (λ m. nat_eq (suc i - suc m) 0 && q (suc m - suc i)) (suc w))) (ne_eqb (suc i - 0) 0 (λ z. omega arith))
    ∙ is_odd_below-same (λ m. nat_eq (suc i - suc m) 0 && q (suc m - suc i)) (λ m. nat_eq (i - m) 0 && q (m - i)) (suc w) (λ m k. ap (λ x. nat_eq x 0 && q (suc m - suc i)) (omega arith) ∙ ap (λ x. nat_eq (i - m) 0 && q x) (omega arith))
    ∙ row_shifted q i w (omega arith) (λ j m k. h j (omega arith) (omega arith))
    ∙ sym (ap (λ b. plus b (is_odd_below q (suc w))) (h (suc w) (omega arith) (omega arith)))

by_diagonals : (g : ℕ → ℕ → Bool) (w : ℕ) → ((i j : ℕ) → i ≤ w → j ≤ w → w < i + j → g i j ≡ false) → odd_by (λ j. odd_by (λ i. g i j) (range_with_len 0 (suc w))) (range_with_len 0 (suc w)) ≡ odd_by (λ m. odd_by (λ p. g p.0 p.1) (splits m)) (range_with_len 0 (suc w))
by_diagonals g w h =
    odd_by-swap (λ j i. g i j) (range_with_len 0 (suc w)) (range_with_len 0 (suc w))
    ∙ odd_by-range (λ i. odd_by (g i) (range_with_len 0 (suc w))) (suc w)
    ∙ is_odd_below-same (λ i. odd_by (g i) (range_with_len 0 (suc w))) (λ i. is_odd_below (λ m. nat_eq (i - m) 0 && g i (m - i)) (suc w)) (suc w)
    (λ i l. odd_by-range (g i) (suc w) ∙ sym (row_shifted (g i) i w (omega arith) (λ j m k. h i j (omega arith) m k)))
    ∙ is_odd_below-swap (λ i m. nat_eq (i - m) 0 && g i (m - i)) (suc w) (suc w)
    ∙ is_odd_below-same (λ m. is_odd_below (λ i. nat_eq (i - m) 0 && g i (m - i)) (suc w)) (λ m. odd_by (λ p. g p.0 p.1) (splits m)) (suc w)
    (λ m l. below_cut (λ i. g i (m - i)) m w (omega arith) ∙ sym (splits-below (λ p. g p.0 p.1) m))
    ∙ sym (odd_by-range (λ m. odd_by (λ p. g p.0 p.1) (splits m)) (suc w))

-- a test of terms x^e y^t z^u
abbrev TripleTest : Type 0
TripleTest = ℕ → Monomial → Monomial → Bool

abbrev times : ℕ → ℕ → TripleTest → TripleTest
times i j f d y z = f (2 ^ j * 2 ^ i + d) (λ a. 2 ^ j * variable i a + y a) (λ a. variable j a + z a)

-- no term with x^(2^(i+j)) y_i^(2^j) z_j, i + j above w, passes
abbrev IsShort : ℕ → TripleTest → Type 0
IsShort w f = (i j : ℕ) → i ≤ w → j ≤ w → w < i + j → (d : ℕ) (y z : Monomial) → times i j f d y z ≡ false

IsShort-times : (w i j : ℕ) (f : TripleTest) → IsShort w f → IsShort w (times i j f)
IsShort-times w i j f h k l p q above d y z =
    ap (λ e. f e (λ a. 2 ^ j * variable i a + (2 ^ l * variable k a + y a)) (λ a. variable j a + (variable l a + z a))) (turned (2 ^ j * 2 ^ i) (2 ^ l * 2 ^ k) d)
    ∙ ap (λ u. f (2 ^ l * 2 ^ k + (2 ^ j * 2 ^ i + d)) u (λ a. variable j a + (variable l a + z a))) (fun_ext (λ a. turned (2 ^ j * variable i a) (2 ^ l * variable k a) (y a)))
    ∙ ap (f (2 ^ l * 2 ^ k + (2 ^ j * 2 ^ i + d)) (λ a. 2 ^ l * variable k a + (2 ^ j * variable i a + y a))) (fun_ext (λ a. turned (variable j a) (variable l a) (z a)))
    ∙ h k l p q above (2 ^ j * 2 ^ i + d) (λ a. 2 ^ j * variable i a + y a) (λ a. variable j a + z a)

abbrev left_split : ℕ → ℕ → TripleTest → Bool
left_split w n f = coaction w n (λ e z. coaction w e (λ d y. f d y z))

abbrev right_split : ℕ → ℕ → TripleTest → Bool
right_split w n f = coaction w n (λ d t. coproduct w t (λ y z. f d y z))

left_raised : (w n : ℕ) (f : TripleTest) → left_split w (suc n) f ≡ odd_by (λ j. odd_by (λ i. left_split w n (times i j f)) (range_with_len 0 (suc w))) (range_with_len 0 (suc w))
left_raised w n f =
    odd_by-same (λ j. coaction w n (λ e z. coaction w (2 ^ j + e) (λ d y. f d y (λ a. variable j a + z a)))) (λ j. odd_by (λ i. left_split w n (times i j f)) (range_with_len 0 (suc w))) (range_with_len 0 (suc w))
    (λ j. coaction-same w n (λ e z. coaction w (2 ^ j + e) (λ d y. f d y (λ a. variable j a + z a))) (λ e z. odd_by (λ i. coaction w e (λ d y. times i j f d y z)) (range_with_len 0 (suc w))) (λ e z. coaction-power w j e (λ d y. f d y (λ a. variable j a + z a)))
    ∙ coaction-odd_by w n (λ i e z. coaction w e (λ d y. times i j f d y z)) (range_with_len 0 (suc w)))

right_raised : (w n : ℕ) (f : TripleTest) → right_split w (suc n) f ≡ odd_by (λ m. odd_by (λ p. right_split w n (times p.0 p.1 f)) (splits m)) (range_with_len 0 (suc w))
right_raised w n f =
    odd_by-range (λ m. coaction w n (λ d t. coproduct w (λ a. variable m a + t a) (λ y z. f (2 ^ m + d) y z))) (suc w)
    ∙ is_odd_below-same (λ m. coaction w n (λ d t. coproduct w (λ a. variable m a + t a) (λ y z. f (2 ^ m + d) y z))) (λ m. odd_by (λ p. right_split w n (times p.0 p.1 f)) (splits m)) (suc w) (λ m l.
    coaction-same w n (λ d t. coproduct w (λ a. variable m a + t a) (λ y z. f (2 ^ m + d) y z)) (λ d t. odd_by (λ p. coproduct w t (λ y z. times p.0 p.1 f d y z)) (splits m)) (λ d t.
    coproduct_raised w m (omega arith) t (λ y z. f (2 ^ m + d) y z)
    ∙ splits-same m (λ p. coproduct w t (shift 1 (term p) (λ y z. f (2 ^ m + d) y z))) (λ p. coproduct w t (λ y z. times p.0 p.1 f d y z)) (λ i j e.
    odd_terms-same w (map term (triangle w)) t (shift 1 (term (i, j)) (λ y z. f (2 ^ m + d) y z)) (λ y z. times i j f d y z) (λ y z.
    let power : 2 ^ m ≡ 2 ^ j * 2 ^ i = ap (λ k. 2 ^ k) (omega arith) ∙ pow-add 2 j i in
    ap (λ k. f (k + d) (λ a. 1 * (2 ^ j * variable i a) + y a) (λ a. 1 * variable j a + z a)) power
    ∙ ap (λ u. f (2 ^ j * 2 ^ i + d) u (λ a. 1 * variable j a + z a)) (fun_ext (λ a. ap (λ x. x + y a) (one_time (2 ^ j * variable i a))))
    ∙ ap (f (2 ^ j * 2 ^ i + d) (λ a. 2 ^ j * variable i a + y a)) (fun_ext (λ a. ap (λ x. x + z a) (one_time (variable j a)))))))
    ∙ coaction-odd_by w n (λ p d t. coproduct w t (λ y z. times p.0 p.1 f d y z)) (splits m))
    ∙ sym (odd_by-range (λ m. odd_by (λ p. right_split w n (times p.0 p.1 f)) (splits m)) (suc w))
  where
    one_time : (x : ℕ) → 1 * x ≡ x
    one_time x = omega arith

pub coassociative : (w n : ℕ) (f : TripleTest) → IsShort w f → left_split w n f ≡ right_split w n f
coassociative w zero f h = sym (odd_terms-one w (map term (triangle w)) (λ y z. f 0 y z))
coassociative w (suc n) f h =
    left_raised w n f
    ∙ by_diagonals (λ i j. left_split w n (times i j f)) w (λ i j p q l. coaction-fails w n (λ e z. coaction w e (λ d y. times i j f d y z)) (λ e z. coaction-fails w e (λ d y. times i j f d y z) (λ d y. h i j p q l d y z)))
    ∙ odd_by-same (λ m. odd_by (λ p. left_split w n (times p.0 p.1 f)) (splits m)) (λ m. odd_by (λ p. right_split w n (times p.0 p.1 f)) (splits m)) (range_with_len 0 (suc w))
    (λ m. odd_by-same (λ p. left_split w n (times p.0 p.1 f)) (λ p. right_split w n (times p.0 p.1 f)) (splits m) (λ p. coassociative w n (times p.0 p.1 f) (IsShort-times w p.0 p.1 f h)))
    ∙ sym (right_raised w n f)

-- a term x^e y^t of the n-th power has e = n + the degree of y^t

abbrev weight_from : ℕ → ℕ → Monomial → ℕ
weight_from i zero z = 0
weight_from i (suc m) z = z i * (2 ^ i - 1) + weight_from (suc i) m z

weight-below : (i m k : ℕ) (z : Monomial) → k < i → weight_from i m (λ a. variable k a + z a) ≡ weight_from i m z
weight-below i zero k z l = refl
weight-below i (suc m) k z l =
    let none = variable-other k i (λ e. omega arith) in
    let same : variable k i + z i ≡ z i = omega arith in
    ap (λ x. x * (2 ^ i - 1) + weight_from (suc i) m (λ a. variable k a + z a)) same ∙ ap (λ x. z i * (2 ^ i - 1) + x) (weight-below (suc i) m k z (omega arith))

weight-more : (i m k : ℕ) (z : Monomial) → 0 < k → i ≤ k → k < i + m → weight_from i m (λ a. variable k a + z a) ≡ (2 ^ k - 1) + weight_from i m z
weight-more i zero k z p l h = absurd (omega arith)
weight-more i (suc m) k z p l h = elim (cases_eq i k) [
  | inl same ↦
      let one : variable k i ≡ 1 = ap (variable k) same ∙ variable-same k p in
      let first : (variable k i + z i) * (2 ^ i - 1) ≡ (2 ^ k - 1) + z i * (2 ^ i - 1) = ap (λ x. (x + z i) * (2 ^ i - 1)) one ∙ plus_one (z i) (2 ^ i - 1) ∙ ap (λ x. (2 ^ x - 1) + z i * (2 ^ i - 1)) same in
      let rest = weight-below (suc i) m k z (omega arith) in
      omega arith
  | inr other ↦
      let none = variable-other k i other in
      let first : (variable k i + z i) * (2 ^ i - 1) ≡ z i * (2 ^ i - 1) = ap (λ x. (x + z i) * (2 ^ i - 1)) none ∙ ap (λ x. x * (2 ^ i - 1)) (zero_more (z i)) in
      let rest = weight-more (suc i) m k z p (omega arith) (omega arith) in
      omega arith
]
  where
    plus_one : (x y : ℕ) → (1 + x) * y ≡ y + x * y
    plus_one x y = omega arith

    zero_more : (x : ℕ) → 0 + x ≡ x
    zero_more x = omega arith

weight-one : (w k : ℕ) (z : Monomial) → k ≤ w → weight_from 1 w (λ a. variable k a + z a) + 1 ≡ 2 ^ k + weight_from 1 w z
weight-one w zero z l = let e = weight-below 1 w 0 z (omega arith) in let p : 2 ^ 0 ≡ 1 = refl in omega arith
weight-one w (suc k) z l = let e = weight-more 1 w (suc k) z (omega arith) (omega arith) (omega arith) in let p = pow_pos (suc k) in omega arith

weight-degree : (i m : ℕ) (z : Monomial) (r : List ℕ) → length r ≤ m → ((k : ℕ) → z (k + i) ≡ entry r k) → weight_from i m z ≡ degree_from i r
weight-degree i zero z [] l h = refl
weight-degree i zero z (x ∷ r) l h = absurd (omega arith)
weight-degree i (suc m) z [] l h =
    let here : z i ≡ 0 = ap z (omega arith) ∙ h 0 in
    let rest = weight-degree (suc i) m z [] (omega arith) (λ k. let e : k + suc i ≡ suc k + i = omega arith in ap z e ∙ h (suc k)) in
    let none : z i * (2 ^ i - 1) ≡ 0 * (2 ^ i - 1) = ap (λ x. x * (2 ^ i - 1)) here in
    omega arith
weight-degree i (suc m) z (x ∷ r) l h =
    let here : z i ≡ x = ap z (omega arith) ∙ h 0 in
    let rest = weight-degree (suc i) m z r (omega arith) (λ k. let e : k + suc i ≡ suc k + i = omega arith in ap z e ∙ h (suc k)) in
    ap (λ y. y * (2 ^ i - 1) + weight_from (suc i) m z) here ∙ ap (λ y. x * (2 ^ i - 1) + y) rest

weight-agree : (w i m : ℕ) (y z : Monomial) → agree w y z ≡ true → 0 < i → i + m ≤ suc w → weight_from i m y ≡ weight_from i m z
weight-agree w i zero y z e p l = refl
weight-agree w i (suc m) y z e p l =
    ap (λ x. x * (2 ^ i - 1) + weight_from (suc i) m y) (agree_at w y z e i p (omega arith)) ∙ ap (λ x. z i * (2 ^ i - 1) + x) (weight-agree w (suc i) m y z e (omega arith) (omega arith))

homogeneous : (w n : ℕ) (g h : PowerTest) → ((e : ℕ) (z : Monomial) → e ≡ n + weight_from 1 w z → g e z ≡ h e z) → coaction w n g ≡ coaction w n h
homogeneous w zero g h same = same 0 (λ _. 0) (sym (nothing 1 w))
  where
    nothing : (i m : ℕ) → 0 + weight_from i m (λ _. 0) ≡ 0
    nothing i zero = refl
    nothing i (suc m) = let e : 0 * (2 ^ i - 1) ≡ 0 = omega arith in omega (arith, nothing (suc i) m)
homogeneous w (suc n) g h same =
    odd_by-range (λ i. coaction w n (λ e y. g (2 ^ i + e) (λ a. variable i a + y a))) (suc w)
    ∙ is_odd_below-same (λ i. coaction w n (λ e y. g (2 ^ i + e) (λ a. variable i a + y a))) (λ i. coaction w n (λ e y. h (2 ^ i + e) (λ a. variable i a + y a))) (suc w) (λ i l.
    homogeneous w n (λ e y. g (2 ^ i + e) (λ a. variable i a + y a)) (λ e y. h (2 ^ i + e) (λ a. variable i a + y a)) (λ e z k. same (2 ^ i + e) (λ a. variable i a + z a) (omega (arith, weight-one w i z (omega arith)))))
    ∙ sym (odd_by-range (λ i. coaction w n (λ e y. h (2 ^ i + e) (λ a. variable i a + y a))) (suc w))

module _ (w n : ℕ) (r s : List ℕ) (hr : IsTrimmed r) (hs : IsTrimmed s) (whole : degree_of r + degree_of s ≤ w) where
  abbrev of_both : TripleTest
  of_both d y z = agree w y (exponents r) && agree w z (exponents s)

  short : IsShort w of_both
  short i j p q l d y z =
      let a = length_within r hr in
      let b = length_within s hs in
      elim (cases_lt (length r) i) [
        | inl past ↦ and_left (agree w (λ x. 2 ^ j * variable i x + y x) (exponents r)) (agree w (λ x. variable j x + z x) (exponents s))
            (agree_few w i (2 ^ j) (λ x. 2 ^ j * variable i x + y x) y (exponents r) (omega arith) p (λ x. refl) (omega (arith, exponents-past r i past, pow_pos j)))
        | inr within ↦ and_right (agree w (λ x. 2 ^ j * variable i x + y x) (exponents r)) (agree w (λ x. variable j x + z x) (exponents s))
            (agree_few w j 1 (λ x. variable j x + z x) z (exponents s) (omega arith) q (λ x. omega arith) (omega (arith, exponents-past s j (omega arith))))
      ]

  degree_is : (z : Monomial) → agree w z (exponents s) ≡ true → weight_from 1 w z ≡ degree_of s
  degree_is z e =
      weight-agree w 1 w z (exponents s) e (omega arith) (omega arith)
      ∙ weight-degree 1 w (exponents s) s (omega (arith, length_within s hs)) (λ k. let f : k + 1 ≡ suc k = omega arith in ap (exponents s) f)

  when : (b x y : Bool) → (b ≡ true → x ≡ y) → (b && x) ≡ (y && b)
  when true x y h = h refl ∙ sym (Booleans.and-true y)
  when false x y h = sym (Booleans.and-false y)

  left_is : left_split w n of_both ≡ (of_exponents w n s && of_exponents w (n + degree_of s) r)
  left_is =
      coaction-same w n (λ e z. coaction w e (λ d y. of_both d y z)) (λ e z. agree w z (exponents s) && of_exponents w e r) (λ e z.
      coaction-same w e (λ d y. of_both d y z) (λ d y. agree w z (exponents s) && agree w y (exponents r)) (λ d y. Booleans.and_comm (agree w y (exponents r)) (agree w z (exponents s)))
      ∙ coaction-and w e (agree w z (exponents s)) (λ d y. agree w y (exponents r)))
      ∙ homogeneous w n (λ e z. agree w z (exponents s) && of_exponents w e r) (λ e z. of_exponents w (n + degree_of s) r && agree w z (exponents s)) (λ e z k.
      when (agree w z (exponents s)) (of_exponents w e r) (of_exponents w (n + degree_of s) r) (λ h. let same : e ≡ n + degree_of s = omega (arith, degree_is z h) in ap (λ x. of_exponents w x r) same))
      ∙ coaction-and w n (of_exponents w (n + degree_of s) r) (λ e z. agree w z (exponents s))
      ∙ Booleans.and_comm (of_exponents w (n + degree_of s) r) (of_exponents w n s)

  right_is : right_split w n of_both ≡ is_odd (count_by (of_exponents w n) (product_terms r s))
  right_is =
      let basis = basis_of (degree_of r + degree_of s) in
      let a = length_within r hr in
      let b = length_within s hs in
      coaction-same w n (λ d t. coproduct w t (is_pair w r s)) (λ d t. odd_by (λ x. coefficient r s x && agree w t (exponents x)) basis) (λ d t. sym (at_monomial w r s (omega arith) (omega arith) t))
      ∙ coaction-odd_by w n (λ x d t. coefficient r s x && agree w t (exponents x)) basis
      ∙ odd_by-same (λ x. coaction w n (λ d t. coefficient r s x && agree w t (exponents x))) (λ x. coefficient r s x && of_exponents w n x) basis (λ x. coaction-and w n (coefficient r s x) (λ d t. agree w t (exponents x)))
      ∙ sym (odd_by-filter (of_exponents w n) (coefficient r s) basis)
      ∙ sym (is_odd-count_by (of_exponents w n) (product_terms r s))

pub exponents_act : (w n : ℕ) (r s : List ℕ) → IsTrimmed r → IsTrimmed s → degree_of r + degree_of s ≤ w → (of_exponents w n s && of_exponents w (n + degree_of s) r) ≡ is_odd (count_by (of_exponents w n) (product_terms r s))
exponents_act w n r s hr hs whole =
    sym (left_is w n r s hr hs whole) ∙ coassociative w n (of_both w n r s hr hs whole) (short w n r s hr hs whole) ∙ right_is w n r s hr hs whole
