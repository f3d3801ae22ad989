-- The coproduct of the dual algebra, in which the product of two of Milnor's basis elements is read: it takes the
-- generator x_n to the sum over i + j = n of x_i^(2^j) y_j, with x_0 = y_0 = 1, and products to products.
use Rattle.std.proofs.Common.{◌≡◌, ◌≢◌, ◌⊎◌, ℕ, zero, suc, ◌+◌, ◌-◌, ◌*◌, ◌^◌, ◌<◌, ◌≤◌, inl, inr, Bool, false, ◌&&◌, nat_eq, if◌then◌else◌, List, [], ◌++◌, map, refl, sym, ◌∙◌, ap, subst, arith}
use Rattle.std.specs.List.{range_with_len}
use Rattle.std.proofs.Math.Path.{fun_ext}
use Rattle.std.proofs.Math.Nat.{pow-suc}
use Rattle.std.proofs.lemmas.Nat.{pow-add}
use Rattle.std.proofs.lemmas.Bool.{cases_eq, cases_lt, eq-eqb, ne_eqb}
use Rattle.f2_vec.specs.Vectors.{plus}
use Rattle.f2_vec.proofs.Sums.{plus-comm, plus-false}
use Rattle.milnor_basis.specs.Inside.Walk.{is_odd_below, places_to}
use Rattle.milnor_basis.specs.Product.{odd_by}
use Rattle.milnor_basis.proofs.Parity.{odd_by-append, odd_by-map, odd_by-range, odd_by-same, is_odd_below-same, is_odd_below-none}
use Rattle.milnor_laws.proofs.SumsModTwo.{odd_by-none, odd_by-symmetric, is_odd_below-one, is_odd_below-ends, splits, splits-same, splits-below, splits-twice}
use Rattle.milnor_laws.proofs.Powers.{Monomial, Test, variable, variable-same, variable-other, Term, shift, shift-shift, shift-add, odd_terms, odd_terms-same, odd_terms-fails, odd_terms-odd_by, odd_terms-one, odd_terms-raised}

-- x_i^(2^j) y_j
abbrev pub term : ℕ × ℕ → Term
term p = record { diagonal = p.0 + p.1; left = λ a. 2 ^ p.1 * variable p.0 a; right = variable p.1 }

-- the pairs (i, j) with 1 ≤ i + j ≤ n
abbrev pub triangle : ℕ → List (ℕ × ℕ)
triangle zero = []
triangle (suc n) = splits (suc n) ++ triangle n

-- whether an odd number of terms pass in the coproduct of x^t, where t has exponents of x_1 to x_n
abbrev pub coproduct : ℕ → Monomial → Test → Bool
coproduct n t f = odd_terms n (map term (triangle n)) t f

-- the same with the terms x_i^(2^j) y_j of i up to m and j up to w alone
abbrev pub in_box : ℕ → ℕ → ℕ → Monomial → Test → Bool
in_box n m w t f = odd_terms n (map term (places_to w m w)) t f

-- a sum over the places of a box by rows
rows_sum : (g : ℕ × ℕ → Bool) (w m : ℕ) → g (0, 0) ≡ false → odd_by g (places_to w m w) ≡ is_odd_below (λ i. is_odd_below (λ j. g (i, j)) (suc w)) (suc m)
rows_sum g w zero z =
    odd_by-map g (λ j. (0, j)) (range_with_len 1 w)
    ∙ sym (ap (λ b. plus b (odd_by (λ j. g (0, j)) (range_with_len 1 w))) z)
    ∙ odd_by-range (λ j. g (0, j)) (suc w)
    ∙ sym (plus-false (is_odd_below (λ j. g (0, j)) (suc w)))
rows_sum g w (suc i) z =
    odd_by-append g (places_to w i w) (map (λ j. (suc i, j)) (range_with_len 0 (suc w)))
    ∙ plus-comm (odd_by g (places_to w i w)) (odd_by g (map (λ j. (suc i, j)) (range_with_len 0 (suc w))))
    ∙ ap (λ b. plus b (odd_by g (places_to w i w))) (odd_by-map g (λ j. (suc i, j)) (range_with_len 0 (suc w)) ∙ odd_by-range (λ j. g (suc i, j)) (suc w))
    ∙ ap (plus (is_odd_below (λ j. g (suc i, j)) (suc w))) (rows_sum g w i z)

-- no pair lies on another diagonal
splits-other : (n k : ℕ) (h : ℕ × ℕ → Bool) → n ≢ k → odd_by (λ p. nat_eq (p.0 + p.1) k && h p) (splits n) ≡ false
splits-other n k h d =
    splits-same n (λ p. nat_eq (p.0 + p.1) k && h p) (λ p. false) (λ i j e. ap (λ b. b && h (i, j)) (ne_eqb (i + j) k (λ g. d (sym e ∙ g)))) ∙ odd_by-none (λ p. false) (splits n) (λ p. refl)

-- the sum over one diagonal, of what is 0 outside of the box
module _ (h : ℕ → ℕ → Bool) (k m w : ℕ) (outside : (i j : ℕ) → i + j ≡ k → (m < i ⊎ w < j) → h i j ≡ false) where
  -- what is at row i on diagonal k
  abbrev row : ℕ → Bool
  row i = is_odd_below (λ j. nat_eq (i + j) k && h i j) (suc w)

  off : (i j : ℕ) → i + j ≢ k → (nat_eq (i + j) k && h i j) ≡ false
  off i j d = ap (λ b. b && h i j) (ne_eqb (i + j) k d)

  row_past : (i : ℕ) → k < i → row i ≡ false
  row_past i l = is_odd_below-none (λ j. nat_eq (i + j) k && h i j) (suc w) (λ j m. off i j (λ e. omega arith))

  row_at : (i : ℕ) → i ≤ k → row i ≡ h i (k - i)
  row_at i l = elim (cases_lt w (k - i)) [
    | inl past ↦ is_odd_below-none (λ j. nat_eq (i + j) k && h i j) (suc w) (λ j p. off i j (λ e. omega arith)) ∙ sym (outside i (k - i) (omega arith) (inr past))
    | inr within ↦ is_odd_below-one (λ j. nat_eq (i + j) k && h i j) (k - i) (suc w) (omega arith) (λ j p d. off i j (λ e. d (omega arith)))
        ∙ ap (λ b. b && h i (k - i)) (eq-eqb (i + (k - i)) k (omega arith))
  ]

  diagonal_sum : 0 < k → odd_by (λ p. nat_eq (p.0 + p.1) k && h p.0 p.1) (places_to w m w) ≡ odd_by (λ p. h p.0 p.1) (splits k)
  diagonal_sum above =
      rows_sum (λ p. nat_eq (p.0 + p.1) k && h p.0 p.1) w m (off 0 0 (λ e. omega arith))
      ∙ is_odd_below-ends row (suc m) (suc k)
      (λ i l. elim (cases_lt k i) [
        | inl past ↦ row_past i past
        | inr within ↦ row_at i within ∙ outside i (k - i) (omega arith) (inl (omega arith))
      ])
      (λ i l. row_past i (omega arith))
      ∙ is_odd_below-same row (λ i. h i (k - i)) (suc k) (λ i l. row_at i (omega arith))
      ∙ sym (splits-below (λ p. h p.0 p.1) k)

-- one factor more
pub in_box_raised : (n m w k : ℕ) → 0 < k → k ≤ n → (t : Monomial) (f : Test) → ((i j : ℕ) → i + j ≡ k → (m < i ⊎ w < j) → (a b : Monomial) → shift 1 (term (i, j)) f a b ≡ false)
    → in_box n m w (λ a. variable k a + t a) f ≡ odd_by (λ p. in_box n m w t (shift 1 (term p) f)) (splits k)
in_box_raised n m w k above within t f outside =
    let ts : List Term = map term (places_to w m w) in
    odd_terms-raised n ts k above within t f
    ∙ odd_by-map (λ d. nat_eq d.diagonal k && odd_terms n ts t (shift 1 d f)) term (places_to w m w)
    ∙ diagonal_sum (λ i j. odd_terms n ts t (shift 1 (term (i, j)) f)) k m w (λ i j e o. odd_terms-fails n ts t (shift 1 (term (i, j)) f) (outside i j e o)) above

triangle-past : (n k : ℕ) (h : ℕ × ℕ → Bool) → n < k → odd_by (λ p. nat_eq (p.0 + p.1) k && h p) (triangle n) ≡ false
triangle-past zero k h l = refl
triangle-past (suc n) k h l =
    odd_by-append (λ p. nat_eq (p.0 + p.1) k && h p) (splits (suc n)) (triangle n)
    ∙ ap (λ b. plus b (odd_by (λ p. nat_eq (p.0 + p.1) k && h p) (triangle n))) (splits-other (suc n) k h (λ e. omega arith))
    ∙ triangle-past n k h (omega arith)

triangle-diagonal : (n k : ℕ) (h : ℕ × ℕ → Bool) → 0 < k → k ≤ n → odd_by (λ p. nat_eq (p.0 + p.1) k && h p) (triangle n) ≡ odd_by h (splits k)
triangle-diagonal zero k h above within = absurd (omega arith)
triangle-diagonal (suc n) k h above within =
    odd_by-append (λ p. nat_eq (p.0 + p.1) k && h p) (splits (suc n)) (triangle n)
    ∙ elim (cases_eq k (suc n)) [
      | inl same ↦ ap (plus (odd_by (λ p. nat_eq (p.0 + p.1) k && h p) (splits (suc n)))) (triangle-past n k h (omega arith))
          ∙ plus-false (odd_by (λ p. nat_eq (p.0 + p.1) k && h p) (splits (suc n)))
          ∙ splits-same (suc n) (λ p. nat_eq (p.0 + p.1) k && h p) h (λ i j e. ap (λ b. b && h (i, j)) (eq-eqb (i + j) k (omega arith)))
          ∙ ap (λ m. odd_by h (splits m)) (sym same)
      | inr other ↦ ap (λ b. plus b (odd_by (λ p. nat_eq (p.0 + p.1) k && h p) (triangle n))) (splits-other (suc n) k h (λ e. other (sym e)))
          ∙ triangle-diagonal n k h above (omega arith)
    ]

pub coproduct_raised : (n k : ℕ) → k ≤ n → (t : Monomial) (f : Test) → coproduct n (λ a. variable k a + t a) f ≡ odd_by (λ p. coproduct n t (shift 1 (term p) f)) (splits k)
coproduct_raised n zero within t f =
    let e : (λ a. 0 + t a) ≡ t = fun_ext (λ a. omega arith) in
    let g : shift 1 (term (0, 0)) f ≡ f = fun_ext (λ a. fun_ext (λ b.
    let l : (λ i. 1 * (2 ^ 0 * 0) + a i) ≡ a = fun_ext (λ i. omega arith) in
    let r : (λ j. 1 * 0 + b j) ≡ b = fun_ext (λ j. omega arith) in
    ap (λ x. f x (λ j. 1 * 0 + b j)) l ∙ ap (f a) r)) in
    ap (λ u. coproduct n u f) e ∙ sym (ap (coproduct n t) g) ∙ sym (plus-false (coproduct n t (shift 1 (term (0, 0)) f)))
coproduct_raised n (suc k) within t f =
    odd_terms-raised n (map term (triangle n)) (suc k) (omega arith) within t f
    ∙ odd_by-map (λ d. nat_eq d.diagonal (suc k) && odd_terms n (map term (triangle n)) t (shift 1 d f)) term (triangle n)
    ∙ triangle-diagonal n (suc k) (λ p. odd_terms n (map term (triangle n)) t (shift 1 (term p) f)) (omega arith) within

twice_power : (v : ℕ) → 2 ^ v + 2 ^ v ≡ 2 ^ suc v
twice_power v = omega (arith, pow-suc 2 v)

-- the powers of a generator by powers of two: squaring is additive mod 2
pub coproduct_power : (n k v : ℕ) → k ≤ n → (t : Monomial) (f : Test) → coproduct n (λ a. 2 ^ v * variable k a + t a) f ≡ odd_by (λ p. coproduct n t (shift (2 ^ v) (term p) f)) (splits k)
coproduct_power n k zero within t f =
    let e : (λ a. 2 ^ 0 * variable k a + t a) ≡ (λ a. variable k a + t a) = fun_ext (λ a. omega arith) in
    ap (λ u. coproduct n u f) e ∙ coproduct_raised n k within t f
coproduct_power n k (suc v) within t f =
    let split : (λ a. 2 ^ suc v * variable k a + t a) ≡ (λ a. 2 ^ v * variable k a + (2 ^ v * variable k a + t a)) = fun_ext (λ a. halves (2 ^ v) (2 ^ suc v) (variable k a) (t a) (twice_power v)) in
    ap (λ u. coproduct n u f) split
    ∙ coproduct_power n k v within (λ a. 2 ^ v * variable k a + t a) f
    ∙ odd_by-same (λ p. coproduct n (λ a. 2 ^ v * variable k a + t a) (shift (2 ^ v) (term p) f)) (λ p. odd_by (λ q. coproduct n t (shift (2 ^ v) (term q) (shift (2 ^ v) (term p) f))) (splits k)) (splits k)
    (λ p. coproduct_power n k v within t (shift (2 ^ v) (term p) f))
    ∙ odd_by-symmetric (λ p q. coproduct n t (shift (2 ^ v) (term q) (shift (2 ^ v) (term p) f))) (splits k) (λ p q. ap (coproduct n t) (shift-shift (2 ^ v) (2 ^ v) (term q) (term p) f))
    ∙ odd_by-same (λ p. coproduct n t (shift (2 ^ v) (term p) (shift (2 ^ v) (term p) f))) (λ p. coproduct n t (shift (2 ^ suc v) (term p) f)) (splits k) (λ p. ap (coproduct n t) (shift-add (2 ^ v) (2 ^ v) (2 ^ suc v) (term p) f (twice_power v)))
  where
    halves : (h u x y : ℕ) → h + h ≡ u → u * x + y ≡ h * x + (h * x + y)
    halves h u x y e = let g : u * x ≡ (h + h) * x = ap (λ z. z * x) (sym e) in omega arith

-- Splitting the left or the right factors of the coproduct gives the same triples.

-- a test of monomials in three sets of variables
abbrev pub TripleTest : Type 0
TripleTest = Monomial → Monomial → Monomial → Bool

abbrev pub left_split : ℕ → Monomial → TripleTest → Bool
left_split n t f = coproduct n t (λ a z. coproduct n a (λ x y. f x y z))

abbrev pub right_split : ℕ → Monomial → TripleTest → Bool
right_split n t f = coproduct n t (λ x a. coproduct n a (λ y z. f x y z))

-- a test of triples of monomials, of those times x_i^(2^(j+k)) y_j^(2^k) z_k
abbrev moved : ℕ → ℕ → ℕ → TripleTest → TripleTest
moved i j k f x y z = f (λ a. 2 ^ k * (2 ^ j * variable i a) + x a) (λ a. 2 ^ k * variable j a + y a) (λ a. 1 * variable k a + z a)

module _ (n m : ℕ) (within : m ≤ n) (t : Monomial) (f : TripleTest) where
  left_raised : left_split n (λ a. variable m a + t a) f ≡ odd_by (λ p. odd_by (λ q. left_split n t (moved q.0 q.1 p.1 f)) (splits p.0)) (splits m)
  left_raised =
      coproduct_raised n m within t (λ a z. coproduct n a (λ x y. f x y z))
      ∙ splits-same m (λ p. coproduct n t (shift 1 (term p) (λ a z. coproduct n a (λ x y. f x y z)))) (λ p. odd_by (λ q. left_split n t (moved q.0 q.1 p.1 f)) (splits p.0))
      (λ l k e. odd_terms-same n (map term (triangle n)) t (shift 1 (term (l, k)) (λ a z. coproduct n a (λ x y. f x y z))) (λ a z. odd_by (λ q. coproduct n a (λ x y. moved q.0 q.1 k f x y z)) (splits l))
      (λ a z. ap (λ u. coproduct n u (λ x y. f x y (λ b. 1 * variable k b + z b))) (fun_ext (λ b. once (2 ^ k * variable l b) (a b)))
      ∙ coproduct_power n l k (omega arith) a (λ x y. f x y (λ b. 1 * variable k b + z b)))
      ∙ odd_terms-odd_by n (map term (triangle n)) t (λ q a z. coproduct n a (λ x y. moved q.0 q.1 k f x y z)) (splits l))
    where
      once : (x y : ℕ) → 1 * x + y ≡ x + y
      once x y = omega arith

  right_raised : right_split n (λ a. variable m a + t a) f ≡ odd_by (λ p. odd_by (λ q. right_split n t (moved p.0 q.0 q.1 f)) (splits p.1)) (splits m)
  right_raised =
      coproduct_raised n m within t (λ x a. coproduct n a (λ y z. f x y z))
      ∙ splits-same m (λ p. coproduct n t (shift 1 (term p) (λ x a. coproduct n a (λ y z. f x y z)))) (λ p. odd_by (λ q. right_split n t (moved p.0 q.0 q.1 f)) (splits p.1))
      (λ i l e. odd_terms-same n (map term (triangle n)) t (shift 1 (term (i, l)) (λ x a. coproduct n a (λ y z. f x y z))) (λ x a. odd_by (λ q. coproduct n a (λ y z. moved i q.0 q.1 f x y z)) (splits l))
      (λ x a. ap (λ u. coproduct n u (λ y z. f (λ b. 1 * (2 ^ l * variable i b) + x b) y z)) (fun_ext (λ b. once (variable l b) (a b)))
      ∙ coproduct_raised n l (omega arith) a (λ y z. f (λ b. 1 * (2 ^ l * variable i b) + x b) y z)
      ∙ splits-same l (λ q. coproduct n a (shift 1 (term q) (λ y z. f (λ b. 1 * (2 ^ l * variable i b) + x b) y z))) (λ q. coproduct n a (λ y z. moved i q.0 q.1 f x y z))
      (λ j k s. odd_terms-same n (map term (triangle n)) a (shift 1 (term (j, k)) (λ y z. f (λ b. 1 * (2 ^ l * variable i b) + x b) y z)) (λ y z. moved i j k f x y z)
      (λ y z. ap (λ u. f u (λ b. 1 * (2 ^ k * variable j b) + y b) (λ b. 1 * variable k b + z b)) (fun_ext (λ b. powers (2 ^ l) (2 ^ j) (2 ^ k) (variable i b) (x b) (ap (λ g. 2 ^ g) (sym s) ∙ pow-add 2 j k)))
      ∙ ap (λ u. f (λ b. 2 ^ k * (2 ^ j * variable i b) + x b) u (λ b. 1 * variable k b + z b)) (fun_ext (λ b. once (2 ^ k * variable j b) (y b))))))
      ∙ odd_terms-odd_by n (map term (triangle n)) t (λ q x a. coproduct n a (λ y z. moved i q.0 q.1 f x y z)) (splits l))
    where
      once : (x y : ℕ) → 1 * x + y ≡ x + y
      once x y = omega arith

      powers : (l j k v x : ℕ) → l ≡ j * k → 1 * (l * v) + x ≡ k * (j * v) + x
      powers l j k v x e = let g : l * v ≡ j * k * v = ap (λ u. u * v) e in omega arith

-- each exponent function of x_1 to x_n is made by one factor after another
pub by_factors : (n : ℕ) (P : Monomial → Type 0) → P (λ _. 0) → ((k : ℕ) (t : Monomial) → 0 < k → k ≤ n → P t → P (λ a. variable k a + t a)) → (t : Monomial) → t 0 ≡ 0 → ((k : ℕ) → n < k → t k ≡ 0) → P t
by_factors zero P start step t z past = subst P (fun_ext (λ a. sym (at a))) start
  where
    at : (a : ℕ) → t a ≡ 0
    at zero = z
    at (suc a) = past (suc a) (omega arith)
by_factors (suc n) P start step t z past =
    let others : P rest = by_factors n P start (λ k u l m p. step k u l (omega arith) p) rest (rw (ne_eqb 0 (suc n) (λ e. omega arith)) z) (λ k l. cut k l) in
    subst P (fun_ext (λ a. whole a)) (climb (t (suc n)) others)
  where
    rest : Monomial
    rest a = if nat_eq a (suc n) then 0 else t a

    cut : (k : ℕ) → n < k → rest k ≡ 0
    cut k l = elim (cases_eq k (suc n)) [
      | inl same ↦ rw (eq-eqb k (suc n) same) refl
      | inr other ↦ rw (ne_eqb k (suc n) other) (past k (omega arith))
    ]

    climb : (v : ℕ) → P rest → P (λ a. v * variable (suc n) a + rest a)
    climb zero p = subst P (fun_ext (λ a. omega arith)) p
    climb (suc v) p = subst P (fun_ext (λ a. omega arith)) (step (suc n) (λ a. v * variable (suc n) a + rest a) (omega arith) (omega arith) (climb v p))

    whole : (a : ℕ) → t (suc n) * variable (suc n) a + rest a ≡ t a
    whole a = elim (cases_eq a (suc n)) [
      | inl same ↦ let one : variable (suc n) a ≡ 1 = ap (variable (suc n)) same ∙ variable-same (suc n) (omega arith) in
          let none : rest a ≡ 0 = cut a (omega arith) in
          let here : t a ≡ t (suc n) = ap t same in
          rw (one, none) (omega arith)
      | inr other ↦ let none : variable (suc n) a ≡ 0 = variable-other (suc n) a other in
          let kept : rest a ≡ t a = rw (ne_eqb a (suc n) other) refl in
          rw (none, kept) (omega arith)
    ]

pub coassociative : (n : ℕ) (t : Monomial) → t 0 ≡ 0 → ((k : ℕ) → n < k → t k ≡ 0) → (f : TripleTest) → left_split n t f ≡ right_split n t f
coassociative n = by_factors n (λ t. (f : TripleTest) → left_split n t f ≡ right_split n t f)
    (λ f. let ts : List Term = map term (triangle n) in
    odd_terms-one n ts (λ a z. coproduct n a (λ x y. f x y z)) ∙ odd_terms-one n ts (λ x y. f x y (λ _. 0))
    ∙ sym (odd_terms-one n ts (λ x a. coproduct n a (λ y z. f x y z)) ∙ odd_terms-one n ts (λ y z. f (λ _. 0) y z)))
    (λ m t above within same f.
    left_raised n m within t f
    ∙ odd_by-same (λ p. odd_by (λ q. left_split n t (moved q.0 q.1 p.1 f)) (splits p.0)) (λ p. odd_by (λ q. right_split n t (moved q.0 q.1 p.1 f)) (splits p.0)) (splits m)
    (λ p. odd_by-same (λ q. left_split n t (moved q.0 q.1 p.1 f)) (λ q. right_split n t (moved q.0 q.1 p.1 f)) (splits p.0) (λ q. same (moved q.0 q.1 p.1 f)))
    ∙ splits-twice (λ i j k. right_split n t (moved i j k f)) m
    ∙ sym (right_raised n m within t f))
