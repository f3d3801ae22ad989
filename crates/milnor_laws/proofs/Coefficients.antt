-- A coefficient of the product is one of the coproduct: that of x^R y^S in the coproduct of x^T.
use Rattle.std.specs.Prelude.{nat_eq}
use Rattle.std.specs.Cmp.Lexicographic.{bytes_decides, pointwise}
use Rattle.std.specs.List.{list_all, range_with_len, sum}
use Rattle.std.proofs.Common.{◌≡◌, ◌≢◌, ◌⊎◌, ℕ, zero, suc, ◌+◌, ◌-◌, ◌*◌, ◌^◌, ◌<◌, ◌≤◌, inl, inr, Bool, true, false, ◌&&◌, List, map, length, refl, sym, ◌∙◌, ap, arith}
use Rattle.std.proofs.lemmas.Bool.{cases_lt, and_left, and_right, eq-eqb, eqb-true}
use Rattle.std.proofs.lemmas.List.FromFn.{get_or-map-range_with_len, length-map-range_with_len}
use Rattle.std.proofs.lemmas.List.Sums.{get_or-le-sum_by}
use Rattle.std.proofs.lemmas.Nat.{mul-le, pow_pos}
use Rattle.milnor_basis.specs.Exponents.{entry, trimmed, IsTrimmed}
use Rattle.milnor_basis.specs.Product.{coefficient}
use Rattle.milnor_basis.specs.Inside.Walk.{places_to, Sums, no_sums, are_sums_of}
use Rattle.milnor_basis.proofs.ExponentLemmas.{entry-trimmed, entry_past, same_answers, trimmed-same}
use Rattle.milnor_basis.proofs.Matrices.{coefficient-fillings}
use Rattle.milnor_basis.proofs.Parity.{odd_by-same}
use Rattle.milnor_basis.proofs.Ranges.{list_all-range, list_all-holds}
use Rattle.milnor_laws.proofs.SumsModTwo.{splits}
use Rattle.milnor_laws.proofs.Powers.{Monomial, Test, variable, variable-same, agree, agree_at, agree_from, agree_not, shift, shift-shift, odd_terms-one}
use Rattle.milnor_laws.proofs.Coproduct.{term, triangle, in_box, coproduct, in_box_raised, coproduct_raised, by_factors}
use Rattle.milnor_laws.proofs.Fillings.{from_one, are_terms, IsBounded, IsInBox, fillings_are, fillings_same, places_to-inside}

-- the exponents of x^R, from 1 on
abbrev pub exponents : List ℕ → Monomial
exponents r zero = 0
exponents r (suc k) = entry r k

pub exponents-past : (r : List ℕ) (k : ℕ) → length r < k → exponents r k ≡ 0
exponents-past r zero l = refl
exponents-past r (suc k) l = entry_past r k (omega arith)

exponents-le : (r : List ℕ) (k : ℕ) → exponents r k ≤ sum r
exponents-le r zero = omega arith
exponents-le r (suc k) = elim (cases_lt k (length r)) [
  | inl within ↦ get_or-le-sum_by (λ n. n) r k 0 within
  | inr past ↦ omega (arith, entry_past r k past)
]

-- whether a pair of monomials is x^R y^S
abbrev pub is_pair : ℕ → List ℕ → List ℕ → Test
is_pair n r s a b = agree n a (exponents r) && agree n b (exponents s)

-- a test that fails for monomials with variables past x_m or y_w
abbrev pub IsOutside : ℕ → ℕ → ℕ → Test → Type 0
IsOutside n m w f = (i j : ℕ) → i ≤ n → j ≤ n → (m < i ⊎ w < j) → (a b : Monomial) → shift 1 (term (i, j)) f a b ≡ false

-- a larger box gives the same
pub in_box-larger : (n m w : ℕ) (t : Monomial) → t 0 ≡ 0 → ((k : ℕ) → n < k → t k ≡ 0) → (f : Test) → IsOutside n m w f → in_box n m w t f ≡ coproduct n t f
in_box-larger n m w = by_factors n (λ t. (f : Test) → IsOutside n m w f → in_box n m w t f ≡ coproduct n t f)
    (λ f h. odd_terms-one n (map term (places_to w m w)) f ∙ sym (odd_terms-one n (map term (triangle n)) f))
    (λ k t above within same f h.
    in_box_raised n m w k above within t f (λ i j e o a b. h i j (omega arith) (omega arith) o a b)
    ∙ odd_by-same (λ p. in_box n m w t (shift 1 (term p) f)) (λ p. coproduct n t (shift 1 (term p) f)) (splits k)
    (λ p. same (shift 1 (term p) f) (λ i j l d o a b. ap (λ g. g a b) (shift-shift 1 1 (term (i, j)) (term p) f) ∙ h i j l d o (λ x. 1 * (term p).left x + a x) (λ x. 1 * (term p).right x + b x)))
    ∙ sym (coproduct_raised n k within t f))

above_zero : (p x a e : ℕ) → 0 < p → x ≡ 1 → e ≡ 0 → 1 * (p * x) + a ≢ e
above_zero p x a e l one z h = let g : p * x ≡ p * 1 = ap (λ u. p * u) one in omega arith

is_pair-outside : (n : ℕ) (r s : List ℕ) → IsOutside n (length r) (length s) (is_pair n r s)
is_pair-outside n r s i j l d (inl past) a b =
    and_left (agree n (λ x. 1 * (2 ^ j * variable i x) + a x) (exponents r)) (agree n (λ x. 1 * variable j x + b x) (exponents s))
    (agree_not n (λ x. 1 * (2 ^ j * variable i x) + a x) (exponents r) i (omega arith) l (above_zero (2 ^ j) (variable i i) (a i) (exponents r i) (pow_pos j) (variable-same i (omega arith)) (exponents-past r i past)))
is_pair-outside n r s i j l d (inr past) a b =
    and_right (agree n (λ x. 1 * (2 ^ j * variable i x) + a x) (exponents r)) (agree n (λ x. 1 * variable j x + b x) (exponents s))
    (agree_not n (λ x. 1 * variable j x + b x) (exponents s) j (omega arith) d (λ e. omega (arith, variable-same j (omega arith), exponents-past s j past)))

above_bound : (v p x a e : ℕ) → 0 < p → x ≡ 1 → e < v → v * (p * x) + a ≢ e
above_bound v p x a e l one z h =
    let g : v * (p * x) ≡ v * (p * 1) = ap (λ u. v * (p * u)) one in
    let k : v * 1 ≤ v * p = mul-le v 1 v p (omega arith) (omega arith) in
    omega arith

is_pair-bounded : (n : ℕ) (r s : List ℕ) → IsBounded n (suc (sum r + sum s)) (is_pair n r s)
is_pair-bounded n r s v zero j l p q above a b =
    and_right (agree n (λ x. v * (2 ^ j * variable 0 x) + a x) (exponents r)) (agree n (λ x. v * variable j x + b x) (exponents s))
    (agree_not n (λ x. v * variable j x + b x) (exponents s) j (omega arith) q
    (λ e. let one : v * variable j j ≡ v * 1 = ap (λ u. v * u) (variable-same j (omega arith)) in omega (arith, exponents-le s j)))
is_pair-bounded n r s v (suc i) j l p q above a b =
    and_left (agree n (λ x. v * (2 ^ j * variable (suc i) x) + a x) (exponents r)) (agree n (λ x. v * variable j x + b x) (exponents s))
    (agree_not n (λ x. v * (2 ^ j * variable (suc i) x) + a x) (exponents r) (suc i) (omega arith) p
    (above_bound v (2 ^ j) (variable (suc i) (suc i)) (a (suc i)) (exponents r (suc i)) (pow_pos j) (variable-same (suc i) (omega arith)) (omega (arith, exponents-le r (suc i)))))

-- what the definition asks of a matrix's sums, in other words

module _ (n : ℕ) (g : ℕ → ℕ) (r : List ℕ) (short : length r ≤ n) (past : (k : ℕ) → length r < k → g k ≡ 0) where
  -- whether the sum i is as the definition asks
  abbrev asked : ℕ → Bool
  asked i = nat_eq (g i) (entry r (i - 1))

  asked-agree : list_all asked (range_with_len 1 (length r)) ≡ true → (k : ℕ) → 0 < k → from_one g k ≡ exponents r k
  asked-agree h zero l = refl
  asked-agree h (suc k) l = elim (cases_lt k (length r)) [
    | inl within ↦ let at : g (suc k) ≡ entry r (suc k - 1) = eqb-true (g (suc k)) (entry r (suc k - 1)) (list_all-holds asked 1 (length r) (suc k) (omega arith) (omega arith) h) in
        at ∙ ap (entry r) (omega arith)
    | inr beyond ↦ past (suc k) (omega arith) ∙ sym (entry_past r k beyond)
  ]

  agree-asked : agree n (from_one g) (exponents r) ≡ true → (k : ℕ) → 1 ≤ k → k < 1 + length r → asked k ≡ true
  agree-asked h zero l m = absurd (omega arith)
  agree-asked h (suc k) l m = eq-eqb (g (suc k)) (entry r (suc k - 1)) (agree_at n (from_one g) (exponents r) h (suc k) (omega arith) (omega arith) ∙ ap (entry r) (omega arith))

  asked-is : list_all asked (range_with_len 1 (length r)) ≡ agree n (from_one g) (exponents r)
  asked-is =
      same_answers (list_all asked (range_with_len 1 (length r))) (agree n (from_one g) (exponents r))
      (λ h. agree_from n (from_one g) (exponents r) (λ k l m. asked-agree h k l))
      (λ h. list_all-range asked 1 (length r) (λ k l m. agree-asked h k l m))

-- the list of the exponents of x_1 to x_k
abbrev pub listed : ℕ → Monomial → List ℕ
listed k d = trimmed (map d (range_with_len 1 k))

module _ (n k : ℕ) (d : Monomial) (few : k ≤ n) (past : (i : ℕ) → k < i → i ≤ n → d i ≡ 0) where
  entry-range : (i : ℕ) → i < n → entry (map d (range_with_len 1 k)) i ≡ d (suc i)
  entry-range i l = elim (cases_lt i k) [
    | inl within ↦ get_or-map-range_with_len d 1 k i (suc i) 0 within (omega arith)
    | inr beyond ↦ entry_past (map d (range_with_len 1 k)) i (omega (arith, length-map-range_with_len d 1 k)) ∙ sym (past (suc i) (omega arith) (omega arith))
  ]

  pub listed-agree : (i : ℕ) → 0 < i → i ≤ n → d i ≡ exponents (listed k d) i
  listed-agree zero l m = absurd (omega arith)
  listed-agree (suc i) l m = sym (entry-trimmed (map d (range_with_len 1 k)) i ∙ entry-range i (omega arith))

  pub listed-is : (t : List ℕ) → IsTrimmed t → length t ≤ n → pointwise nat_eq (listed k d) t ≡ agree n d (exponents t)
  listed-is t tight short =
      same_answers (pointwise nat_eq (listed k d) t) (agree n d (exponents t))
      (λ h. let e : listed k d ≡ t = (bytes_decides (listed k d) t).0 h in agree_from n d (exponents t) (λ i l m. listed-agree i l m ∙ ap (λ u. exponents u i) e))
      (λ h. (bytes_decides (listed k d) t).1 (trimmed-same (map d (range_with_len 1 k)) t (λ i. elim (cases_lt i n) [
        | inl within ↦ entry-range i within ∙ agree_at n d (exponents t) h (suc i) (omega arith) (omega arith)
        | inr beyond ↦ entry_past (map d (range_with_len 1 k)) i (omega (arith, length-map-range_with_len d 1 k)) ∙ sym (entry_past t i (omega arith))
      ]) ∙ tight))

are_sums_are : (n : ℕ) (r s t : List ℕ) → IsTrimmed t → length r + length s ≤ n → length t ≤ n → (y : Sums) → IsInBox (length r) (length s) y → are_sums_of r s t y ≡ are_terms n (exponents t) (is_pair n r s) y
are_sums_are n r s t tight fits short y inside =
    let rows : list_all (λ i. nat_eq (y.rows i) (entry r (i - 1))) (range_with_len 1 (length r)) ≡ agree n (from_one y.rows) (exponents r) = asked-is n y.rows r (omega arith) inside.rows in
    let columns : list_all (λ j. nat_eq (y.columns j) (entry s (j - 1))) (range_with_len 1 (length s)) ≡ agree n (from_one y.columns) (exponents s) = asked-is n y.columns s (omega arith) inside.columns in
    let diagonals : pointwise nat_eq (trimmed (map y.diagonals (range_with_len 1 (length r + length s)))) t ≡ agree n y.diagonals (exponents t) = listed-is n (length r + length s) y.diagonals fits (λ i l m. inside.diagonals i l) t tight short in
    ap (λ b. b && list_all (λ j. nat_eq (y.columns j) (entry s (j - 1))) (range_with_len 1 (length s)) && y.apart && pointwise nat_eq (trimmed (map y.diagonals (range_with_len 1 (length r + length s)))) t) rows
    ∙ ap (λ b. agree n (from_one y.rows) (exponents r) && b && y.apart && pointwise nat_eq (trimmed (map y.diagonals (range_with_len 1 (length r + length s)))) t) columns
    ∙ ap (λ b. agree n (from_one y.rows) (exponents r) && agree n (from_one y.columns) (exponents s) && y.apart && b) diagonals
    ∙ order (agree n (from_one y.rows) (exponents r)) (agree n (from_one y.columns) (exponents s)) y.apart (agree n y.diagonals (exponents t))
  where
    order : (a b c d : Bool) → (a && b && c && d) ≡ (c && (d && (a && b)))
    order true true true true = refl
    order true true true false = refl
    order true true false d = refl
    order true false true true = refl
    order true false true false = refl
    order true false false d = refl
    order false b true true = refl
    order false b true false = refl
    order false b false d = refl

pub coefficient_is : (n : ℕ) (r s t : List ℕ) → IsTrimmed t → length r + length s ≤ n → length t ≤ n → coefficient r s t ≡ coproduct n (exponents t) (is_pair n r s)
coefficient_is n r s t tight fits short =
    let m : ℕ = length r in
    let w : ℕ = length s in
    let bound : ℕ = suc (sum r + sum s) in
    coefficient-fillings r s t
    ∙ fillings_same bound m w (places_to w m w) (places_to-inside w m) (are_sums_of r s t) (are_terms n (exponents t) (is_pair n r s))
    (are_sums_are n r s t tight fits short) no_sums (record { rows = λ k l. refl; columns = λ k l. refl; diagonals = λ k l. refl })
    ∙ fillings_are n bound m w fits (places_to w m w) (places_to-inside w m) (exponents t) (is_pair n r s) (is_pair-bounded n r s)
    ∙ in_box-larger n m w (exponents t) refl (λ k l. exponents-past t k (omega arith)) (is_pair n r s) (is_pair-outside n r s)
