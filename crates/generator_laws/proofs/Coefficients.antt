-- Adem's relation for Sq^a Sq^b, b a power of two above a, has Sq^(a+b) as a term; and Sq(R) is a term of Sq(u) Sq(S).
use Rattle.std.specs.Prelude.{nat_eq, nat_lt, not, bit_and, ◌==◌}
use Rattle.std.specs.Cmp.Lexicographic.{bytes_decides, pointwise}
use Rattle.std.specs.Int.{is_power_of_two}
use Rattle.std.specs.List.{All, range_with_len}
use lib.Bits.{and_self}
use Rattle.std.proofs.Common.{◌≡◌, ◌≢◌, ℕ, zero, suc, ◌+◌, ◌-◌, ◌*◌, ◌/◌, ◌^◌, ◌<◌, ◌≤◌, Bool, true, false, cond, ◌&&◌, List, [], ◌∷◌, get_or, refl, sym, ◌∙◌, ap, arith}
use Rattle.std.proofs.Math.Nat.{pow-suc}
use Rattle.std.proofs.Math.Numerals.{add-one}
use Rattle.std.proofs.lemmas.Bool.{ltb-true, ltb-false, false≢true}
use Rattle.std.proofs.lemmas.List.Elements.{All-filter, All-from_get_or}
use Rattle.std.proofs.lemmas.List.FromFn.{length-range_with_len, get_or-range_with_len}
use Rattle.std.proofs.lemmas.Nat.{and-not, and_comm, ones_cat, pow_pos}
use Rattle.std.proofs.lemmas.Cmp.{nat_list_eq_equiv}
use Rattle.milnor_basis.specs.Exponents.{IsTrimmed}
use Rattle.milnor_basis.specs.Front.{front}
use Rattle.milnor_basis.proofs.Fronts.{positive_front}
use Rattle.milnor_basis.specs.Product.{choose, is_odd, coefficient, odd_by}
use Rattle.f2_vec.specs.Vectors.{plus}
use Rattle.milnor_basis.proofs.ExponentLemmas.{below_power}
use Rattle.milnor_basis.proofs.Kummer.{choose_odd}
use Rattle.milnor_basis.proofs.Parity.{odd_by-filter, is_odd-count_by}
use Rattle.milnor_laws.proofs.Associative.{odd_by-same_all}
use Rattle.milnor_laws.proofs.RightUnit.{product_has_unit}
use Rattle.milnor_laws.proofs.Indecomposables.{single_trimmed}
use Rattle.adem_laws.specs.Adem.{square, is_term}
use Rattle.adem_laws.proofs.Products.{adem_relations}
use Rattle.adem_laws.proofs.Leading.{leading_term}
use Rattle.finite_module.specs.DerivedAction.{doubled_below, power_below, adem_terms}
use Rattle.finite_module.proofs.Derived.{above_one}

-- the greatest power of two below n

pub record IsPowerBelow (n b : ℕ) : Type 0 where
  pub exponent : ℕ
  pub is : b ≡ 2 ^ exponent
  pub below : b < n
  pub near : n < 2 * b

power_is_power : (j : ℕ) → is_power_of_two (2 ^ j) ≡ true
unfolding lib.Count.ones
power_is_power j =
    let one : 1 * 2 ^ j + 0 ≡ 2 ^ j = omega arith in
    ap is_power_of_two (sym one) ∙ ap (λ k. k == 1) (ones_cat j 1 0 (pow_pos j))

doubled : (k b n j : ℕ) → is_power_of_two n ≡ false → b ≡ 2 ^ j → b < n → n ≤ j + k → IsPowerBelow n (doubled_below k b n)
doubled zero b n j other e l enough =
    let p : j < 2 ^ j = below_power j in
    absurd (omega arith)
doubled (suc k) b n j other e l enough = at (nat_lt (2 * b) n) refl
    (λ h. doubled k (2 * b) n (suc j) other twice h (omega arith))
  where
    twice : 2 * b ≡ 2 ^ suc j
    twice = omega (arith, pow-suc 2 j)

    at : (t : Bool) → nat_lt (2 * b) n ≡ t → (2 * b < n → IsPowerBelow n (doubled_below k (2 * b) n)) → IsPowerBelow n (cond t (doubled_below k (2 * b) n) b)
    at true h more = more (ltb-true (2 * b) n h)
    at false h more =
        let differ : n ≢ 2 * b = λ x. false≢true (sym other ∙ ap is_power_of_two (x ∙ twice) ∙ power_is_power (suc j)) in
        let last : n ≤ 2 * b = ltb-false (2 * b) n h in
        record { exponent = j; is = e; below = l; near = omega arith }

pub power_below_is : (n : ℕ) → 0 < n → is_power_of_two n ≡ false → IsPowerBelow n (power_below n)
power_below_is n l other = doubled n 1 n 0 other refl (above_one n l other) (omega arith)

-- binom(2^k - 1, a) is odd
first_odd : (a b k : ℕ) → b ≡ 2 ^ k → a < b → is_odd (choose (b - 1) a) ≡ true
first_odd a b k e l =
    let m : a + (b - 1 - a) ≡ b - 1 = omega arith in
    let same : b - 1 - a ≡ 2 ^ k - 1 - a = omega arith in
    let none : bit_and (2 ^ k - 1 - a) a ≡ 0 = omega (arith, and-not k a a (omega arith) (omega arith), and_self a) in
    ap (λ n. is_odd (choose n a)) (sym m) ∙ choose_odd a (b - 1 - a) ∙ ap (λ n. nat_eq n 0) (and_comm a (b - 1 - a) ∙ ap (λ n. bit_and n a) same ∙ none)

pub square_positive : (n : ℕ) → 0 < n → square n ≡ n ∷ []
square_positive zero l = absurd (omega arith)
square_positive (suc n) l = refl

-- the c of the terms
pub adem_terms_within : (a b : ℕ) → All (λ c. (0 < c) × (2 * c ≤ a)) (adem_terms a b)
adem_terms_within a b =
    All-filter (is_term a b) (λ c. (0 < c) × (2 * c ≤ a)) (range_with_len 1 (a / 2))
    (All-from_get_or (λ c. (0 < c) × (2 * c ≤ a)) (range_with_len 1 (a / 2)) 0 (λ k l.
    let h : k < a / 2 = omega (arith, length-range_with_len 1 (a / 2)) in
    let e : get_or (range_with_len 1 (a / 2)) k 0 ≡ 1 + k = get_or-range_with_len 1 (a / 2) k 0 h in
    (omega arith, omega arith)))

plus_back : (a b : Bool) → plus (plus a b) b ≡ a
plus_back true true = refl
plus_back true false = refl
plus_back false true = refl
plus_back false false = refl

pub adem_coefficient : (a b k : ℕ) → b ≡ 2 ^ k → 0 < a → a < b → (t : List ℕ) → plus (coefficient (a ∷ []) (b ∷ []) t) (odd_by (λ c. coefficient ((a + b - c) ∷ []) (c ∷ []) t) (adem_terms a b)) ≡ pointwise nat_eq ((a + b) ∷ []) t
adem_coefficient a b k power above below t =
    let f : ℕ → Bool = λ c. coefficient (square (a + b - c)) (square c) t in
    let g : ℕ → Bool = λ c. coefficient ((a + b - c) ∷ []) (c ∷ []) t in
    let left : coefficient (square a) (square b) t ≡ coefficient (a ∷ []) (b ∷ []) t = ap (λ x. coefficient x (square b) t) (square_positive a above) ∙ ap (λ x. coefficient (a ∷ []) x t) (square_positive b (omega arith)) in
    let whole : a + b - 0 ≡ a + b = omega arith in
    let half : b - 0 - 1 ≡ b - 1 = omega arith in
    let rest : a - 2 * 0 ≡ a = omega arith in
    let odd : is_term a b 0 ≡ true = ap (λ x. is_odd (choose x (a - 2 * 0))) half ∙ ap (λ x. is_odd (choose (b - 1) x)) rest ∙ first_odd a b k power below in
    let first : (is_term a b 0 && f 0) ≡ pointwise nat_eq ((a + b) ∷ []) t =
    ap (λ x. x && f 0) odd
    ∙ ap (λ x. coefficient (square x) [] t) whole
    ∙ ap (λ x. coefficient x [] t) (square_positive (a + b) (omega arith))
    ∙ (product_has_unit ((a + b) ∷ []) t (single_trimmed (a + b) (omega arith))).1 in
    let others : odd_by (λ c. is_term a b c && f c) (range_with_len 1 (a / 2)) ≡ odd_by g (adem_terms a b) =
    sym (odd_by-filter f (is_term a b) (range_with_len 1 (a / 2)))
    ∙ odd_by-same_all (λ c. (0 < c) × (2 * c ≤ a)) f g (adem_terms a b) (adem_terms_within a b) (λ c h.
    let p = h.0 in let q = h.1 in
    ap (λ x. coefficient x (square c) t) (square_positive (a + b - c) (omega arith)) ∙ ap (λ x. coefficient ((a + b - c) ∷ []) x t) (square_positive c p)) in
    let relation : coefficient (a ∷ []) (b ∷ []) t ≡ plus (pointwise nat_eq ((a + b) ∷ []) t) (odd_by g (adem_terms a b)) =
    sym left
    ∙ adem_relations a b above (omega arith) t
    ∙ is_odd-count_by (λ c. is_term a b c && f c) (range_with_len 0 (a / 2 + 1))
    ∙ ap (λ m. odd_by (λ c. is_term a b c && f c) (range_with_len 0 m)) (add-one (a / 2))
    ∙ ap (λ x. plus x (odd_by (λ c. is_term a b c && f c) (range_with_len 1 (a / 2)))) first
    ∙ ap (plus (pointwise nat_eq ((a + b) ∷ []) t)) others in
    ap (λ x. plus x (odd_by g (adem_terms a b))) relation ∙ plus_back (pointwise nat_eq ((a + b) ∷ []) t) (odd_by g (adem_terms a b))

-- ---- Sq(R) is a term of Sq(u) Sq(S), u the front of R and S the exponents of R behind the first

-- the coefficient of Sq(R) is 1
pub own_term : (r : ℕ) (s : List ℕ) → IsTrimmed (r ∷ s) → coefficient (front (r ∷ s) ∷ []) s (r ∷ s) ≡ true
own_term r s h =
    ap (λ x. coefficient x s (r ∷ s)) (sym (square_positive (front (r ∷ s)) (positive_front (r ∷ s) (omega arith) h)))
    ∙ leading_term (front (r ∷ s)) s (r ∷ s) h (λ i. refl) refl

one_left : (a b : Bool) → (b ≡ true → a ≡ true) → plus a (a && not b) ≡ b
one_left true true h = refl
one_left true false h = refl
one_left false true h = h refl
one_left false false h = refl

-- and the product with its other terms is Sq(R)
pub product_coefficient : (r : ℕ) (s : List ℕ) → IsTrimmed (r ∷ s) → (t : List ℕ) → plus (coefficient (front (r ∷ s) ∷ []) s t) (coefficient (front (r ∷ s) ∷ []) s t && not (pointwise nat_eq t (r ∷ s))) ≡ pointwise nat_eq (r ∷ s) t
product_coefficient r s h t =
    let c : List ℕ → Bool = coefficient (front (r ∷ s) ∷ []) s in
    one_left (c t) (pointwise nat_eq t (r ∷ s)) (λ e. ap c ((bytes_decides t (r ∷ s)).0 e) ∙ own_term r s h)
    ∙ nat_list_eq_equiv.symm t (r ∷ s)
