-- The ways to write a list of exponents as a sum of two.
use Rattle.std.specs.Prelude.{nat_eq}
use Rattle.std.specs.List.{All, flat_map, range_with_len}
use Rattle.std.proofs.Common.{◌≡◌, ◌≢◌, ℕ, zero, suc, ◌+◌, ◌-◌, ◌*◌, ◌^◌, ◌<◌, ◌≤◌, inl, inr, Bool, true, false, ◌&&◌, List, [], ◌∷◌, map, length, refl, sym, ◌∙◌, ap, arith}
use Rattle.std.proofs.lemmas.Bool.{cases_lt, eq-eqb, eqb-true, ne_eqb, and_from, and_parts}
use Rattle.std.proofs.lemmas.List.Elements.{All-append, All-cons, All-head, All-map, All-nil, All-tail}
use Rattle.milnor_basis.specs.Exponents.{entry, degree_from, put_before, trimmed, IsTrimmed}
use Rattle.f2_vec.specs.Vectors.{plus}
use Rattle.milnor_basis.specs.Inside.Walk.{is_odd_below}
use Rattle.f2_vec.proofs.Sums.{plus-false}
use Rattle.milnor_basis.proofs.ExponentLemmas.{same_answers, degree_from-put_before, entry-put_before-zero, entry-put_before-suc, trimmed-put_before, length-put_before}
use Rattle.milnor_basis.specs.Product.{odd_by}
use Rattle.milnor_basis.proofs.Parity.{odd_by-flat_map, odd_by-map, odd_by-range, is_odd_below-same, is_odd_below-none, odd_by-same}
use Rattle.milnor_basis.proofs.Ranges.{All-range}
use Rattle.milnor_laws.proofs.SumsModTwo.{odd_by-and, odd_by-none, is_odd_below-one, is_odd_below-first, plus-and}
use Rattle.milnor_laws.proofs.Powers.{Monomial, agree, agree_at, agree_from}
use Rattle.milnor_laws.proofs.Coefficients.{exponents, exponents-past}
use Rattle.milnor_laws.proofs.Associative.{odd_by-same_all}
use Rattle.hopf_laws.specs.Diagonal.{splittings}
use Rattle.hopf_laws.proofs.CoproductSums.{times}

abbrev pub Pair : Type 0
Pair = List ℕ × List ℕ

-- i and j in front of a pair
abbrev pub before : ℕ → ℕ → Pair → Pair
before i j p = (put_before i p.0, put_before j p.1)

pub splittings-below : (g : Pair → Bool) (r : ℕ) (rs : List ℕ) → odd_by g (splittings (r ∷ rs)) ≡ is_odd_below (λ i. odd_by (λ p. g (before i (r - i) p)) (splittings rs)) (suc r)
splittings-below g r rs =
    odd_by-flat_map g (λ i. map (before i (r - i)) (splittings rs)) (range_with_len 0 (suc r))
    ∙ odd_by-range (λ i. odd_by g (map (before i (r - i)) (splittings rs))) (suc r)
    ∙ is_odd_below-same (λ i. odd_by g (map (before i (r - i)) (splittings rs))) (λ i. odd_by (λ p. g (before i (r - i) p)) (splittings rs)) (suc r) (λ i l. odd_by-map g (before i (r - i)) (splittings rs))

-- what holds of the two parts
pub record IsSplit (k : ℕ) (r : List ℕ) (p : Pair) : Type 0 where
  pub left : IsTrimmed p.0
  pub right : IsTrimmed p.1
  pub left_length : length p.0 ≤ length r
  pub right_length : length p.1 ≤ length r
  pub degree : degree_from k p.0 + degree_from k p.1 ≡ degree_from k r

pub All-flat_map : {X Y : Type 0} → (P : Y → Type 0) (f : X → List Y) (Q : X → Type 0) (xs : List X) → All Q xs → ((x : X) → Q x → All P (f x)) → All P (flat_map f xs)
All-flat_map P f Q [] all h = All-nil P
All-flat_map P f Q (x ∷ xs) all h = All-append P (f x) (flat_map f xs) (h x (All-head Q x xs all)) (All-flat_map P f Q xs (All-tail Q x xs all) h)

pub All-of_all : {X : Type 0} → (P Q : X → Type 0) (xs : List X) → All P xs → ((x : X) → P x → Q x) → All Q xs
All-of_all P Q [] all h = All-nil Q
All-of_all P Q (x ∷ xs) all h = All-cons Q x xs (h x (All-head P x xs all)) (All-of_all P Q xs (All-tail P x xs all) h)

split_degrees : (i j r w a b c : ℕ) → i + j ≡ r → a + b ≡ c → (i * w + a) + (j * w + b) ≡ r * w + c
split_degrees i j r w a b c e f = let g : r * w ≡ (i + j) * w = ap (λ x. x * w) (sym e) in omega arith

pub IsSplit-before : (k r : ℕ) (rs : List ℕ) (i : ℕ) (p : Pair) → i ≤ r → IsSplit (suc k) rs p → IsSplit k (r ∷ rs) (before i (r - i) p)
IsSplit-before k r rs i p few h = let ll = h.left_length in let rl = h.right_length in record {
  left = trimmed-put_before i p.0 h.left;
  right = trimmed-put_before (r - i) p.1 h.right;
  left_length = omega (arith, length-put_before i p.0);
  right_length = omega (arith, length-put_before (r - i) p.1);
  degree = ap (λ d. d + degree_from k (put_before (r - i) p.1)) (degree_from-put_before k i p.0)
      ∙ ap (λ d. i * (2 ^ k - 1) + degree_from (suc k) p.0 + d) (degree_from-put_before k (r - i) p.1)
      ∙ split_degrees i (r - i) r (2 ^ k - 1) (degree_from (suc k) p.0) (degree_from (suc k) p.1) (degree_from (suc k) rs) (omega arith) h.degree;
}

pub All-splittings : (k : ℕ) (r : List ℕ) → All (IsSplit k r) (splittings r)
All-splittings k [] = All-cons (IsSplit k []) ([], []) [] (record { left = refl; right = refl; left_length = omega arith; right_length = omega arith; degree = refl }) (All-nil (IsSplit k []))
All-splittings k (r ∷ rs) =
    All-flat_map (IsSplit k (r ∷ rs)) (λ i. map (before i (r - i)) (splittings rs)) (λ i. 0 ≤ i × (i < 0 + suc r)) (range_with_len 0 (suc r)) (All-range 0 (suc r))
    (λ i l. All-map (IsSplit k (r ∷ rs)) (before i (r - i)) (splittings rs)
    (All-of_all (IsSplit (suc k) rs) (λ p. IsSplit k (r ∷ rs) (before i (r - i) p)) (splittings rs) (All-splittings (suc k) rs)
    (λ p h. let few = l.1 in IsSplit-before k r rs i p (omega arith) h)))

-- and their sum, place by place
pub All-whole : (r : List ℕ) → All (λ p. (j : ℕ) → entry p.0 j + entry p.1 j ≡ entry r j) (splittings r)
All-whole [] = All-cons (λ p. (j : ℕ) → entry p.0 j + entry p.1 j ≡ entry [] j) ([], []) [] (λ j. omega arith) (All-nil (λ p. (j : ℕ) → entry p.0 j + entry p.1 j ≡ entry [] j))
All-whole (r ∷ rs) =
    All-flat_map (Whole (r ∷ rs)) (λ i. map (before i (r - i)) (splittings rs)) (λ i. 0 ≤ i × (i < 0 + suc r)) (range_with_len 0 (suc r)) (All-range 0 (suc r))
    (λ i l. All-map (Whole (r ∷ rs)) (before i (r - i)) (splittings rs) (All-of_all (Whole rs) (λ p. Whole (r ∷ rs) (before i (r - i) p)) (splittings rs) (All-whole rs) (λ p h. let few = l.1 in at i p (omega arith) h)))
  where
    Whole : List ℕ → Pair → Type 0
    Whole s p = (j : ℕ) → entry p.0 j + entry p.1 j ≡ entry s j

    at : (i : ℕ) (p : Pair) → i ≤ r → Whole rs p → Whole (r ∷ rs) (before i (r - i) p)
    at i p few h zero = ap (λ n. n + entry (put_before (r - i) p.1) 0) (entry-put_before-zero i p.0) ∙ ap (λ n. i + n) (entry-put_before-zero (r - i) p.1) ∙ omega arith
    at i p few h (suc j) = ap (λ n. n + entry (put_before (r - i) p.1) (suc j)) (entry-put_before-suc i p.0 j) ∙ ap (λ n. entry p.0 j + n) (entry-put_before-suc (r - i) p.1 j) ∙ h j

-- Agreement, place by place from the first.

agree_same : (n : ℕ) (a b c d : Monomial) → ((k : ℕ) → 0 < k → k ≤ n → a k ≡ c k) → ((k : ℕ) → 0 < k → k ≤ n → b k ≡ d k) → agree n a b ≡ agree n c d
agree_same zero a b c d h g = refl
agree_same (suc n) a b c d h g =
    let here : nat_eq (a (suc n)) (b (suc n)) ≡ nat_eq (c (suc n)) (d (suc n)) = ap (λ x. nat_eq x (b (suc n))) (h (suc n) (omega arith) (omega arith)) ∙ ap (nat_eq (c (suc n))) (g (suc n) (omega arith) (omega arith)) in
    ap (λ x. x && agree n a b) here ∙ ap (λ x. nat_eq (c (suc n)) (d (suc n)) && x) (agree_same n a b c d (λ k l m. h k l (omega arith)) (λ k l m. g k l (omega arith)))

-- the exponents from the second on
abbrev later : Monomial → Monomial
later a = λ k. a (suc k)

agree-first : (n : ℕ) (a b : Monomial) → agree (suc n) a b ≡ (nat_eq (a 1) (b 1) && agree n (later a) (later b))
agree-first zero a b = refl
agree-first (suc n) a b =
    ap (λ x. nat_eq (a (suc (suc n))) (b (suc (suc n))) && x) (agree-first n a b)
    ∙ swap (nat_eq (a (suc (suc n))) (b (suc (suc n)))) (nat_eq (a 1) (b 1)) (agree n (later a) (later b))
  where
    swap : (x y z : Bool) → (x && (y && z)) ≡ (y && (x && z))
    swap true true z = refl
    swap true false z = refl
    swap false true z = refl
    swap false false z = refl

agree-list : (n : ℕ) (a : Monomial) (x : ℕ) (xs ys : List ℕ) → entry ys 0 ≡ x → ((j : ℕ) → entry ys (suc j) ≡ entry xs j) → agree (suc n) a (exponents ys) ≡ (nat_eq (a 1) x && agree n (later a) (exponents xs))
agree-list n a x xs ys h g =
    agree-first n a (exponents ys)
    ∙ ap (λ y. nat_eq (a 1) y && agree n (later a) (later (exponents ys))) h
    ∙ ap (λ b. nat_eq (a 1) x && b) (agree_same n (later a) (later (exponents ys)) (later a) (exponents xs) (λ k l m. refl) (λ k l m. at k l))
  where
    at : (k : ℕ) → 0 < k → exponents ys (suc k) ≡ exponents xs k
    at zero l = absurd (omega arith)
    at (suc j) l = g j

-- a number that is a sum of two is split once so
nat_eq_split : (x y r : ℕ) → nat_eq (x + y) r ≡ is_odd_below (λ i. nat_eq x i && nat_eq y (r - i)) (suc r)
nat_eq_split x y r = elim (cases_lt r x) [
  | inl past ↦ ne_eqb (x + y) r (λ e. omega arith) ∙ sym (is_odd_below-none (λ i. nat_eq x i && nat_eq y (r - i)) (suc r) (λ i l. ap (λ b. b && nat_eq y (r - i)) (ne_eqb x i (λ e. omega arith))))
  | inr within ↦ same_answers (nat_eq (x + y) r) (nat_eq y (r - x)) (λ h. eq-eqb y (r - x) (omega (arith, eqb-true (x + y) r h))) (λ h. eq-eqb (x + y) r (omega (arith, eqb-true y (r - x) h)))
      ∙ sym (is_odd_below-one (λ i. nat_eq x i && nat_eq y (r - i)) x (suc r) (omega arith) (λ i l d. ap (λ b. b && nat_eq y (r - i)) (ne_eqb x i (λ e. d (sym e)))) ∙ ap (λ b. b && nat_eq y (r - x)) (eq-eqb x x refl))
]

is_odd_below-and : (p : ℕ → Bool) (c : Bool) (n : ℕ) → is_odd_below (λ v. p v && c) n ≡ (is_odd_below p n && c)
is_odd_below-and p c zero = refl
is_odd_below-and p c (suc n) = ap (plus (p n && c)) (is_odd_below-and p c n) ∙ sym (plus-and (p n) (is_odd_below p n) c)

pub and-exchanged : (a b c d : Bool) → ((a && b) && (c && d)) ≡ ((a && c) && (b && d))
and-exchanged true true c d = refl
and-exchanged true false true d = refl
and-exchanged true false false d = refl
and-exchanged false b c d = refl

-- A product of two monomials is x^R exactly where they are x^R1 and x^R2 for one of the splittings.
pub agree-splittings : (n : ℕ) (a c : Monomial) (r : List ℕ) → length r ≤ n → agree n (times a c) (exponents r) ≡ odd_by (λ p. agree n a (exponents p.0) && agree n c (exponents p.1)) (splittings r)
agree-splittings n a c [] l =
    same_answers (agree n (times a c) (exponents [])) (agree n a (exponents []) && agree n c (exponents []))
    (λ h. and_from (agree n a (exponents [])) (agree n c (exponents []))
    (agree_from n a (exponents []) (λ k p q. omega (arith, exponents-past [] k p, agree_at n (times a c) (exponents []) h k p q)))
    (agree_from n c (exponents []) (λ k p q. omega (arith, exponents-past [] k p, agree_at n (times a c) (exponents []) h k p q))))
    (λ h. let two = and_parts (agree n a (exponents [])) (agree n c (exponents [])) h in
    agree_from n (times a c) (exponents []) (λ k p q. omega (arith, exponents-past [] k p, agree_at n a (exponents []) two.0 k p q, agree_at n c (exponents []) two.1 k p q)))
    ∙ sym (plus-false (agree n a (exponents []) && agree n c (exponents [])))
agree-splittings zero a c (r ∷ rs) l = absurd (omega arith)
agree-splittings (suc n) a c (r ∷ rs) l =
    let here : ℕ → Bool = λ i. nat_eq (a 1) i && nat_eq (c 1) (r - i) in
    let rest : Pair → Bool = λ p. agree n (later a) (exponents p.0) && agree n (later c) (exponents p.1) in
    let sums : Bool = odd_by rest (splittings rs) in
    agree-list n (times a c) r rs (r ∷ rs) refl (λ j. refl)
    ∙ ap (λ b. b && agree n (times (later a) (later c)) (exponents rs)) (nat_eq_split (a 1) (c 1) r)
    ∙ ap (λ b. is_odd_below here (suc r) && b) (agree-splittings n (later a) (later c) rs (omega arith))
    ∙ sym (is_odd_below-and here sums (suc r))
    ∙ is_odd_below-same (λ i. here i && sums) (λ i. odd_by (λ p. agree (suc n) a (exponents (put_before i p.0)) && agree (suc n) c (exponents (put_before (r - i) p.1))) (splittings rs)) (suc r)
    (λ i m. sym (odd_by-and (here i) rest (splittings rs))
    ∙ odd_by-same (λ p. here i && rest p) (λ p. agree (suc n) a (exponents (put_before i p.0)) && agree (suc n) c (exponents (put_before (r - i) p.1))) (splittings rs)
    (λ p. and-exchanged (nat_eq (a 1) i) (nat_eq (c 1) (r - i)) (agree n (later a) (exponents p.0)) (agree n (later c) (exponents p.1))
    ∙ ap (λ b. b && (nat_eq (c 1) (r - i) && agree n (later c) (exponents p.1))) (sym (agree-list n a i p.0 (put_before i p.0) (entry-put_before-zero i p.0) (entry-put_before-suc i p.0)))
    ∙ ap (λ b. agree (suc n) a (exponents (put_before i p.0)) && b) (sym (agree-list n c (r - i) p.1 (put_before (r - i) p.1) (entry-put_before-zero (r - i) p.1) (entry-put_before-suc (r - i) p.1)))))
    ∙ sym (splittings-below (λ p. agree (suc n) a (exponents p.0) && agree (suc n) c (exponents p.1)) r rs)

-- The two parts of a splitting can be exchanged.

is_odd_below-turned : (p : ℕ → Bool) (n : ℕ) → is_odd_below p (suc n) ≡ is_odd_below (λ i. p (n - i)) (suc n)
is_odd_below-turned p zero = refl
is_odd_below-turned p (suc n) =
    ap (plus (p (suc n))) (is_odd_below-turned p n ∙ is_odd_below-same (λ i. p (n - i)) (λ i. p (suc n - suc i)) (suc n) (λ i l. ap p (omega arith)))
    ∙ ap (λ k. plus (p k) (is_odd_below (λ i. p (suc n - suc i)) (suc n))) (omega arith)
    ∙ sym (is_odd_below-first (λ i. p (suc n - i)) (suc n))

abbrev pub exchanged : Pair → Pair
exchanged p = (p.1, p.0)

pub splittings-exchanged : (g : Pair → Bool) (r : List ℕ) → odd_by g (splittings r) ≡ odd_by (λ p. g (exchanged p)) (splittings r)
splittings-exchanged g [] = refl
splittings-exchanged g (r ∷ rs) =
    splittings-below g r rs
    ∙ is_odd_below-turned (λ i. odd_by (λ p. g (before i (r - i) p)) (splittings rs)) r
    ∙ is_odd_below-same (λ i. odd_by (λ p. g (before (r - i) (r - (r - i)) p)) (splittings rs)) (λ i. odd_by (λ p. g (exchanged (before i (r - i) p))) (splittings rs)) (suc r)
    (λ i l. let e : r - (r - i) ≡ i = omega arith in
    ap (λ k. odd_by (λ p. g (before (r - i) k p)) (splittings rs)) e ∙ splittings-exchanged (λ p. g (before (r - i) i p)) rs)
    ∙ sym (splittings-below (λ p. g (exchanged p)) r rs)

-- One splitting has nothing in its first part.
pub splittings-nothing : (k : ℕ) (g : Pair → Bool) (r : List ℕ) → ((p : Pair) → IsSplit k r p → p.0 ≢ [] → g p ≡ false) → odd_by g (splittings r) ≡ g ([], trimmed r)
splittings-nothing k g [] h = plus-false (g ([], []))
splittings-nothing k g (r ∷ rs) h =
    splittings-below g r rs
    ∙ is_odd_below-first (λ i. odd_by (λ p. g (before i (r - i) p)) (splittings rs)) r
    ∙ ap (plus (odd_by (λ p. g (before 0 (r - 0) p)) (splittings rs)))
    (is_odd_below-none (λ i. odd_by (λ p. g (before (suc i) (r - suc i) p)) (splittings rs)) r
    (λ i l. odd_by-same_all (IsSplit (suc k) rs) (λ p. g (before (suc i) (r - suc i) p)) (λ p. false) (splittings rs) (All-splittings (suc k) rs)
    (λ p m. h (before (suc i) (r - suc i) p) (IsSplit-before k r rs (suc i) p (omega arith) m) (some i p.0))
    ∙ odd_by-none (λ p. false) (splittings rs) (λ p. refl)))
    ∙ plus-false (odd_by (λ p. g (before 0 (r - 0) p)) (splittings rs))
    ∙ splittings-nothing (suc k) (λ p. g (before 0 (r - 0) p)) rs (λ p m d. h (before 0 (r - 0) p) (IsSplit-before k r rs 0 p (omega arith) m) (zeros p.0 d))
    ∙ ap (λ j. g ([], put_before j (trimmed rs))) (omega arith)
  where
    some : (i : ℕ) (xs : List ℕ) → put_before (suc i) xs ≢ []
    some i [] e = cc
    some i (x ∷ xs) e = cc

    zeros : (xs : List ℕ) → xs ≢ [] → put_before 0 xs ≢ []
    zeros [] d e = d refl
    zeros (x ∷ xs) d e = cc
