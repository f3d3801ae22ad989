-- Sums mod 2: over lists, over the numbers below a bound, and over the ways to write a number as a sum of two.
use Rattle.std.proofs.Common.{◌≡◌, ◌≢◌, ℕ, zero, suc, ◌+◌, ◌-◌, ◌<◌, ◌≤◌, inl, inr, Bool, true, false, ◌&&◌, List, [], ◌∷◌, map, refl, sym, ◌∙◌, ap, arith}
use Rattle.std.proofs.lemmas.Bool.{cases_eq}
use Rattle.f2_vec.specs.Vectors.{plus}
use Rattle.f2_vec.proofs.Sums.{plus-assoc, plus-false}
use Rattle.milnor_basis.specs.Inside.Walk.{is_odd_below}
use Rattle.milnor_basis.specs.Product.{odd_by}
use Rattle.milnor_basis.proofs.Parity.{odd_by-map, odd_by-same, is_odd_below-same, is_odd_below-none, is_odd_below-up_to}

pub plus-swap : (a b c : Bool) → plus a (plus b c) ≡ plus b (plus a c)
plus-swap true true c = refl
plus-swap true false c = refl
plus-swap false b c = refl

pub plus-four : (a b c d : Bool) → plus (plus a b) (plus c d) ≡ plus (plus a c) (plus b d)
plus-four true true true d = refl
plus-four true true false true = refl
plus-four true true false false = refl
plus-four true false true true = refl
plus-four true false true false = refl
plus-four true false false d = refl
plus-four false true true d = refl
plus-four false true false d = refl
plus-four false false c d = refl

plus-twice : (a b c : Bool) → plus (plus a b) (plus b c) ≡ plus a c
plus-twice true true c = refl
plus-twice true false c = refl
plus-twice false true true = refl
plus-twice false true false = refl
plus-twice false false c = refl

pub plus-cancel : (a b c : Bool) → plus a b ≡ plus a c → b ≡ c
plus-cancel true true true e = refl
plus-cancel true true false e = sym e
plus-cancel true false true e = sym e
plus-cancel true false false e = refl
plus-cancel false b c e = e

pub and-plus : (c a b : Bool) → (c && plus a b) ≡ plus (c && a) (c && b)
and-plus true a b = refl
and-plus false a b = refl

pub plus-and : (a b c : Bool) → (plus a b && c) ≡ plus (a && c) (b && c)
plus-and true true true = refl
plus-and true true false = refl
plus-and true false true = refl
plus-and true false false = refl
plus-and false b c = refl

-- sums over a list

pub odd_by-plus : {X : Type 0} → (p q : X → Bool) (xs : List X) → odd_by (λ x. plus (p x) (q x)) xs ≡ plus (odd_by p xs) (odd_by q xs)
odd_by-plus p q [] = refl
odd_by-plus p q (x ∷ xs) = ap (plus (plus (p x) (q x))) (odd_by-plus p q xs) ∙ plus-four (p x) (q x) (odd_by p xs) (odd_by q xs)

pub odd_by-none : {X : Type 0} → (p : X → Bool) (xs : List X) → ((x : X) → p x ≡ false) → odd_by p xs ≡ false
odd_by-none p [] h = refl
odd_by-none p (x ∷ xs) h = ap (λ b. plus b (odd_by p xs)) (h x) ∙ odd_by-none p xs h

pub odd_by-and : {X : Type 0} → (c : Bool) (p : X → Bool) (xs : List X) → odd_by (λ x. c && p x) xs ≡ (c && odd_by p xs)
odd_by-and true p xs = refl
odd_by-and false p xs = odd_by-none (λ x. false && p x) xs (λ x. refl)

pub odd_by-swap : {X Y : Type 0} → (g : X → Y → Bool) (xs : List X) (ys : List Y) → odd_by (λ x. odd_by (g x) ys) xs ≡ odd_by (λ y. odd_by (λ x. g x y) xs) ys
odd_by-swap g [] ys = sym (odd_by-none (λ y. false) ys (λ y. refl))
odd_by-swap g (x ∷ xs) ys = ap (plus (odd_by (g x) ys)) (odd_by-swap g xs ys) ∙ sym (odd_by-plus (g x) (λ y. odd_by (λ z. g z y) xs) ys)

-- a symmetric double sum is that of its diagonal: squaring is additive mod 2
pub odd_by-symmetric : {X : Type 0} → (g : X → X → Bool) (xs : List X) → ((x y : X) → g x y ≡ g y x) → odd_by (λ x. odd_by (g x) xs) xs ≡ odd_by (λ x. g x x) xs
odd_by-symmetric g [] h = refl
odd_by-symmetric g (x ∷ xs) h =
    let a : Bool = odd_by (g x) xs in
    ap (plus (plus (g x x) a)) (odd_by-plus (λ y. g y x) (λ y. odd_by (g y) xs) xs ∙ ap (λ b. plus b (odd_by (λ y. odd_by (g y) xs) xs)) (odd_by-same (λ y. g y x) (g x) xs (λ y. h y x)))
    ∙ plus-twice (g x x) a (odd_by (λ y. odd_by (g y) xs) xs)
    ∙ ap (plus (g x x)) (odd_by-symmetric g xs h)

-- sums over the numbers below a bound

pub is_odd_below-plus : (p q : ℕ → Bool) (n : ℕ) → is_odd_below (λ v. plus (p v) (q v)) n ≡ plus (is_odd_below p n) (is_odd_below q n)
is_odd_below-plus p q zero = refl
is_odd_below-plus p q (suc n) = ap (plus (plus (p n) (q n))) (is_odd_below-plus p q n) ∙ plus-four (p n) (q n) (is_odd_below p n) (is_odd_below q n)

pub is_odd_below-swap : (g : ℕ → ℕ → Bool) (m n : ℕ) → is_odd_below (λ v. is_odd_below (g v) n) m ≡ is_odd_below (λ w. is_odd_below (λ v. g v w) m) n
is_odd_below-swap g zero n = sym (is_odd_below-none (λ w. false) n (λ v l. refl))
is_odd_below-swap g (suc m) n = ap (plus (is_odd_below (g m) n)) (is_odd_below-swap g m n) ∙ sym (is_odd_below-plus (g m) (λ w. is_odd_below (λ v. g v w) m) n)

pub is_odd_below-first : (p : ℕ → Bool) (n : ℕ) → is_odd_below p (suc n) ≡ plus (p 0) (is_odd_below (λ v. p (suc v)) n)
is_odd_below-first p zero = refl
is_odd_below-first p (suc n) = ap (plus (p (suc n))) (is_odd_below-first p n) ∙ plus-swap (p (suc n)) (p 0) (is_odd_below (λ v. p (suc v)) n)

-- a sum with one term that is not 0
pub is_odd_below-one : (p : ℕ → Bool) (a n : ℕ) → a < n → ((v : ℕ) → v < n → v ≢ a → p v ≡ false) → is_odd_below p n ≡ p a
is_odd_below-one p a zero l h = absurd (omega arith)
is_odd_below-one p a (suc n) l h = elim (cases_eq a n) [
  | inl same ↦ ap (plus (p n)) (is_odd_below-none p n (λ v m. h v (omega arith) (λ e. omega arith))) ∙ plus-false (p n) ∙ ap p (sym same)
  | inr other ↦ ap (λ b. plus b (is_odd_below p n)) (h n (omega arith) (λ e. other (sym e))) ∙ is_odd_below-one p a n (omega arith) (λ v m d. h v (omega arith) d)
]

-- a sum whose terms are 0 from m on and from n on
pub is_odd_below-ends : (p : ℕ → Bool) (m n : ℕ) → ((v : ℕ) → m ≤ v → p v ≡ false) → ((v : ℕ) → n ≤ v → p v ≡ false) → is_odd_below p m ≡ is_odd_below p n
is_odd_below-ends p m n h k =
    let e : n + m ≡ m + n = omega arith in
    sym (is_odd_below-up_to p m n h) ∙ ap (is_odd_below p) e ∙ is_odd_below-up_to p n m k

-- the pairs (i, j) with i + j = n

abbrev pub one_lower : ℕ × ℕ → ℕ × ℕ
one_lower p = (suc p.0, p.1)

abbrev pub splits : ℕ → List (ℕ × ℕ)
splits zero = (0, 0) ∷ []
splits (suc n) = (0, suc n) ∷ map one_lower (splits n)

pub splits-same : (n : ℕ) (g h : ℕ × ℕ → Bool) → ((i j : ℕ) → i + j ≡ n → g (i, j) ≡ h (i, j)) → odd_by g (splits n) ≡ odd_by h (splits n)
splits-same zero g h k = ap (λ b. plus b false) (k 0 0 refl)
splits-same (suc n) g h k =
    ap (λ b. plus b (odd_by g (map one_lower (splits n)))) (k 0 (suc n) (omega arith))
    ∙ ap (plus (h (0, suc n))) (odd_by-map g one_lower (splits n) ∙ splits-same n (λ p. g (one_lower p)) (λ p. h (one_lower p)) (λ i j e. k (suc i) j (omega arith)) ∙ sym (odd_by-map h one_lower (splits n)))

pub splits-below : (h : ℕ × ℕ → Bool) (n : ℕ) → odd_by h (splits n) ≡ is_odd_below (λ i. h (i, n - i)) (suc n)
splits-below h zero = refl
splits-below h (suc n) =
    ap (plus (h (0, suc n))) (odd_by-map h one_lower (splits n) ∙ splits-below (λ p. h (one_lower p)) n ∙ is_odd_below-same (λ i. h (suc i, n - i)) (λ i. h (suc i, suc n - suc i)) (suc n) (λ i l. ap (λ j. h (suc i, j)) (omega arith)))
    ∙ ap (λ j. plus (h (0, j)) (is_odd_below (λ i. h (suc i, suc n - suc i)) (suc n))) (omega arith)
    ∙ sym (is_odd_below-first (λ i. h (i, suc n - i)) (suc n))

-- the sums over i + j + k = m, by i + j = n and n + k = m, and by j + k = l and i + l = m
pub splits-twice : (g : ℕ → ℕ → ℕ → Bool) (m : ℕ) → odd_by (λ p. odd_by (λ q. g q.0 q.1 p.1) (splits p.0)) (splits m) ≡ odd_by (λ p. odd_by (λ q. g p.0 q.0 q.1) (splits p.1)) (splits m)
splits-twice g zero = refl
splits-twice g (suc m) =
    let one : Bool = g 0 0 (suc m) in
    let two : Bool = odd_by (λ p. g 0 (suc p.0) p.1) (splits m) in
    let three : Bool = odd_by (λ p. odd_by (λ q. g (suc p.0) q.0 q.1) (splits p.1)) (splits m) in
    let rest : odd_by (λ p. odd_by (λ q. g q.0 q.1 p.1) (splits p.0)) (map one_lower (splits m)) ≡ plus two three =
    odd_by-map (λ p. odd_by (λ q. g q.0 q.1 p.1) (splits p.0)) one_lower (splits m)
    ∙ odd_by-same (λ p. odd_by (λ q. g q.0 q.1 p.1) (splits (suc p.0))) (λ p. plus (g 0 (suc p.0) p.1) (odd_by (λ q. g (suc q.0) q.1 p.1) (splits p.0))) (splits m) (λ p. ap (plus (g 0 (suc p.0) p.1)) (odd_by-map (λ q. g q.0 q.1 p.1) one_lower (splits p.0)))
    ∙ odd_by-plus (λ p. g 0 (suc p.0) p.1) (λ p. odd_by (λ q. g (suc q.0) q.1 p.1) (splits p.0)) (splits m)
    ∙ ap (plus two) (splits-twice (λ i j k. g (suc i) j k) m) in
    let first : odd_by (λ q. g 0 q.0 q.1) (splits (suc m)) ≡ plus one two = ap (plus one) (odd_by-map (λ q. g 0 q.0 q.1) one_lower (splits m)) in
    let last : odd_by (λ p. odd_by (λ q. g p.0 q.0 q.1) (splits p.1)) (map one_lower (splits m)) ≡ three = odd_by-map (λ p. odd_by (λ q. g p.0 q.0 q.1) (splits p.1)) one_lower (splits m) in
    ap (plus (plus one false)) rest
    ∙ ap (λ b. plus b (plus two three)) (plus-false one)
    ∙ sym (plus-assoc one two three)
    ∙ sym (ap (λ b. plus b (odd_by (λ p. odd_by (λ q. g p.0 q.0 q.1) (splits p.1)) (map one_lower (splits m)))) first ∙ ap (plus (plus one two)) last)
