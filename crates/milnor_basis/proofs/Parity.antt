-- Whether a count is odd.
use Rattle.std.proofs.Common.{◌≡◌, ℕ, zero, suc, ◌+◌, ◌<◌, ◌≤◌, ◌%◌, Bool, true, false, not, cond, ◌&&◌, List, [], ◌∷◌, ◌++◌, map, refl, sym, ◌∙◌, ap, arith, zero-add}
use Rattle.std.specs.List.{count_by, filter, flat_map, range_with_len}
use Rattle.std.proofs.lemmas.List.Sums.{sum_by-cons}
use Rattle.f2_vec.specs.Vectors.{plus}
use Rattle.f2_vec.proofs.Sums.{plus-assoc, plus-comm, plus-false}
use Rattle.milnor_basis.specs.Product.{is_odd, odd_by}
use Rattle.milnor_basis.specs.Inside.Walk.{is_odd_below}
use Rattle.milnor_basis.proofs.Ranges.{range-suc}

odd-suc : (n : ℕ) → is_odd (1 + n) ≡ not (is_odd n)
odd-suc n = elim-mod n (n % 2) refl where
  elim-mod : (n k : ℕ) → n % 2 ≡ k → is_odd (1 + n) ≡ not (is_odd n)
  elim-mod n zero e = let a : (1 + n) % 2 ≡ 1 = omega arith in rw (a, e) refl
  elim-mod n (suc zero) e = let a : (1 + n) % 2 ≡ 0 = omega arith in rw (a, e) refl
  elim-mod n (suc (suc k)) e = absurd (omega arith)

pub is_odd-count_by : {X : Type 0} → (p : X → Bool) (xs : List X) → is_odd (count_by p xs) ≡ odd_by p xs
is_odd-count_by p [] = refl
is_odd-count_by p (x ∷ xs) = rw (sum_by-cons (λ y. cond (p y) 1 0) x xs) (at (p x) (is_odd-count_by p xs)) where
  at : (b : Bool) → is_odd (count_by p xs) ≡ odd_by p xs → is_odd (cond b 1 0 + count_by p xs) ≡ plus b (odd_by p xs)
  at true e = odd-suc (count_by p xs) ∙ ap not e
  at false e = ap is_odd (zero-add (count_by p xs)) ∙ e

pub odd_by-append : {X : Type 0} → (p : X → Bool) (xs ys : List X) → odd_by p (xs ++ ys) ≡ plus (odd_by p xs) (odd_by p ys)
odd_by-append p [] ys = refl
odd_by-append p (x ∷ xs) ys = ap (plus (p x)) (odd_by-append p xs ys) ∙ sym (plus-assoc (p x) (odd_by p xs) (odd_by p ys))

pub odd_by-same : {X : Type 0} → (p q : X → Bool) (xs : List X) → ((x : X) → p x ≡ q x) → odd_by p xs ≡ odd_by q xs
odd_by-same p q [] h = refl
odd_by-same p q (x ∷ xs) h = ap (λ b. plus b (odd_by p xs)) (h x) ∙ ap (plus (q x)) (odd_by-same p q xs h)

pub odd_by-map : {X Y : Type 0} → (p : Y → Bool) (f : X → Y) (xs : List X) → odd_by p (map f xs) ≡ odd_by (λ x. p (f x)) xs
odd_by-map p f [] = refl
odd_by-map p f (x ∷ xs) = ap (plus (p (f x))) (odd_by-map p f xs)

pub odd_by-filter : {X : Type 0} → (p q : X → Bool) (xs : List X) → odd_by p (filter q xs) ≡ odd_by (λ x. q x && p x) xs
odd_by-filter p q [] = refl
odd_by-filter p q (x ∷ xs) = at (q x) (odd_by-filter p q xs) where
  at : (b : Bool) → odd_by p (filter q xs) ≡ odd_by (λ x. q x && p x) xs → odd_by p (cond b (x ∷ filter q xs) (filter q xs)) ≡ plus (b && p x) (odd_by (λ x. q x && p x) xs)
  at true e = ap (plus (p x)) e
  at false e = e

pub odd_by-flat_map : {X Y : Type 0} → (p : Y → Bool) (f : X → List Y) (xs : List X) → odd_by p (flat_map f xs) ≡ odd_by (λ x. odd_by p (f x)) xs
odd_by-flat_map p f [] = refl
odd_by-flat_map p f (x ∷ xs) = odd_by-append p (f x) (flat_map f xs) ∙ ap (plus (odd_by p (f x))) (odd_by-flat_map p f xs)

-- a count over 0 to n - 1
pub odd_by-range : (p : ℕ → Bool) (n : ℕ) → odd_by p (range_with_len 0 n) ≡ is_odd_below p n
odd_by-range p zero = refl
odd_by-range p (suc n) = let e : 0 + n ≡ n = omega arith in
    ap (odd_by p) (range-suc 0 n n e) ∙ odd_by-append p (range_with_len 0 n) (n ∷ []) ∙ plus-comm (odd_by p (range_with_len 0 n)) (plus (p n) false)
    ∙ ap (λ b. plus b (odd_by p (range_with_len 0 n))) (plus-false (p n)) ∙ ap (plus (p n)) (odd_by-range p n)

pub is_odd_below-same : (p q : ℕ → Bool) (n : ℕ) → ((v : ℕ) → v < n → p v ≡ q v) → is_odd_below p n ≡ is_odd_below q n
is_odd_below-same p q zero h = refl
is_odd_below-same p q (suc n) h = let here = h n (omega arith) in let rest = is_odd_below-same p q n (λ v l. h v (omega arith)) in cc

-- what holds nowhere below n is counted even
pub is_odd_below-none : (p : ℕ → Bool) (n : ℕ) → ((v : ℕ) → v < n → p v ≡ false) → is_odd_below p n ≡ false
is_odd_below-none p zero h = refl
is_odd_below-none p (suc n) h = let here = h n (omega arith) in let rest = is_odd_below-none p n (λ v l. h v (omega arith)) in rw (here, rest) refl

-- what holds nowhere from high on is counted below high
pub is_odd_below-up_to : (p : ℕ → Bool) (high more : ℕ) → ((v : ℕ) → high ≤ v → p v ≡ false) → is_odd_below p (more + high) ≡ is_odd_below p high
is_odd_below-up_to p high zero h = ap (is_odd_below p) (zero-add high)
is_odd_below-up_to p high (suc more) h = let e : suc more + high ≡ suc (more + high) = omega arith in
    let here = h (more + high) (omega arith) in
    ap (is_odd_below p) e ∙ ap (λ b. plus b (is_odd_below p (more + high))) here ∙ is_odd_below-up_to p high more h
