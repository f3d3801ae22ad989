-- Sums of a function's first values, and of a function of two numbers by rows, by columns and by diagonals.
use Rattle.std.specs.Prelude.{map}
use Rattle.std.specs.List.{sum, range_with_len}
use Rattle.std.proofs.Common.{◌≡◌, ℕ, zero, suc, ◌+◌, ◌-◌, ◌*◌, ◌<◌, ◌≤◌, inl, inr, refl, ap, sym, ◌∙◌, arith, add-mul}
use Rattle.std.proofs.lemmas.Bool.{cases_lt}
use Rattle.milnor_basis.proofs.Kummer.{sum-cons}

-- f 0 + f 1 + .. + f (n - 1)
abbrev pub total : ℕ → (ℕ → ℕ) → ℕ
total zero f = 0
total (suc n) f = f 0 + total n (λ k. f (suc k))

pub total-same : (n : ℕ) (f g : ℕ → ℕ) → ((k : ℕ) → k < n → f k ≡ g k) → total n f ≡ total n g
total-same zero f g h = refl
total-same (suc n) f g h =
    omega (arith, h 0 (omega arith), total-same n (λ k. f (suc k)) (λ k. g (suc k)) (λ k l. h (suc k) (omega arith)))

pub total-none : (n : ℕ) (f : ℕ → ℕ) → ((k : ℕ) → k < n → f k ≡ 0) → total n f ≡ 0
total-none zero f h = refl
total-none (suc n) f h = omega (arith, h 0 (omega arith), total-none n (λ k. f (suc k)) (λ k l. h (suc k) (omega arith)))

pub total-add : (n : ℕ) (f g : ℕ → ℕ) → total n (λ k. f k + g k) ≡ total n f + total n g
total-add zero f g = refl
total-add (suc n) f g = omega (arith, total-add n (λ k. f (suc k)) (λ k. g (suc k)))

pub total-times : (n : ℕ) (f : ℕ → ℕ) (c : ℕ) → total n (λ k. f k * c) ≡ total n f * c
total-times zero f c = omega arith
total-times (suc n) f c =
    let more : total n (λ k. f (suc k) * c) ≡ total n (λ k. f (suc k)) * c = total-times n (λ k. f (suc k)) c in
    let both : (f 0 + total n (λ k. f (suc k))) * c ≡ f 0 * c + total n (λ k. f (suc k)) * c = add-mul (f 0) (total n (λ k. f (suc k))) c in
    omega arith

pub total-push : (n : ℕ) (f : ℕ → ℕ) → total (suc n) f ≡ total n f + f n
total-push zero f = omega arith
total-push (suc n) f = omega (arith, total-push n (λ k. f (suc k)))

-- a function that is 0 from n on has the same sum past n
pub total-past : (m n : ℕ) (f : ℕ → ℕ) → n ≤ m → ((k : ℕ) → n ≤ k → f k ≡ 0) → total m f ≡ total n f
total-past m zero f l h = total-none m f (λ k p. h k (omega arith))
total-past zero (suc n) f l h = absurd (omega arith)
total-past (suc m) (suc n) f l h = ap (λ s. f 0 + s) (total-past m n (λ k. f (suc k)) (omega arith) (λ k p. h (suc k) (omega arith)))

-- the sum by rows is the sum by columns
pub total-swap : (m n : ℕ) (g : ℕ → ℕ → ℕ) → total m (λ i. total n (λ j. g i j)) ≡ total n (λ j. total m (λ i. g i j))
total-swap zero n g = sym (total-none n (λ j. 0) (λ k p. refl))
total-swap (suc m) n g =
    ap (λ s. total n (g 0) + s) (total-swap m n (λ i j. g (suc i) j)) ∙ sym (total-add n (g 0) (λ j. total m (λ i. g (suc i) j)))

-- the sum of g i j with i + j = k
abbrev pub diagonal_total : (ℕ → ℕ → ℕ) → ℕ → ℕ
diagonal_total g k = total (suc k) (λ i. g i (k - i))

diagonal_total-suc : (g : ℕ → ℕ → ℕ) (k : ℕ) → diagonal_total g (suc k) ≡ g 0 (suc k) + diagonal_total (λ i j. g (suc i) j) k
diagonal_total-suc g k =
    let first : g 0 (suc k - 0) ≡ g 0 (suc k) = ap (g 0) (omega arith) in
    let rest : total (suc k) (λ i. g (suc i) (suc k - suc i)) ≡ total (suc k) (λ i. g (suc i) (k - i)) = total-same (suc k) (λ i. g (suc i) (suc k - suc i)) (λ i. g (suc i) (k - i)) (λ i l. ap (g (suc i)) (omega arith)) in
    ap (λ a. a + total (suc k) (λ i. g (suc i) (suc k - suc i))) first ∙ ap (λ b. g 0 (suc k) + b) rest

-- the first row apart from the others
diagonals-row : (n : ℕ) (g : ℕ → ℕ → ℕ) → total (suc n) (diagonal_total g) ≡ total (suc n) (g 0) + total n (diagonal_total (λ i j. g (suc i) j))
diagonals-row n g =
    let one : diagonal_total g 0 ≡ g 0 0 = omega arith in
    let more : total n (λ k. diagonal_total g (suc k)) ≡ total n (λ k. g 0 (suc k) + diagonal_total (λ i j. g (suc i) j) k) = total-same n (λ k. diagonal_total g (suc k)) (λ k. g 0 (suc k) + diagonal_total (λ i j. g (suc i) j) k) (λ k l. diagonal_total-suc g k) in
    let split : total n (λ k. g 0 (suc k) + diagonal_total (λ i j. g (suc i) j) k) ≡ total n (λ k. g 0 (suc k)) + total n (diagonal_total (λ i j. g (suc i) j)) = total-add n (λ k. g 0 (suc k)) (diagonal_total (λ i j. g (suc i) j)) in
    ap (λ a. a + total n (λ k. diagonal_total g (suc k))) one ∙ ap (λ b. g 0 0 + b) (more ∙ split) ∙ omega arith

-- the sum by diagonals is the sum by rows, for what is 0 from row m and from column n on
pub diagonals-total : (m n : ℕ) (g : ℕ → ℕ → ℕ) → ((i j : ℕ) → m ≤ i → g i j ≡ 0) → ((i j : ℕ) → n ≤ j → g i j ≡ 0) → total (m + n) (diagonal_total g) ≡ total m (λ i. total n (g i))
diagonals-total zero n g low left = total-none (zero + n) (diagonal_total g) (λ k l. total-none (suc k) (λ i. g i (k - i)) (λ i p. low i (k - i) (omega arith)))
diagonals-total (suc m) n g low left =
    let e : suc m + n ≡ suc (m + n) = omega arith in
    ap (λ k. total k (diagonal_total g)) e
    ∙ diagonals-row (m + n) g
    ∙ ap (λ a. a + total (m + n) (diagonal_total (λ i j. g (suc i) j))) (total-past (suc (m + n)) n (g 0) (omega arith) (left 0))
    ∙ ap (λ b. total n (g 0) + b) (diagonals-total m n (λ i j. g (suc i) j) (λ i j l. low (suc i) j (omega arith)) (λ i j l. left (suc i) j l))

-- the same for rows 0 to m and columns 0 to n, all but (0, 0): only diagonals 1 to m + n count
pub diagonals-inside : (m n : ℕ) (g : ℕ → ℕ → ℕ) → g 0 0 ≡ 0 → ((i j : ℕ) → m < i → g i j ≡ 0) → ((i j : ℕ) → n < j → g i j ≡ 0) → total (m + n) (λ k. diagonal_total g (suc k)) ≡ total (suc m) (λ i. total (suc n) (g i))
diagonals-inside m n g corner low left =
    let e : suc m + suc n ≡ suc (suc (m + n)) = omega arith in
    let whole : total (suc (suc (m + n))) (diagonal_total g) ≡ total (suc m) (λ i. total (suc n) (g i)) = ap (λ k. total k (diagonal_total g)) (sym e) ∙ diagonals-total (suc m) (suc n) g (λ i j l. low i j (omega arith)) (λ i j l. left i j (omega arith)) in
    let ends : total (suc (m + n)) (λ k. diagonal_total g (suc k)) ≡ total (m + n) (λ k. diagonal_total g (suc k)) + diagonal_total g (suc (m + n)) = total-push (m + n) (λ k. diagonal_total g (suc k)) in
    let last : diagonal_total g (suc (m + n)) ≡ 0 = total-none (suc (suc (m + n))) (λ i. g i (suc (m + n) - i)) (λ i l. elim (cases_lt m i) [ inl p ↦ low i (suc (m + n) - i) p | inr p ↦ left i (suc (m + n) - i) (omega arith) ]) in
    omega arith

-- a sum over a range
pub sum-range_with_len : (a n : ℕ) (f : ℕ → ℕ) → sum (map f (range_with_len a n)) ≡ total n (λ k. f (a + k))
sum-range_with_len a zero f = refl
sum-range_with_len a (suc n) f =
    let first : f a ≡ f (a + 0) = ap f (omega arith) in
    let rest : total n (λ k. f (a + 1 + k)) ≡ total n (λ k. f (a + suc k)) = total-same n (λ k. f (a + 1 + k)) (λ k. f (a + suc k)) (λ k l. ap f (omega arith)) in
    omega (arith, sum-cons (f a) (map f (range_with_len (a + 1) n)), sum-range_with_len (a + 1) n f)

pub sum-first : (n : ℕ) (f : ℕ → ℕ) → sum (map f (range_with_len 0 (n + 1))) ≡ total (suc n) f
sum-first n f =
    let e : n + 1 ≡ suc n = omega arith in
    sum-range_with_len 0 (n + 1) f ∙ ap (λ k. total k (λ i. f (0 + i))) e ∙ total-same (suc n) (λ i. f (0 + i)) f (λ i l. ap f (omega arith))
