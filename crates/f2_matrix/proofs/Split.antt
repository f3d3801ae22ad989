-- The rows of [D | I], their parts left and right of the bar, and their combinations.
use Rattle.f2_vec.specs.Vectors.{sum_of, zeros, placed}
use Rattle.f2_vec.proofs.Sums.{length-zeros, sum_of-zeros_left}
use Rattle.std.proofs.lemmas.List.{set-append_right}
use Rattle.std.proofs.Common.{true, set, ◌-◌, ◌≡◌, ℕ, zero, suc, ◌+◌, ◌<◌, Bool, List, [], ◌∷◌, ◌++◌, length, map, take, drop, refl, ap, sym, ◌∙◌, arith}
use Rattle.std.specs.List.{zip}
use Rattle.std.proofs.lemmas.List.{length-append, take_at, drop_at, take_more}
use Rattle.f2_vec.specs.Spans.{row, HaveWidth, combination, unit_vector, unit_vectors}
use Rattle.f2_vec.proofs.Spans.{HaveWidth-head, HaveWidth-tail, HaveWidth-nil, HaveWidth-cons}
use Rattle.f2_vec.proofs.Split.{combination-split, row-unit_vectors, length-unit_vectors, HaveWidth-unit_vectors, combination-unit_vectors}
use Rattle.f2_matrix.specs.Reduction.{augmented}

-- the parts of the rows of [D | I]
beside_left : (n : ℕ) (xs us : List (List Bool)) → HaveWidth n xs → length xs ≡ length us → map (take n) (map (λ p. p.0 ++ p.1) (zip xs us)) ≡ xs
beside_left n [] us w e = refl
beside_left n (x ∷ xs) [] w e = cc
beside_left n (x ∷ xs) (u ∷ us) w e =
    let head : take n (x ++ u) ≡ x = take_at x u n (HaveWidth-head n x xs w) in
    let tail : map (take n) (map (λ p. p.0 ++ p.1) (zip xs us)) ≡ xs = beside_left n xs us (HaveWidth-tail n x xs w) (omega arith) in
    cc

beside_right : (n : ℕ) (xs us : List (List Bool)) → HaveWidth n xs → length xs ≡ length us → map (drop n) (map (λ p. p.0 ++ p.1) (zip xs us)) ≡ us
beside_right n [] [] w e = refl
beside_right n [] (u ∷ us) w e = cc
beside_right n (x ∷ xs) [] w e = cc
beside_right n (x ∷ xs) (u ∷ us) w e =
    let head : drop n (x ++ u) ≡ u = drop_at x u n (HaveWidth-head n x xs w) in
    let tail : map (drop n) (map (λ p. p.0 ++ p.1) (zip xs us)) ≡ us = beside_right n xs us (HaveWidth-tail n x xs w) (omega arith) in
    cc

pub augmented_left : (n : ℕ) (xs : List (List Bool)) → HaveWidth n xs → map (take n) (augmented xs) ≡ xs
augmented_left n xs w = beside_left n xs (unit_vectors (length xs)) w (sym (length-unit_vectors (length xs)))

pub augmented_right : (n : ℕ) (xs : List (List Bool)) → HaveWidth n xs → map (drop n) (augmented xs) ≡ unit_vectors (length xs)
augmented_right n xs w = beside_right n xs (unit_vectors (length xs)) w (sym (length-unit_vectors (length xs)))

beside_widths : (n m : ℕ) (xs us : List (List Bool)) → HaveWidth n xs → HaveWidth m us → HaveWidth (n + m) (map (λ p. p.0 ++ p.1) (zip xs us))
beside_widths n m [] us w v = HaveWidth-nil (n + m)
beside_widths n m (x ∷ xs) [] w v = HaveWidth-nil (n + m)
beside_widths n m (x ∷ xs) (u ∷ us) w v =
    let a : length x ≡ n = HaveWidth-head n x xs w in
    let b : length u ≡ m = HaveWidth-head m u us v in
    HaveWidth-cons (n + m) (x ++ u) (map (λ p. p.0 ++ p.1) (zip xs us)) (length-append x u ∙ omega arith) (beside_widths n m xs us (HaveWidth-tail n x xs w) (HaveWidth-tail m u us v))

pub HaveWidth-augmented : (n : ℕ) (xs : List (List Bool)) → HaveWidth n xs → HaveWidth (n + length xs) (augmented xs)
HaveWidth-augmented n xs w = beside_widths n (length xs) xs (unit_vectors (length xs)) w (HaveWidth-unit_vectors (length xs))

pub length-augmented : (xs : List (List Bool)) → length (augmented xs) ≡ length xs
length-augmented xs = length_beside xs (unit_vectors (length xs)) (sym (length-unit_vectors (length xs)))
  where
    length_beside : (xs us : List (List Bool)) → length xs ≡ length us → length (map (λ (p : List Bool × List Bool). p.0 ++ p.1) (zip xs us)) ≡ length xs
    length_beside [] us e = refl
    length_beside (x ∷ xs) [] e = cc
    length_beside (x ∷ xs) (u ∷ us) e = ap suc (length_beside xs us (omega arith))

-- a combination of the rows of [D | I] is that of the rows of D beside its coefficients
pub combination-augmented : (n : ℕ) (c : List Bool) (xs : List (List Bool)) → HaveWidth n xs → length c ≡ length xs → combination (n + length xs) c (augmented xs) ≡ combination n c xs ++ c
combination-augmented n c xs w e =
    combination-split n (length xs) c (augmented xs) (HaveWidth-augmented n xs w)
    ∙ ap (λ rows. combination n c rows ++ combination (length xs) c (map (drop n) (augmented xs))) (augmented_left n xs w)
    ∙ ap (λ rows. combination n c xs ++ combination (length xs) c rows) (augmented_right n xs w)
    ∙ ap (λ v. combination n c xs ++ v) (combination-unit_vectors (length xs) c e)

pub row-augmented : (xs : List (List Bool)) (i : ℕ) → i < length xs → row (augmented xs) i ≡ row xs i ++ unit_vector (length xs) i
row-augmented xs i l = row_beside xs (unit_vectors (length xs)) i l (omega (arith, length-unit_vectors (length xs))) ∙ ap (λ u. row xs i ++ u) (row-unit_vectors (length xs) i l)
  where
    row_beside : (xs us : List (List Bool)) (i : ℕ) → i < length xs → i < length us → row (map (λ (p : List Bool × List Bool). p.0 ++ p.1) (zip xs us)) i ≡ row xs i ++ row us i
    row_beside [] us i l m = absurd (omega arith)
    row_beside (x ∷ xs) [] i l m = absurd (omega arith)
    row_beside (x ∷ xs) (u ∷ us) zero l m = refl
    row_beside (x ∷ xs) (u ∷ us) (suc i) l m = row_beside xs us i (omega arith) (omega arith)

-- one row of [D | I] more
pub augmented_more : (xs ys new : List (List Bool)) (u : List Bool) (i : ℕ) → i < length xs → ys ≡ take i (augmented xs) → u ≡ row xs i ++ unit_vector (length xs) i → new ≡ ys ++ u ∷ [] → new ≡ take (i + 1) (augmented xs)
augmented_more xs ys new u i l e f g =
    g ∙ ap (λ x. x ++ u ∷ []) e ∙ ap (λ r. take i (augmented xs) ++ r ∷ []) (f ∙ sym (row-augmented xs i l)) ∙ sym (take_more (augmented xs) i [] (omega (arith, length-augmented xs)))

pub length-beside : (r : List Bool) (n len : ℕ) → len ≡ length r + n → length (sum_of (zeros len) (placed (length (zeros len)) 0 r)) ≡ len
length-beside r n len e =
    let lz : length (zeros len) ≡ len = length-zeros len in
    let rest : length (zeros len) - (0 + length r) ≡ n = omega (arith, lz) in
    let long : length (r ++ zeros n) ≡ len = length-append r (zeros n) ∙ omega (arith, length-zeros n) in
    ap (λ k. length (sum_of (zeros len) (r ++ zeros k))) rest ∙ ap length (sum_of-zeros_left len (r ++ zeros n) long) ∙ long

-- a row, moved into zeros, with a one behind it
pub unit_beside : (r : List Bool) (n i len : ℕ) → len ≡ length r + n → i < n → set (sum_of (zeros len) (placed (length (zeros len)) 0 r)) (length r + i) true ≡ r ++ unit_vector n i
unit_beside r n i len e h =
    let lz : length (zeros len) ≡ len = length-zeros len in
    let rest : length (zeros len) - (0 + length r) ≡ n = omega (arith, lz) in
    let long : length (r ++ zeros n) ≡ len = length-append r (zeros n) ∙ omega (arith, length-zeros n) in
    let back : (length r + i) - length r ≡ i = omega arith in
    ap (λ k. set (sum_of (zeros len) (r ++ zeros k)) (length r + i) true) rest
    ∙ ap (λ v. set v (length r + i) true) (sum_of-zeros_left len (r ++ zeros n) long)
    ∙ set-append_right r (zeros n) (length r) (length r + i) true refl (omega arith)
    ∙ ap (λ k. r ++ set (zeros n) k true) back
