-- Products of vectors place by place, summed; of a combination at a place, and of values at pivots.
use Rattle.std.proofs.Common.{◌≡◌, ◌≢◌, ℕ, zero, suc, ◌<◌, Bool, true, false, ◌&&◌, List, [], ◌∷◌, length, map, refl, ap, sym, ◌∙◌, arith}
use Rattle.std.proofs.lemmas.Bool.{eq-eqb, ne_eqb}
use Rattle.std.proofs.lemmas.List.{length-map}
use Rattle.std.proofs.Math.Bool.{and-false, and-true, and_comm}
use Rattle.f2_vec.specs.Vectors.{plus, sum_of, zeros, bit, IsZero}
use Rattle.f2_vec.proofs.Sums.{bit-zeros, bit-sum_of, plus-assoc, plus-comm, plus-false}
use Rattle.f2_vec.specs.Spans.{row, HaveWidth, combination, unit_vector, IsInSpan}
use Rattle.f2_vec.proofs.Spans.{HaveWidth-tail, HaveWidth-head, length-combination, bit-combination-cons}
use Rattle.f2_vec.proofs.Split.{bit-unit_vector}
use Rattle.f2_matrix.specs.Preimages.{pivot_of, at_pivots}
pub use Rattle.f2_choice.specs.Inside.Dots.{dot}
use Rattle.f2_choice.specs.Inside.Columns.{column}

pub dot-comm : (xs ys : List Bool) → dot xs ys ≡ dot ys xs
dot-comm [] [] = refl
dot-comm [] (y ∷ ys) = refl
dot-comm (x ∷ xs) [] = refl
dot-comm (x ∷ xs) (y ∷ ys) = cc (and_comm x y, dot-comm xs ys)

-- a combination at a place
pub bit-combination-dot : (n : ℕ) (c : List Bool) (rows : List (List Bool)) (k : ℕ) → HaveWidth n rows → bit (combination n c rows) k ≡ dot c (column k rows)
bit-combination-dot n [] rows k w = bit-zeros n k
bit-combination-dot n (c ∷ cs) [] k w = bit-zeros n k
bit-combination-dot n (false ∷ cs) (r ∷ rows) k w = bit-combination-dot n cs rows k (HaveWidth-tail n r rows w)
bit-combination-dot n (true ∷ cs) (r ∷ rows) k w =
    bit-combination-cons n cs r rows k w ∙ ap (plus (bit r k)) (bit-combination-dot n cs rows k (HaveWidth-tail n r rows w))

-- where no place has a 1 in both
pub dot_none : (c ys : List Bool) → ((j : ℕ) → (bit c j && bit ys j) ≡ false) → dot c ys ≡ false
dot_none [] ys h = refl
dot_none (c ∷ cs) [] h = refl
dot_none (c ∷ cs) (y ∷ ys) h = ap (λ b. plus b (dot cs ys)) (h zero) ∙ dot_none cs ys (λ j. h (suc j))

pub dot_zero : (c ys : List Bool) → IsZero ys → dot c ys ≡ false
dot_zero c ys z = dot_none c ys (λ j. ap (λ b. bit c j && b) (z j) ∙ and-false (bit c j))

-- where no place but i has
pub dot_at : (c ys : List Bool) (i : ℕ) → ((j : ℕ) → j ≢ i → (bit c j && bit ys j) ≡ false) → dot c ys ≡ (bit c i && bit ys i)
dot_at [] ys i h = refl
dot_at (c ∷ cs) [] i h = sym (and-false (bit (c ∷ cs) i))
dot_at (c ∷ cs) (y ∷ ys) zero h =
    ap (plus (c && y)) (dot_none cs ys (λ j. h (suc j) (λ e. omega arith))) ∙ plus-false (c && y)
dot_at (c ∷ cs) (y ∷ ys) (suc i) h =
    ap (λ b. plus b (dot cs ys)) (h zero (λ e. omega arith)) ∙ dot_at cs ys i (λ j d. h (suc j) (λ e. d (omega arith)))

-- no place where the second has a 1 but i
pub dot_only : (c ys : List Bool) (i : ℕ) → ((j : ℕ) → j ≢ i → bit ys j ≡ false) → bit ys i ≡ true → dot c ys ≡ bit c i
dot_only c ys i h one =
    dot_at c ys i (λ j d. ap (λ b. bit c j && b) (h j d) ∙ and-false (bit c j)) ∙ ap (λ b. bit c i && b) one ∙ and-true (bit c i)

pub dot-unit : (c : List Bool) (n i : ℕ) → i < n → dot c (unit_vector n i) ≡ bit c i
dot-unit c n i l =
    dot_only c (unit_vector n i) i (λ j d. bit-unit_vector n i j l ∙ ne_eqb j i d) (bit-unit_vector n i i l ∙ eq-eqb i i refl)

pub dot-sum_of : (c u v : List Bool) → length u ≡ length v → dot c (sum_of u v) ≡ plus (dot c u) (dot c v)
dot-sum_of [] u v e = refl
dot-sum_of (c ∷ cs) [] [] e = refl
dot-sum_of (c ∷ cs) [] (y ∷ ys) e = absurd (omega arith)
dot-sum_of (c ∷ cs) (x ∷ xs) [] e = absurd (omega arith)
dot-sum_of (c ∷ cs) (x ∷ xs) (y ∷ ys) e =
    ap (plus (c && plus x y)) (dot-sum_of cs xs ys (omega arith)) ∙ crossed c x y (dot cs xs) (dot cs ys)
  where
    crossed : (c x y a b : Bool) → plus (c && plus x y) (plus a b) ≡ plus (plus (c && x) a) (plus (c && y) b)
    crossed false x y a b = refl
    crossed true x y a b = cc (plus-assoc x y (plus a b), plus-assoc x a (plus y b), plus-assoc y a b, plus-assoc a y b, plus-comm a y)

-- ---- values at pivots

pub at_pivots-sum_of : (rows : List (List Bool)) (u v : List Bool) → length u ≡ length v → at_pivots rows (sum_of u v) ≡ sum_of (at_pivots rows u) (at_pivots rows v)
at_pivots-sum_of [] u v e = refl
at_pivots-sum_of (r ∷ rows) u v e = cc (bit-sum_of u v (pivot_of r) e, at_pivots-sum_of rows u v e)

pub at_pivots-zeros : (rows : List (List Bool)) (n : ℕ) → IsZero (at_pivots rows (zeros n))
at_pivots-zeros [] n i = refl
at_pivots-zeros (r ∷ rows) n zero = bit-zeros n (pivot_of r)
at_pivots-zeros (r ∷ rows) n (suc i) = at_pivots-zeros rows n i

-- the product of y with the values of v at the pivots, and of a combination
abbrev pub pairing : List (List Bool) → List Bool → List Bool → Bool
pairing rows y v = dot y (at_pivots rows v)

pub pairing-zeros : (rows : List (List Bool)) (y : List Bool) (n : ℕ) → pairing rows y (zeros n) ≡ false
pairing-zeros rows y n = dot_zero y (at_pivots rows (zeros n)) (at_pivots-zeros rows n)

pub pairing-combination : (rows : List (List Bool)) (y : List Bool) (n : ℕ) (c : List Bool) (xs : List (List Bool)) → HaveWidth n xs → pairing rows y (combination n c xs) ≡ dot c (map (pairing rows y) xs)
pairing-combination rows y n [] xs w = pairing-zeros rows y n
pairing-combination rows y n (c ∷ cs) [] w = pairing-zeros rows y n
pairing-combination rows y n (false ∷ cs) (x ∷ xs) w = pairing-combination rows y n cs xs (HaveWidth-tail n x xs w)
pairing-combination rows y n (true ∷ cs) (x ∷ xs) w =
    let t = HaveWidth-tail n x xs w in
    let u = combination n cs xs in
    let e : length x ≡ length u = HaveWidth-head n x xs w ∙ sym (length-combination n cs xs t) in
    ap (dot y) (at_pivots-sum_of rows x u e)
    ∙ dot-sum_of y (at_pivots rows x) (at_pivots rows u) (length-map rows (λ r. bit x (pivot_of r)) ∙ sym (length-map rows (λ r. bit u (pivot_of r))))
    ∙ ap (plus (pairing rows y x)) (pairing-combination rows y n cs xs t)

-- a sum of rows to each of which y is orthogonal
pub pairing_none : (rows : List (List Bool)) (y : List Bool) (n : ℕ) (xs : List (List Bool)) (v : List Bool) → HaveWidth n xs → ((i : ℕ) → i < length xs → pairing rows y (row xs i) ≡ false) → IsInSpan n xs v → pairing rows y v ≡ false
pairing_none rows y n xs v w h s =
    let f : List Bool → Bool = pairing rows y in
    ap f (sym s.sum) ∙ pairing-combination rows y n s.coefficients xs w ∙ dot_zero s.coefficients (map f xs) (none xs h)
  where
    none : (xs : List (List Bool)) → ((i : ℕ) → i < length xs → pairing rows y (row xs i) ≡ false) → IsZero (map (pairing rows y) xs)
    none [] h i = refl
    none (x ∷ xs) h zero = h zero (omega arith)
    none (x ∷ xs) h (suc i) = none xs (λ j l. h (suc j) (omega arith)) i
