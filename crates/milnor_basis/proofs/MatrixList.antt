-- The matrices that a product sums over, and what holds of each of them.
use Rattle.std.specs.Prelude.{◌&&◌, nat_eq, map}
use Rattle.std.specs.List.{All, count_by, filter, flat_map, list_all, range_with_len}
use Rattle.std.proofs.Common.{◌≡◌, ℕ, zero, suc, ◌+◌, ◌<◌, ◌≤◌, inl, inr, Bool, true, false, cond, List, [], ◌∷◌, refl, ap, sym, ◌∙◌, arith, zero-add}
use Rattle.std.proofs.lemmas.Bool.{and_from, and_parts, cases_Bool, cond-false, cond-true, eq-eqb, eqb-true, false_from_ne_true, false≢true}
use Rattle.std.proofs.lemmas.List.Elements.{All-append, All-cons, All-head, All-map, All-nil, All-tail, All-weaker}
use Rattle.std.proofs.lemmas.List.Sums.{sum_by-cons}
use Rattle.milnor_basis.specs.Product.{Matrix, is_odd, matrices, places, put, zero_matrix}

-- a matrix that is 0 outside rows 0 to m and columns 0 to n, and at (0, 0)
pub record IsInside (m n : ℕ) (x : Matrix) : Type 0 where
  pub corner : x 0 0 ≡ 0
  pub below : (i j : ℕ) → m < i → x i j ≡ 0
  pub right : (i j : ℕ) → n < j → x i j ≡ 0

-- a place of those rows and columns that is not (0, 0)
pub record IsPlace (m n : ℕ) (p : ℕ × ℕ) : Type 0 where
  pub not_corner : 0 < p.0 + p.1
  pub row : p.0 ≤ m
  pub column : p.1 ≤ n

pub All-flat_map : {X Y : Type 0} (P : Y → Type 0) (f : X → List Y) (xs : List X) → All (λ x. All P (f x)) xs → All P (flat_map f xs)
All-flat_map {X} {Y} P f [] h = All-nil P
All-flat_map {X} {Y} P f (x ∷ xs) h =
    All-append P (f x) (flat_map f xs) (All-head (λ y. All P (f y)) x xs h) (All-flat_map P f xs (All-tail (λ y. All P (f y)) x xs h))

pub All-range : (P : ℕ → Type 0) (a n : ℕ) → ((k : ℕ) → a ≤ k → k < a + n → P k) → All P (range_with_len a n)
All-range P a zero h = All-nil P
All-range P a (suc n) h =
    All-cons P a (range_with_len (a + 1) n) (h a (omega arith) (omega arith)) (All-range P (a + 1) n (λ k l m. h k (omega arith) (omega arith)))

-- what passes a filter passed its test
pub All-passed : {X : Type 0} (p : X → Bool) (P Q : X → Type 0) → ((x : X) → P x → p x ≡ true → Q x) → (xs : List X) → All P xs → All Q (filter p xs)
All-passed p P Q f [] h = All-nil Q
All-passed p P Q f (x ∷ xs) h = at (p x) refl (All-passed p P Q f xs (All-tail P x xs h))
  where
    at : (b : Bool) → p x ≡ b → All Q (filter p xs) → All Q (cond b (x ∷ filter p xs) (filter p xs))
    at true e rest = All-cons Q x (filter p xs) (f x (All-head P x xs h) e) rest
    at false e rest = rest

-- an odd count has an element
pub odd_found : {X : Type 0} (p : X → Bool) (P : X → Type 0) (xs : List X) → All P xs → is_odd (count_by p xs) ≡ true → (x : X) × P x × (p x ≡ true)
odd_found p P [] h e = absurd (false≢true e)
odd_found p P (x ∷ xs) h e = elim (cases_Bool (p x)) [
  | inl passed ↦ (x, All-head P x xs h, passed)
  | inr failed ↦
      let same : count_by p (x ∷ xs) ≡ count_by p xs = sum_by-cons (λ y. cond (p y) 1 0) x xs ∙ ap (λ b. cond b 1 0 + count_by p xs) failed ∙ zero-add (count_by p xs) in
      odd_found p P xs (All-tail P x xs h) (ap is_odd (sym same) ∙ e)
]

pub put-other : (i j v : ℕ) (x : Matrix) (a b : ℕ) → (a ≡ i → b ≡ j → ⊥) → put i j v x a b ≡ x a b
put-other i j v x a b h =
    cond-false (nat_eq a i && nat_eq b j) v (x a b) (false_from_ne_true (nat_eq a i && nat_eq b j) (λ e. let both = and_parts (nat_eq a i) (nat_eq b j) e in h (eqb-true a i both.0) (eqb-true b j both.1)))

pub IsInside-put : (m n : ℕ) (p : ℕ × ℕ) (v : ℕ) (x : Matrix) → IsPlace m n p → IsInside m n x → IsInside m n (put p.0 p.1 v x)
IsInside-put m n p v x place inside = record {
  corner = put-other p.0 p.1 v x 0 0 (λ e f. omega (arith, place.not_corner)) ∙ inside.corner;
  below = λ i j l. put-other p.0 p.1 v x i j (λ e f. omega (arith, place.row)) ∙ inside.below i j l;
  right = λ i j l. put-other p.0 p.1 v x i j (λ e f. omega (arith, place.column)) ∙ inside.right i j l;
}

matrices-inside : (m n bound : ℕ) (ps : List (ℕ × ℕ)) → All (IsPlace m n) ps → All (IsInside m n) (matrices ps bound)
matrices-inside m n bound [] h =
    All-cons (IsInside m n) zero_matrix [] (record { corner = refl; below = λ i j l. refl; right = λ i j l. refl }) (All-nil (IsInside m n))
matrices-inside m n bound (p ∷ ps) h =
    All-flat_map (IsInside m n) (λ x. map (λ v. put p.0 p.1 v x) (range_with_len 0 bound)) (matrices ps bound)
    (All-weaker (IsInside m n) (λ x. All (IsInside m n) (map (λ v. put p.0 p.1 v x) (range_with_len 0 bound)))
    (λ x inside. All-map (IsInside m n) (λ v. put p.0 p.1 v x) (range_with_len 0 bound) (All-range (λ v. IsInside m n (put p.0 p.1 v x)) 0 bound (λ v l k. IsInside-put m n p v x (All-head (IsPlace m n) p ps h) inside)))
    (matrices ps bound) (matrices-inside m n bound ps (All-tail (IsPlace m n) p ps h)))

places-inside : (m n : ℕ) → All (IsPlace m n) (places m n)
places-inside m n =
    All-append (IsPlace m n) (map (λ j. (0, j)) (range_with_len 1 n)) (flat_map (λ i. map (λ j. (i, j)) (range_with_len 0 (n + 1))) (range_with_len 1 m))
    (All-map (IsPlace m n) (λ j. (0, j)) (range_with_len 1 n) (All-range (λ j. IsPlace m n (0, j)) 1 n (λ j l k. record { not_corner = omega arith; row = omega arith; column = omega arith })))
    (All-flat_map (IsPlace m n) (λ i. map (λ j. (i, j)) (range_with_len 0 (n + 1))) (range_with_len 1 m)
    (All-range (λ i. All (IsPlace m n) (map (λ j. (i, j)) (range_with_len 0 (n + 1)))) 1 m
    (λ i l k. All-map (IsPlace m n) (λ j. (i, j)) (range_with_len 0 (n + 1)) (All-range (λ j. IsPlace m n (i, j)) 0 (n + 1) (λ j p q. record { not_corner = omega arith; row = omega arith; column = omega arith })))))

-- each matrix that a product sums over is inside its rows and columns
pub product-matrices-inside : (m n bound : ℕ) → All (IsInside m n) (matrices (places m n) bound)
product-matrices-inside m n bound = matrices-inside m n bound (places m n) (places-inside m n)

-- ranges over which two functions or tests agree
pub map-range_same : {X : Type 0} (f g : ℕ → X) (a n : ℕ) → ((k : ℕ) → a ≤ k → k < a + n → f k ≡ g k) → map f (range_with_len a n) ≡ map g (range_with_len a n)
map-range_same f g a zero h = refl
map-range_same f g a (suc n) h =
    ap (λ x. x ∷ map f (range_with_len (a + 1) n)) (h a (omega arith) (omega arith)) ∙ ap (λ xs. g a ∷ xs) (map-range_same f g (a + 1) n (λ k l m. h k (omega arith) (omega arith)))

pub all-range_same : (p q : ℕ → Bool) (a n : ℕ) → ((k : ℕ) → a ≤ k → k < a + n → p k ≡ q k) → list_all p (range_with_len a n) ≡ list_all q (range_with_len a n)
all-range_same p q a zero h = refl
all-range_same p q a (suc n) h =
    ap (λ x. x && list_all p (range_with_len (a + 1) n)) (h a (omega arith) (omega arith)) ∙ ap (λ x. q a && x) (all-range_same p q (a + 1) n (λ k l m. h k (omega arith) (omega arith)))

-- what a number at one place leaves elsewhere
pub put-same : (i j v : ℕ) (x : Matrix) → put i j v x i j ≡ v
put-same i j v x = cond-true (nat_eq i i && nat_eq j j) v (x i j) (and_from (nat_eq i i) (nat_eq j j) (eq-eqb i i refl) (eq-eqb j j refl))

pub put-column : (i j v : ℕ) (x : Matrix) (a b : ℕ) → (b ≡ j → ⊥) → put i j v x a b ≡ x a b
put-column i j v x a b h = put-other i j v x a b (λ e f. h f)
