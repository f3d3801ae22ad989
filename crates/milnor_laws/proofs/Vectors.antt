-- Associativity of vectors.
use Rattle.std.specs.List.{All}
use Rattle.std.proofs.Common.{◌≡◌, ℕ, ◌+◌, ℤ, pos, negsuc, ◌+ℤ◌, Bool, true, false, ◌&&◌, if◌then◌else◌, List, [], ◌∷◌, map, length, refl, sym, ◌∙◌, ap, arith}
use Rattle.std.proofs.Math.Path.{fun_ext}
use Rattle.std.proofs.Math.Bool as Booleans
use Rattle.std.proofs.lemmas.Int.{ints}
use Rattle.std.proofs.lemmas.List.Elements.{All-cons, All-head, All-nil, All-tail}
use Rattle.f2_vec.specs.Spans.{combination}
use Rattle.f2_vec.specs.Vectors.{sum_of, zeros, plus}
use Rattle.f2_vec.proofs.Combinations.{map_same_all, combination-zero_rows}
use Rattle.f2_vec.proofs.Spans.{combination-zeros}
use Rattle.milnor_basis.specs.Exponents.{degree_of, IsTrimmed}
use Rattle.milnor_basis.specs.Basis.{basis_of}
use Rattle.milnor_basis.specs.Product.{coefficient, product_bits, odd_by}
use Rattle.milnor_basis.proofs.BasisLemmas.{All-basis_of}
use Rattle.milnor_basis.proofs.Parity.{odd_by-filter, odd_by-same}
use Rattle.milnor_product.specs.Times.{basis_at, times_at}
use Rattle.milnor_laws.specs.Laws.{ProductActs, ProductIsAssociativeInVectors}
use Rattle.milnor_laws.proofs.Associative.{associative, odd_by-same_all}
use Rattle.milnor_laws.proofs.SumsModTwo.{odd_by-and, odd_by-swap}

pub zeros-map : {Y : Type 0} → (ys : List Y) → zeros (length ys) ≡ map (λ y. false) ys
zeros-map [] = refl
zeros-map (y ∷ ys) = ap (λ v. false ∷ v) (zeros-map ys)

pub sum_of-map : {Y : Type 0} → (g h : Y → Bool) (ys : List Y) → sum_of (map g ys) (map h ys) ≡ map (λ y. plus (g y) (h y)) ys
sum_of-map g h [] = refl
sum_of-map g h (y ∷ ys) = ap (λ v. plus (g y) (h y) ∷ v) (sum_of-map g h ys)

-- a sum of rows that are given by a function of two places
pub combination-map : {X Y : Type 0} → (n : ℕ) (c : X → Bool) (f : X → Y → Bool) (xs : List X) (ys : List Y) → length ys ≡ n → combination n (map c xs) (map (λ x. map (f x) ys) xs) ≡ map (λ y. odd_by (λ x. c x && f x y) xs) ys
combination-map n c f [] ys e = ap zeros (sym e) ∙ zeros-map ys
combination-map n c f (x ∷ xs) ys e = at (c x) (combination-map n c f xs ys e)
  where
    at : (b : Bool) → combination n (map c xs) (map (λ z. map (f z) ys) xs) ≡ map (λ y. odd_by (λ z. c z && f z y) xs) ys
        → (if b then sum_of (map (f x) ys) (combination n (map c xs) (map (λ z. map (f z) ys) xs)) else combination n (map c xs) (map (λ z. map (f z) ys) xs)) ≡ map (λ y. plus (b && f x y) (odd_by (λ z. c z && f z y) xs)) ys
    at true rest = ap (sum_of (map (f x) ys)) rest ∙ sum_of-map (f x) (λ y. odd_by (λ z. c z && f z y) xs) ys
    at false rest = rest

module _ (r s q : List ℕ) where
  abbrev products : List (List ℕ)
  products = basis_of (degree_of r + degree_of s + degree_of q)

  right_vector : combination (length products) (product_bits s q) (map (product_bits r) (basis_of (degree_of s + degree_of q))) ≡ map (λ u. odd_by (λ t. coefficient s q t && coefficient r t u) (basis_of (degree_of s + degree_of q))) products
  right_vector =
      ap (combination (length products) (product_bits s q)) (map_same_all (λ t. IsTrimmed t × (degree_of t ≡ degree_of s + degree_of q)) (product_bits r) (λ t. map (coefficient r t) products) (basis_of (degree_of s + degree_of q)) (All-basis_of (degree_of s + degree_of q))
      (λ t h. let d = h.1 in let e : degree_of r + degree_of t ≡ degree_of r + degree_of s + degree_of q = omega arith in ap (λ n. map (coefficient r t) (basis_of n)) e))
      ∙ combination-map (length products) (coefficient s q) (λ t. coefficient r t) (basis_of (degree_of s + degree_of q)) products refl

  left_vector : combination (length products) (product_bits r s) (map (λ t. product_bits t q) (basis_of (degree_of r + degree_of s))) ≡ map (λ u. odd_by (λ t. coefficient r s t && coefficient t q u) (basis_of (degree_of r + degree_of s))) products
  left_vector =
      ap (combination (length products) (product_bits r s)) (map_same_all (λ t. IsTrimmed t × (degree_of t ≡ degree_of r + degree_of s)) (λ t. product_bits t q) (λ t. map (coefficient t q) products) (basis_of (degree_of r + degree_of s)) (All-basis_of (degree_of r + degree_of s))
      (λ t h. let d = h.1 in let e : degree_of t + degree_of q ≡ degree_of r + degree_of s + degree_of q = omega arith in ap (λ n. map (coefficient t q) (basis_of n)) e))
      ∙ combination-map (length products) (coefficient r s) (λ t. coefficient t q) (basis_of (degree_of r + degree_of s)) products refl

pub product_is_associative_in_vectors : ProductIsAssociativeInVectors
product_is_associative_in_vectors r s q =
    right_vector r s q
    ∙ ap (λ f. map f (basis_of (degree_of r + degree_of s + degree_of q))) (fun_ext (λ u.
    sym (odd_by-filter (λ t. coefficient r t u) (coefficient s q) (basis_of (degree_of s + degree_of q)))
    ∙ sym (associative r s q u)
    ∙ odd_by-filter (λ t. coefficient t q u) (coefficient r s) (basis_of (degree_of r + degree_of s))))
    ∙ sym (left_vector r s q)

-- A vector as pairs of basis elements and coefficients.

abbrev paired : {X : Type 0} → List X → List Bool → List (X × Bool)
paired [] vs = []
paired (x ∷ xs) [] = []
paired (x ∷ xs) (v ∷ vs) = (x, v) ∷ paired xs vs

paired-all : {X : Type 0} → (P : X → Type 0) (xs : List X) (vs : List Bool) → All P xs → All (λ p. P p.0) (paired xs vs)
paired-all P [] vs all = All-nil (λ p. P p.0)
paired-all P (x ∷ xs) [] all = All-nil (λ p. P p.0)
paired-all P (x ∷ xs) (v ∷ vs) all = All-cons (λ p. P p.0) (x, v) (paired xs vs) (All-head P x xs all) (paired-all P xs vs (All-tail P x xs all))

combination-paired : {X Y : Type 0} → (n : ℕ) (P : X → Type 0) (row : X → List Bool) (f : X → Y → Bool) (xs : List X) (vs : List Bool) (ys : List Y) → length ys ≡ n → length vs ≡ length xs → All P xs → ((x : X) → P x → row x ≡ map (f x) ys)
    → combination n vs (map row xs) ≡ map (λ y. odd_by (λ p. p.1 && f p.0 y) (paired xs vs)) ys
combination-paired n P row f [] [] ys e l all h = ap zeros (sym e) ∙ zeros-map ys
combination-paired n P row f [] (v ∷ vs) ys e l all h = absurd (omega arith)
combination-paired n P row f (x ∷ xs) [] ys e l all h = absurd (omega arith)
combination-paired n P row f (x ∷ xs) (v ∷ vs) ys e l all h =
    at v (h x (All-head P x xs all)) (combination-paired n P row f xs vs ys e (omega arith) (All-tail P x xs all) h)
  where
    at : (b : Bool) → row x ≡ map (f x) ys → combination n vs (map row xs) ≡ map (λ y. odd_by (λ p. p.1 && f p.0 y) (paired xs vs)) ys
        → (if b then sum_of (row x) (combination n vs (map row xs)) else combination n vs (map row xs)) ≡ map (λ y. plus (b && f x y) (odd_by (λ p. p.1 && f p.0 y) (paired xs vs))) ys
    at true first rest = ap (λ w. sum_of w (combination n vs (map row xs))) first ∙ ap (sum_of (map (f x) ys)) rest ∙ sum_of-map (f x) (λ y. odd_by (λ p. p.1 && f p.0 y) (paired xs vs)) ys
    at false first rest = rest

abbrev HasDegree : ℕ → List ℕ → Type 0
HasDegree n x = IsTrimmed x × (degree_of x ≡ n)

module _ (n : ℕ) (v : List Bool) (fits : length v ≡ length (basis_of n)) where
  -- the coefficient of Sq(U) in Sq(R) times v
  abbrev part : List ℕ → List ℕ → Bool
  part r u = odd_by (λ p. p.1 && coefficient r p.0 u) (paired (basis_of n) v)

  multiple-is : (r : List ℕ) (m : ℕ) → n + degree_of r ≡ m → combination (length (basis_of m)) v (map (product_bits r) (basis_of n)) ≡ map (part r) (basis_of m)
  multiple-is r m e =
      combination-paired (length (basis_of m)) (HasDegree n) (product_bits r) (coefficient r) (basis_of n) v (basis_of m) refl fits (All-basis_of n)
      (λ x h. let d = h.1 in let same : degree_of r + degree_of x ≡ m = omega arith in ap (λ k. map (coefficient r x) (basis_of k)) same)

  module _ (r s : List ℕ) where
    abbrev below : List (List ℕ)
    below = basis_of (n + degree_of s)

    abbrev factors : List (List ℕ)
    factors = basis_of (degree_of r + degree_of s)

    abbrev above : List (List ℕ)
    above = basis_of (n + degree_of s + degree_of r)

    one_by_one : times_at r (pos (n + degree_of s)) (times_at s (pos n) v) ≡ map (λ u. odd_by (λ t. part s t && coefficient r t u) below) above
    one_by_one =
        ap (times_at r (pos (n + degree_of s))) (multiple-is s (n + degree_of s) refl)
        ∙ ap (combination (length above) (map (part s) below)) (map_same_all (HasDegree (n + degree_of s)) (product_bits r) (λ t. map (coefficient r t) above) below (All-basis_of (n + degree_of s))
        (λ t h. let d = h.1 in let same : degree_of r + degree_of t ≡ n + degree_of s + degree_of r = omega arith in ap (λ k. map (coefficient r t) (basis_of k)) same))
        ∙ combination-map (length above) (part s) (λ t. coefficient r t) below above refl

    together : combination (length above) (product_bits r s) (map (λ t. times_at t (pos n) v) factors) ≡ map (λ u. odd_by (λ t. coefficient r s t && part t u) factors) above
    together =
        ap (combination (length above) (product_bits r s)) (map_same_all (HasDegree (degree_of r + degree_of s)) (λ t. times_at t (pos n) v) (λ t. map (part t) above) factors (All-basis_of (degree_of r + degree_of s))
        (λ t h. let d = h.1 in let same : n + degree_of t ≡ n + degree_of s + degree_of r = omega arith in multiple-is t (n + degree_of t) refl ∙ ap (λ k. map (part t) (basis_of k)) same))
        ∙ combination-map (length above) (coefficient r s) part factors above refl

    -- the parts of one basis element
    of_element : (u : List ℕ) (p : List ℕ × Bool) → HasDegree n p.0 → odd_by (λ t. (p.1 && coefficient s p.0 t) && coefficient r t u) below ≡ odd_by (λ t. coefficient r s t && (p.1 && coefficient t p.0 u)) factors
    of_element u p h =
        let d = h.1 in
        let same : n + degree_of s ≡ degree_of s + degree_of p.0 = omega arith in
        odd_by-same (λ t. (p.1 && coefficient s p.0 t) && coefficient r t u) (λ t. p.1 && (coefficient s p.0 t && coefficient r t u)) below (λ t. Booleans.and_assoc p.1 (coefficient s p.0 t) (coefficient r t u))
        ∙ odd_by-and p.1 (λ t. coefficient s p.0 t && coefficient r t u) below
        ∙ ap (λ k. p.1 && odd_by (λ t. coefficient s p.0 t && coefficient r t u) (basis_of k)) same
        ∙ ap (λ b. p.1 && b) (sym (odd_by-filter (λ t. coefficient r t u) (coefficient s p.0) (basis_of (degree_of s + degree_of p.0))) ∙ sym (associative r s p.0 u) ∙ odd_by-filter (λ t. coefficient t p.0 u) (coefficient r s) factors)
        ∙ sym (odd_by-and p.1 (λ t. coefficient r s t && coefficient t p.0 u) factors)
        ∙ odd_by-same (λ t. p.1 && (coefficient r s t && coefficient t p.0 u)) (λ t. coefficient r s t && (p.1 && coefficient t p.0 u)) factors (λ t. second_first p.1 (coefficient r s t) (coefficient t p.0 u))
      where
        second_first : (a b c : Bool) → (a && (b && c)) ≡ (b && (a && c))
        second_first true true c = refl
        second_first true false c = refl
        second_first false true c = refl
        second_first false false c = refl

    parts_agree : (u : List ℕ) → odd_by (λ t. part s t && coefficient r t u) below ≡ odd_by (λ t. coefficient r s t && part t u) factors
    parts_agree u =
        let ps : List (List ℕ × Bool) = paired (basis_of n) v in
        odd_by-same (λ t. part s t && coefficient r t u) (λ t. odd_by (λ p. (p.1 && coefficient s p.0 t) && coefficient r t u) ps) below
        (λ t. Booleans.and_comm (part s t) (coefficient r t u) ∙ sym (odd_by-and (coefficient r t u) (λ p. p.1 && coefficient s p.0 t) ps)
        ∙ odd_by-same (λ p. coefficient r t u && (p.1 && coefficient s p.0 t)) (λ p. (p.1 && coefficient s p.0 t) && coefficient r t u) ps (λ p. Booleans.and_comm (coefficient r t u) (p.1 && coefficient s p.0 t)))
        ∙ odd_by-swap (λ t p. (p.1 && coefficient s p.0 t) && coefficient r t u) below ps
        ∙ odd_by-same_all (λ p. HasDegree n p.0) (λ p. odd_by (λ t. (p.1 && coefficient s p.0 t) && coefficient r t u) below) (λ p. odd_by (λ t. coefficient r s t && (p.1 && coefficient t p.0 u)) factors) ps (paired-all (HasDegree n) (basis_of n) v (All-basis_of n)) (λ p h. of_element u p h)
        ∙ sym (odd_by-swap (λ t p. coefficient r s t && (p.1 && coefficient t p.0 u)) factors ps)
        ∙ odd_by-same (λ t. odd_by (λ p. coefficient r s t && (p.1 && coefficient t p.0 u)) ps) (λ t. coefficient r s t && part t u) factors (λ t. odd_by-and (coefficient r s t) (λ p. p.1 && coefficient t p.0 u) ps)

-- there is nothing of negative degree
acts_on_nothing : (r s : List ℕ) (n : ℕ) → times_at r (negsuc n +ℤ pos (degree_of s)) (times_at s (negsuc n) []) ≡ combination (length (basis_at (negsuc n +ℤ pos (degree_of r + degree_of s)))) (product_bits r s) (map (λ t. times_at t (negsuc n) []) (basis_of (degree_of r + degree_of s)))
acts_on_nothing r s n =
    let middle = negsuc n +ℤ pos (degree_of s) in
    let width : ℤ → ℕ = λ m. length (basis_at m) in
    let e : middle +ℤ pos (degree_of r) ≡ negsuc n +ℤ pos (degree_of r + degree_of s) = omega (arith, ints) in
    let w = width (negsuc n +ℤ pos (degree_of r + degree_of s)) in
    combination-zeros (width (middle +ℤ pos (degree_of r))) (width middle) (map (product_bits r) (basis_at middle))
    ∙ ap (λ m. zeros (width m)) e
    ∙ sym (combination-zero_rows w (product_bits r s) (basis_of (degree_of r + degree_of s)))
    ∙ ap (combination w (product_bits r s)) (map_same_all (HasDegree (degree_of r + degree_of s)) (λ t. zeros w) (λ t. times_at t (negsuc n) []) (basis_of (degree_of r + degree_of s)) (All-basis_of (degree_of r + degree_of s))
    (λ t h. ap (λ k. zeros (width (negsuc n +ℤ pos k))) (sym h.1)))

pub product_acts : ProductActs
product_acts r s (negsuc n) [] fits = acts_on_nothing r s n
product_acts r s (negsuc n) (x ∷ v) fits = cc
product_acts r s (pos n) v fits =
    let e : n + degree_of s + degree_of r ≡ n + (degree_of r + degree_of s) = omega arith in
    one_by_one n v fits r s
    ∙ ap (λ f. map f (basis_of (n + degree_of s + degree_of r))) (fun_ext (λ u. parts_agree n v fits r s u))
    ∙ sym (together n v fits r s)
    ∙ ap (λ m. combination (length (basis_of m)) (product_bits r s) (map (λ t. times_at t (pos n) v) (basis_of (degree_of r + degree_of s)))) e
