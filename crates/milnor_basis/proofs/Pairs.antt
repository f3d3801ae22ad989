-- A basis element's products, from pairs of places.
use Rattle.std.proofs.Common.{◌≡◌, ◌≢◌, inl, inr, ℕ, suc, ◌+◌, ◌<◌, ◌≤◌, Bool, true, false, ◌&&◌, nat_eq, List, [], ◌∷◌, length, map, take, get_or, refl, ap, sym, ◌∙◌, arith}
use Rattle.std.proofs.lemmas.Bool.{cases_eq, eq-eqb, ne_eqb}
use Rattle.std.proofs.lemmas.List.{ext_get_or, get_or-map, length-map, take_more}
use Rattle.f2_vec.specs.Vectors.{plus, bit, sum_of}
use Rattle.f2_vec.specs.Spans.{unit_vector}
use Rattle.f2_vec.proofs.Sums.{plus-false, plus-assoc}
use Rattle.milnor_basis.specs.Exponents.{degree_of}
use Rattle.milnor_basis.specs.Basis.{basis_of}
use Rattle.milnor_basis.specs.Product.{coefficient, product_bits, is_odd_at, AreWithin, ArePairs}
use Rattle.milnor_basis.proofs.Bits.{flipped}
use Rattle.milnor_basis.proofs.FreeTable.{odd_at-push, second_false}

-- the first pairs, and one more
pub odd_at-take : (pairs : List (ℕ × ℕ)) (i p k : ℕ) → i < length pairs → is_odd_at (take (i + 1) pairs) p k ≡ plus (nat_eq (get_or pairs i (0, 0)).0 p && nat_eq (get_or pairs i (0, 0)).1 k) (is_odd_at (take i pairs) p k)
odd_at-take pairs i p k l =
    ap (λ xs. is_odd_at xs p k) (take_more pairs i (0, 0) l) ∙ odd_at-push (take i pairs) (get_or pairs i (0, 0)).0 (get_or pairs i (0, 0)).1 p k

-- the bits of the pairs at one place, where the next pair is there and where it is not
module _ (pairs : List (ℕ × ℕ)) (i left : ℕ) (old bits : List Bool) (l : i < length pairs) (so_far : (k : ℕ) → bit bits k ≡ plus (is_odd_at (take i pairs) left k) (bit old k)) where
  pub turned_here : (t : ℕ) (after : List Bool) → (get_or pairs i (0, 0)).0 ≡ left → t ≡ (get_or pairs i (0, 0)).1 → t < length bits → after ≡ sum_of bits (unit_vector (length bits) t)
      → (k : ℕ) → bit after k ≡ plus (is_odd_at (take (i + 1) pairs) left k) (bit old k)
  turned_here t after er et within is k =
      let rest = is_odd_at (take i pairs) left k in
      let here : nat_eq (get_or pairs i (0, 0)).0 left ≡ true = eq-eqb (get_or pairs i (0, 0)).0 left er in
      let new : is_odd_at (take (i + 1) pairs) left k ≡ plus (nat_eq t k) rest =
      odd_at-take pairs i left k l ∙ ap (λ b. plus (b && nat_eq (get_or pairs i (0, 0)).1 k) rest) here ∙ ap (λ m. plus (nat_eq m k) rest) (sym et)
      in
      let turned : nat_eq k t ≡ nat_eq t k = elim (cases_eq k t) [
        | inl s ↦ eq-eqb k t s ∙ sym (eq-eqb t k (sym s))
        | inr d ↦ ne_eqb k t d ∙ sym (ne_eqb t k (λ s. d (sym s)))
      ] in
      ap (λ v. bit v k) is ∙ flipped bits t k (nat_eq t k) within turned ∙ ap (plus (nat_eq t k)) (so_far k) ∙ sym (plus-assoc (nat_eq t k) rest (bit old k)) ∙ ap (λ b. plus b (bit old k)) (sym new)

  pub turned_elsewhere : (get_or pairs i (0, 0)).0 ≢ left → (k : ℕ) → bit bits k ≡ plus (is_odd_at (take (i + 1) pairs) left k) (bit old k)
  turned_elsewhere d k =
      let none : nat_eq (get_or pairs i (0, 0)).0 left ≡ false = ne_eqb (get_or pairs i (0, 0)).0 left d in
      let same : is_odd_at (take (i + 1) pairs) left k ≡ is_odd_at (take i pairs) left k = odd_at-take pairs i left k l ∙ ap (λ b. plus (b && nat_eq (get_or pairs i (0, 0)).1 k) (is_odd_at (take i pairs) left k)) none in
      so_far k ∙ ap (λ b. plus b (bit old k)) (sym same)

-- no pair has a place past the basis
pub odd_at-past : (n m : ℕ) (pairs : List (ℕ × ℕ)) (p k : ℕ) → AreWithin n m pairs → length (basis_of m) ≤ k → is_odd_at pairs p k ≡ false
odd_at-past n m [] p k h l = refl
odd_at-past n m (x ∷ pairs) p k h l =
    let here : nat_eq x.1 k ≡ false = ne_eqb x.1 k (λ e. let within = (h 0 x (omega arith)).1 in omega arith) in
    let rest : is_odd_at pairs p k ≡ false = odd_at-past n m pairs p k (λ i d b. h (suc i) d (omega arith)) l in
    ap (plus (nat_eq x.0 p && nat_eq x.1 k)) rest ∙ plus-false (nat_eq x.0 p && nat_eq x.1 k) ∙ second_false (nat_eq x.0 p) (nat_eq x.1 k) here

-- clear bits, with those of the pairs at one place turned over, are the product
pub product_turned : (degree p product : ℕ) (r s : List ℕ) (pairs : List (ℕ × ℕ)) (before after : List Bool) → ArePairs degree s pairs
    → product ≡ degree_of r + degree_of s → degree_of r ≡ degree → p < length (basis_of degree) → get_or (basis_of degree) p [] ≡ r → length after ≡ length (basis_of product) → ((k : ℕ) → bit before k ≡ false)
    → ((k : ℕ) → bit after k ≡ plus (is_odd_at pairs p k) (bit before k)) → after ≡ product_bits r s
product_turned degree p product r s pairs before after are sum of within is long clear turned =
    let n : product ≡ degree + degree_of s = omega arith in
    let m : length after ≡ length (basis_of (degree + degree_of s)) = long ∙ ap (λ d. length (basis_of d)) n in
    let e : degree + degree_of s ≡ degree_of r + degree_of s = omega arith in
    ext_get_or false after (map (coefficient r s) (basis_of (degree + degree_of s))) (m ∙ sym (length-map (basis_of (degree + degree_of s)) (coefficient r s))) (λ k l.
    let inside : k < length (basis_of (degree + degree_of s)) = omega arith in
    turned k ∙ ap (plus (is_odd_at pairs p k)) (clear k) ∙ plus-false (is_odd_at pairs p k) ∙ are.odd p k within inside
    ∙ ap (λ x. coefficient x s (get_or (basis_of (degree + degree_of s)) k [])) is
    ∙ sym (get_or-map (coefficient r s) (basis_of (degree + degree_of s)) k [] false inside))
    ∙ ap (λ d. map (coefficient r s) (basis_of d)) e
