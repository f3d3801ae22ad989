-- Modules over the Steenrod algebra by their coefficients on a basis, and those made of others: shift, sum, tensor product, by the diagonal,
-- and dual, by the conjugate (Milnor, as for these).
use Rattle.std.specs.Prelude.{◌≡◌, ◌⊎◌, ℕ, ◌<◌, nat_eq, nat_lt, slice_index_or, length, ℤ, pos, ◌+ℤ◌, ◌-ℤ◌, Bool, false, ◌&&◌, List, [], ◌++◌, map}
use Rattle.std.proofs.Common.{◌≢◌, inl, inr}
use Rattle.std.specs.List.{flat_map, range_with_len}
use Rattle.milnor_basis.specs.Exponents.{degree_of, IsTrimmed}
use Rattle.milnor_basis.specs.Product.{product_terms, odd_by}
use Rattle.hopf_laws.specs.Diagonal.{splittings}
use Rattle.hopf_laws.specs.Conjugate.{IsConjugate}

-- a basis, the degrees of its elements, the coefficient of y in Sq(R) on x (`coefficient R x y`), and whether two are the same element of
-- the basis
pub record Action (X : Type 0) : Type 0 where
  pub basis : List X
  pub degree : X → ℤ
  pub coefficient : List ℕ → X → X → Bool
  pub same : X → X → Bool

-- It is a module: Sq() is the identity, Sq(R) raises degrees by its own, and Sq(R) on Sq(S) is their product.
pub record IsAction {X : Type 0} (m : Action X) : Type 0 where
  pub unit : (x y : X) → m.coefficient [] x y ≡ m.same x y
  pub homogeneous : (r : List ℕ) (x y : X) → IsTrimmed r → m.degree y ≢ m.degree x +ℤ pos (degree_of r) →
      m.coefficient r x y ≡ false
  pub products : (r s : List ℕ) (x z : X) → IsTrimmed r → IsTrimmed s →
      odd_by (λ y. m.coefficient s x y && m.coefficient r y z) m.basis
      ≡ odd_by (λ t. m.coefficient t x z) (product_terms r s)

-- its coefficients, on elements that are n degrees above
abbrev pub shifted : {X : Type 0} → ℤ → Action X → Action X
shifted n m = record { basis = m.basis; degree = λ x. m.degree x +ℤ n; coefficient = m.coefficient; same = m.same }

-- what each of two is at elements of either of two bases, and zero between the two
abbrev pub either_degree : {X Y : Type 0} → Action X → Action Y → X ⊎ Y → ℤ
either_degree m k (inl x) = m.degree x
either_degree m k (inr y) = k.degree y

abbrev pub blocks : {X Y : Type 0} → (X → X → Bool) → (Y → Y → Bool) → X ⊎ Y → X ⊎ Y → Bool
blocks f g (inl x) (inl z) = f x z
blocks f g (inl x) (inr z) = false
blocks f g (inr y) (inl z) = false
blocks f g (inr y) (inr z) = g y z

-- each of two modules on its own part
abbrev pub sum : {X Y : Type 0} → Action X → Action Y → Action (X ⊎ Y)
sum m k = record {
  basis = map inl m.basis ++ map inr k.basis;
  degree = either_degree m k;
  coefficient = λ r. blocks (m.coefficient r) (k.coefficient r);
  same = blocks m.same k.same;
}

-- by Cartan's formula: each way to write R as R1 + R2 lets Sq(R1) act on the left factor and Sq(R2) on the right one
abbrev pub tensor : {X Y : Type 0} → Action X → Action Y → Action (X × Y)
tensor m k = record {
  basis = flat_map (λ x. map (λ y. (x, y)) k.basis) m.basis;
  degree = λ p. m.degree p.0 +ℤ k.degree p.1;
  coefficient = λ r p q. odd_by (λ z. m.coefficient z.0 p.0 q.0 && k.coefficient z.1 p.1 q.1) (splittings r);
  same = λ p q. m.same p.0 q.0 && k.same p.1 q.1;
}

-- on the dual basis, whose degrees are negated: Sq(R) on f is f after the conjugate of Sq(R)
abbrev pub dual : {X : Type 0} → (List ℕ → List (List ℕ)) → Action X → Action X
dual c m = record {
  basis = m.basis;
  degree = λ x. pos 0 -ℤ m.degree x;
  coefficient = λ r x y. odd_by (λ t. m.coefficient t y x) (c r);
  same = λ x y. m.same y x;
}

-- the module on a list of its basis in another order, numbered by it
abbrev pub numbered : {X : Type 0} → X → List X → Action X → Action ℕ
numbered d xs m = record {
  basis = range_with_len 0 (length xs);
  degree = λ i. m.degree (slice_index_or xs i d);
  coefficient = λ r i j. (nat_lt i (length xs) && nat_lt j (length xs))
      && m.coefficient r (slice_index_or xs i d) (slice_index_or xs j d);
  same = λ i j. nat_eq i j && nat_lt i (length xs);
}

-- the list has each element of the basis once
pub record IsOrder {X : Type 0} (d : X) (xs : List X) (m : Action X) : Type 0 where
  pub sums : (f : X → Bool) → odd_by f xs ≡ odd_by f m.basis
  pub once : (i j : ℕ) → i < length xs → j < length xs →
      m.same (slice_index_or xs i d) (slice_index_or xs j d) ≡ nat_eq i j

abbrev pub ShiftIsModule : Type 0
ShiftIsModule = (n : ℤ) (m : Action ℕ) → IsAction m → IsAction (shifted n m)

abbrev pub SumIsModule : Type 0
SumIsModule = (m k : Action ℕ) → IsAction m → IsAction k → IsAction (sum m k)

abbrev pub TensorIsModule : Type 0
TensorIsModule = (m k : Action ℕ) → IsAction m → IsAction k → IsAction (tensor m k)

abbrev pub DualIsModule : Type 0
DualIsModule = (c : List ℕ → List (List ℕ)) (m : Action ℕ) → IsConjugate c → IsAction m → IsAction (dual c m)

-- the dual of the dual has the degrees and the coefficients of the module
abbrev pub DualTwice : Type 0
DualTwice = (c : List ℕ → List (List ℕ)) (m : Action ℕ) → IsConjugate c → (r : List ℕ) (x y : ℕ) → IsTrimmed r →
    ((dual c (dual c m)).coefficient r x y ≡ m.coefficient r x y) × ((dual c (dual c m)).degree x ≡ m.degree x)

abbrev pub NumberedIsModule : Type 0
NumberedIsModule = (d : ℕ) (xs : List ℕ) (m : Action ℕ) → IsOrder d xs m → IsAction m → IsAction (numbered d xs m)
