-- Three-fold Massey products <a, b, c>, where ab and bc are zero, of classes a and b of the sphere and a class c of a module, by
-- lifts and null homotopies of minimal resolutions (May, Matric Massey products; Bruner, Calculation of large Ext modules).
use Rattle.std.specs.Prelude.{◌≡◌, ◌↔◌, ◌++◌, ℕ, suc, ◌+◌, ◌<◌, ◌≤◌, ℤ, pos, ◌+ℤ◌, ◌-ℤ◌, ◌≤ℤ◌, Bool, false, ◌&&◌, List, [], ◌∷◌, length, map}
use Rattle.std.specs.List.{range_with_len}
use Rattle.f2_vec.specs.Vectors.{plus, sum_of, bit, IsZero}
use Rattle.f2_vec.specs.Spans.{IsInSpan}
use Rattle.lift_laws.specs.Maps.{shifted, FitThrough}
use Rattle.lift_laws.specs.Lifts.{Resolution, gens, degree, free, image, d, lowered, IsLift, IsSphere, IsCanonical, dual_of}
use Rattle.lift_laws.specs.Products.{Class, first_of, count_of, degree_of_class, coefficients, coefficient_of, on_square, product_by, IsLiftOfClass}

-- Maps H k from F_(n+k) of r to F_k of q, for k through upto, that lower degrees by x: d H and H d sum to theta, whose part k
-- is told on generator g of degree t of row n + k + 1. Nothing is asked of H 0 after d_0.
pub record IsNullHomotopy (r q : Resolution) (n : ℕ) (x : ℤ) (theta : ℕ → ℤ → ℕ → List Bool) (upto : ℕ) (top : ℤ)
    (H : ℕ → ℕ → List Bool) : Type 0 where
  pub fit : (k i : ℕ) → k ≤ upto → i ≡ n + k → FitThrough (shifted x (free q k)) (gens r i) top (H k)
  pub bounds : (k i j : ℕ) → k < upto → j ≡ n + k → i ≡ suc j → (g : ℕ) → g < length (gens r i) → degree r i g ≤ℤ top →
      sum_of (d q (suc k) (degree r i g -ℤ x) (H (suc k) g)) (lowered r j q k x (H k) (degree r i g) (image r i g))
      ≡ theta k (degree r i g) g

-- beta k after gamma (s + k), on generator g of degree t: beta lowers degrees by y, gamma by x
abbrev pub composed : Resolution → ℕ → ℤ → ℤ → (ℕ → ℕ → List Bool) → (ℕ → ℕ → List Bool) → ℕ → ℤ → ℕ → List Bool
composed q s y x beta gamma k t g = lowered q (s + k) q k y (beta k) (t -ℤ x) (gamma (s + k) g)

-- the parity of the places at which both hold a 1
abbrev pub dot : List Bool → List Bool → Bool
dot [] ys = false
dot (x ∷ xs) [] = false
dot (x ∷ xs) (y ∷ ys) = plus (x && y) (dot xs ys)

-- The rows that a bracket takes: n is the one below that of bc, and l the one below that of ab; neither a nor b is in row 0. The
-- bracket is in row n + a.s of r. All is within the tables: r has rows through rs and degrees through rt above its bottom, and
-- q through qs and qt.
pub record HasRoom (rs rt qs qt : ℕ) (a b c : Class) (n l : ℕ) : Type 0 where
  pub last : ℕ
  pub low : ℕ
  pub a_row : a.s ≡ suc last
  pub b_row : b.s ≡ suc low
  pub n_row : suc n ≡ c.s + b.s
  pub l_row : suc l ≡ b.s + a.s
  pub rows_r : n + a.s ≤ rs
  pub rows_q : suc l ≤ qs
  pub degrees_r : a.above + b.above + c.above ≤ rt
  pub degrees_q : a.above + b.above ≤ qt

-- the degree of the bracket
abbrev pub top_of : Resolution → Class → Class → Class → ℤ
top_of r a b c = r.base.bottom +ℤ pos (a.above + b.above + c.above)

-- the value that H, gamma and e give: a's coefficient in H, and that of the sum e of classes of (l, ab) in gamma, at each generator
abbrev pub bracket_by : Resolution → Resolution → Class → Class → Class → ℕ → ℕ → (ℕ → ℕ → List Bool) →
    (ℕ → ℕ → List Bool) → List Bool → List Bool
bracket_by r q a b c n l gamma H e =
    on_square r (n + a.s) (a.above + b.above + c.above)
    (λ g. plus (coefficient_of q a (H a.s g)) (dot e (coefficients q l (a.above + b.above) (gamma l g))))

-- v is a value of the bracket: by a lift gamma of c, a lift beta of b, a null homotopy H of beta gamma, and e
pub record IsBracketMember (r q : Resolution) (a b c : Class) (n l : ℕ) (top : ℤ) (v : List Bool) : Type 0 where
  pub gamma : ℕ → ℕ → List Bool
  pub beta : ℕ → ℕ → List Bool
  pub H : ℕ → ℕ → List Bool
  pub e : List Bool
  pub gamma_lift : IsLiftOfClass r q c l top gamma
  pub beta_lift : IsLiftOfClass q q b a.s (top -ℤ degree_of_class r c) beta
  pub homotopy : IsNullHomotopy r q n (degree_of_class r c +ℤ degree_of_class q b)
      (composed q b.s (degree_of_class q b) (degree_of_class r c) beta gamma) a.s top H
  pub one_each : length e ≡ count_of q l (a.above + b.above)
  pub value : v ≡ bracket_by r q a b c n l gamma H e

-- ab is zero, by a lift of b
pub record HasZeroProduct (r q : Resolution) (a b c : Class) (l : ℕ) (top : ℤ) : Type 0 where
  pub beta : ℕ → ℕ → List Bool
  pub beta_lift : IsLiftOfClass q q b a.s (top -ℤ degree_of_class r c) beta
  pub zero : (i : ℕ) → i < count_of q (suc l) (a.above + b.above) →
      coefficient_of q a (beta a.s (first_of q (suc l) (a.above + b.above) + i)) ≡ false

-- bc is zero, by the lift gamma of c
pub record HasZeroLower (r q : Resolution) (a b c : Class) (n l : ℕ) (top : ℤ) (gamma : ℕ → ℕ → List Bool)
    : Type 0 where
  pub gamma_lift : IsLiftOfClass r q c l top gamma
  pub zero : (i : ℕ) → i < count_of r (suc n) (b.above + c.above) →
      coefficient_of q b (gamma b.s (first_of r (suc n) (b.above + c.above) + i)) ≡ false

-- What spans the indeterminacy: the products a z with the classes z of the square (n, bc), by lifts of them, and y c with the
-- classes y of the square (l, ab) of the sphere, by a lift of c.
pub record IsIndeterminacy (r q : Resolution) (a b c : Class) (n l : ℕ) (top : ℤ) (rows : List (List Bool))
    : Type 0 where
  pub lifts : ℕ → ℕ → ℕ → List Bool
  pub gamma : ℕ → ℕ → List Bool
  pub each : (j : ℕ) → j < count_of r n (b.above + c.above) →
      IsLift r q n (degree_of_class r c +ℤ degree_of_class q b)
      (dual_of r q n (degree_of_class r c +ℤ degree_of_class q b) (first_of r n (b.above + c.above) + j)) a.s top
      (lifts j)
  pub gamma_lift : IsLiftOfClass r q c l top gamma
  pub are : rows ≡ map (λ j. product_by r q a (lifts j) (n + a.s) (a.above + b.above + c.above))
      (range_with_len 0 (count_of r n (b.above + c.above)))
      ++ map
      (λ i. on_square r (n + a.s) (a.above + b.above + c.above)
      (λ g. bit (coefficients q l (a.above + b.above) (gamma l g)) i))
      (range_with_len 0 (count_of q l (a.above + b.above)))

-- ---- the laws

-- A bracket whose bc is zero has a member, for each lift of c and of b, and each e.
abbrev pub BracketHasMember : Type 0
BracketHasMember =
    (r q : Resolution) (rs rt qs qt : ℕ) (a b c : Class) (n l : ℕ) (top : ℤ) (gamma beta : ℕ → ℕ → List Bool) →
    IsCanonical r rs rt → IsCanonical q qs qt → IsSphere q → HasRoom rs rt qs qt a b c n l → top_of r a b c ≤ℤ top →
    (top -ℤ degree_of_class r c) ≤ℤ (q.base.bottom +ℤ pos qt) → b.i < count_of q b.s b.above →
    HasZeroLower r q a b c n l top gamma → IsLiftOfClass q q b a.s (top -ℤ degree_of_class r c) beta →
    (H : ℕ → ℕ → List Bool) × IsNullHomotopy r q n (degree_of_class r c +ℤ degree_of_class q b)
    (composed q b.s (degree_of_class q b) (degree_of_class r c) beta gamma) a.s top H

-- The members of a bracket whose ab is zero are one of them and the span of the indeterminacy.
abbrev pub BracketIsCoset : Type 0
BracketIsCoset =
    (r q : Resolution) (rs rt qs qt : ℕ) (a b c : Class) (n l : ℕ) (top : ℤ) (rows : List (List Bool)) (w : List Bool) →
    IsCanonical r rs rt → IsCanonical q qs qt → IsSphere q → HasRoom rs rt qs qt a b c n l → top_of r a b c ≤ℤ top →
    (top -ℤ degree_of_class r c) ≤ℤ (q.base.bottom +ℤ pos qt) → a.i < count_of q a.s a.above →
    HasZeroProduct r q a b c l top → IsIndeterminacy r q a b c n l top rows → IsBracketMember r q a b c n l top w →
    (v : List Bool) → length v ≡ count_of r (n + a.s) (a.above + b.above + c.above) →
    IsBracketMember r q a b c n l top v
    ↔ IsInSpan (count_of r (n + a.s) (a.above + b.above + c.above)) rows (sum_of v w)

-- A class of row 0 of the sphere is the unit, and no product of the unit with a class is zero. So a is in a row above 0 where ab is
-- zero, and so is b where bc is.
abbrev pub UnitsHaveNoZeroProducts : Type 0
UnitsHaveNoZeroProducts =
    (r q : Resolution) (rs rt qs qt : ℕ) (a x : Class) (upto : ℕ) (top : ℤ) (phi : ℕ → ℕ → List Bool) →
    IsCanonical r rs rt → IsCanonical q qs qt → IsSphere q → a.above ≤ qt → a.i < count_of q a.s a.above →
    x.s ≤ rs → x.above ≤ rt → x.i < count_of r x.s x.above → degree_of_class r x ≤ℤ top →
    IsLiftOfClass r q x upto top phi → IsZero (product_by r q a phi (x.s + a.s) (a.above + x.above)) → 0 < a.s
