-- The splittings of an exponent list, as the program lists them. A list of splittings is read through the sums over it, mod 2.
use Rattle.std.specs.Prelude.{◌≡◌, ℕ, Bool, ◌&&◌, nat_eq, nat_le, List}
use Rattle.std.specs.Cmp.Lexicographic.{pointwise}
use Rattle.f2_vec.specs.Vectors.{plus}
use Rattle.milnor_basis.specs.Exponents.{degree_of, IsTrimmed}
use Rattle.milnor_basis.specs.Product.{odd_by}
use Rattle.hopf_laws.specs.Diagonal.{splittings, added}
use Rattle.module_build.specs.declared.splittings.Splitting.{Splitting}

-- its parts make R, and have no zeros at their ends
pub record IsSplitting (r : List ℕ) (s : Splitting) : Type 0 where
  pub whole : added s.left s.right ≡ r
  pub left : IsTrimmed s.left
  pub right : IsTrimmed s.right

-- the sum of a function over splittings
abbrev pub sum_over : (List ℕ × List ℕ → Bool) → List Splitting → Bool
sum_over f xs = odd_by (λ s. f (s.left, s.right)) xs

-- they are the splittings of R whose left part is of degree min at least and max at most
abbrev pub AreSplittings : ℕ → ℕ → List ℕ → List Splitting → Type 0
AreSplittings min max r xs = (f : List ℕ × List ℕ → Bool) →
    sum_over f xs ≡ odd_by (λ p. nat_le (degree_of p.0) max && (nat_le min (degree_of p.0) && f p)) (splittings r)

-- the second list has, beside those of the first, the splittings of R whose left part is of degree n
abbrev pub AddsDegree : ℕ → List ℕ → List Splitting → List Splitting → Type 0
AddsDegree n r xs ys = (f : List ℕ × List ℕ → Bool) →
    sum_over f ys ≡ plus (sum_over f xs) (odd_by (λ p. nat_eq (degree_of p.0) n && f p) (splittings r))

-- the splitting of R with the left part a, if there is one
abbrev pub AddsLeft : List ℕ → List ℕ → List Splitting → List Splitting → Type 0
AddsLeft a r xs ys = (f : List ℕ × List ℕ → Bool) →
    sum_over f ys ≡ plus (sum_over f xs) (odd_by (λ p. pointwise nat_eq a p.0 && f p) (splittings r))
