-- What the basis of a free module holds, and in which order.
use Rattle.std.specs.Prelude.{◌≡◌, ◌⊎◌, ◌↔◌, ℕ, ◌<◌, ℤ, pos, ◌+ℤ◌, List, [], length, slice_index_or}
use Rattle.std.specs.List.{Contains}
use Rattle.milnor_basis.specs.Exponents.{degree_of, IsTrimmed, IsRightLexBelow}
use Rattle.free_module.specs.FreeModule.{degree_at, free_basis}

-- Sq(R) on generator g, for the pair (g, R), is a basis element of degree t
pub record IsOfDegree (degrees : List ℤ) (t : ℤ) (e : ℕ × List ℕ) : Type 0 where
  pub generator : e.0 < length degrees
  pub trimmed : IsTrimmed e.1
  pub degree : (degree_at degrees e.0 +ℤ pos (degree_of e.1)) ≡ t

-- by generator, and on one generator in right lexicographic order
abbrev pub IsElementBelow : ℕ × List ℕ → ℕ × List ℕ → Type 0
IsElementBelow e f = (e.0 < f.0) ⊎ ((e.0 ≡ f.0) × IsRightLexBelow e.1 f.1)

-- the element at place i
abbrev pub element : List (ℕ × List ℕ) → ℕ → ℕ × List ℕ
element basis i = slice_index_or basis i (0, [])

-- basis holds the elements of degree t, each once, in order
pub record IsFreeBasis (degrees : List ℤ) (t : ℤ) (basis : List (ℕ × List ℕ)) : Type 0 where
  pub members : (e : ℕ × List ℕ) → Contains basis e ↔ IsOfDegree degrees t e
  pub in_order : (i j : ℕ) → i < j → j < length basis → IsElementBelow (element basis i) (element basis j)
  pub once : (i j : ℕ) → i < length basis → j < length basis → element basis i ≡ element basis j → i ≡ j

abbrev pub FreeBasisIsPairs : Type 0
FreeBasisIsPairs = (degrees : List ℤ) (t : ℤ) → IsFreeBasis degrees t (free_basis degrees t)
