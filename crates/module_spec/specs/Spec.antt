-- A module by its generators and the squares on them.
use Rattle.std.specs.Prelude.{ℕ, ◌&&◌, ℤ, pos, ◌+ℤ◌, neg_ℤ, int_le, Bool, List, [], ◌∷◌, slice_index_or, position, Option, bytes_eq}
use Rattle.module_spec.specs.Sorting.{sorted_by}
use Rattle.module_spec.specs.declared.limits.TheConstants.{MAX_DEGREE, MAX_SPAN}

-- ---- generators

pub record Generator : Type 0 where
  pub name : List ℕ
  pub degree : ℤ

-- what stands for a generator where there is none
abbrev pub no_generator : Generator
no_generator = record { name = []; degree = pos 0 }

-- the degree of generator i
abbrev pub degree_at : List Generator → ℕ → ℤ
degree_at gs i = (slice_index_or gs i no_generator).degree

-- the number of the generator with a name
abbrev pub number_of : List Generator → List ℕ → Option ℕ
number_of gs name = position (λ g. bytes_eq g.name name) gs

-- the generators by degree; those of one degree keep their order
abbrev pub by_degree : List Generator → List Generator
by_degree gs = sorted_by (λ g. g.degree) gs

-- a degree that a generator may have
abbrev pub within_limit : ℤ → Bool
within_limit z = int_le (neg_ℤ MAX_DEGREE) z && int_le z MAX_DEGREE

-- z lies at most the greatest span above y
abbrev pub is_near : ℤ → ℤ → Bool
is_near z y = int_le z (y +ℤ pos MAX_SPAN)

-- ---- actions

-- One action: n, the number of the generator that Sq^n acts on, and the numbers of the sum, in order and each once.
pub record Entry : Type 0 where
  pub n : ℕ
  pub generator : ℕ
  pub sum : List ℕ

-- the powers of two that a difference of two degrees of a module can be
abbrev pub powers : List ℕ
powers = 1 ∷ 2 ∷ 4 ∷ 8 ∷ 16 ∷ 32 ∷ 64 ∷ []

-- ---- modules

-- A module by its generators, in basis order, and its actions, as listed.
pub record File : Type 0 where
  pub generators : List Generator
  pub entries : List Entry
