-- Modules made of others on a numbered basis, as the program makes them.
use Rattle.std.specs.Prelude.{◌≡◌, ◌⊎◌, ℕ, ◌+◌, ◌-◌, ◌*◌, ◌/◌, ◌%◌, ◌<◌, ℤ, pos, ◌+ℤ◌, ◌-ℤ◌, Bool, ◌&&◌, not, nat_lt, if◌then◌else◌, List, length, map, slice_index_or}
use Rattle.std.proofs.Common.{inl, inr}
use Rattle.std.specs.List.{range_with_len}
use Rattle.milnor_basis.specs.Exponents.{degree_of, IsTrimmed}
use Rattle.milnor_basis.specs.Product.{odd_by}
use Rattle.hopf_laws.specs.Actions.{shifted, sum, tensor, dual}
use Rattle.hopf_laws.specs.Conjugate.{conjugate, is_nothing}
use Rattle.module_spec.specs.Spec.{Generator, degree_at}
use Rattle.finite_module.specs.Module.{Module, value}
use Rattle.finite_module.specs.DerivedAction.{elements}
use Rattle.built_laws.specs.Built.{action_of, built, values_on, operator_on}
use Rattle.module_spec.specs.Sorting.{sorted_by}
use Rattle.built_laws.specs.Constructed.{generators_from}
use Rattle.module_build.specs.Names.{numbered_name}
use Rattle.module_build.specs.Inside.Splittings.{sum_over}
use Rattle.module_build.specs.declared.coefficients.Coefficients.{Coefficients}
use Rattle.module_build.specs.declared.coefficients.Coefficients.TheVariants.{Same, Turned, Blocks, Pairs}
use Rattle.module_build.specs.declared.construction.Construction.{Construction}
use Rattle.module_build.specs.declared.construction.Construction.TheVariants.{Shift, Sum, Tensor, Dual}
use Rattle.module_build.specs.declared.order.Placed.{Placed}

-- ---- the numbers of basis elements

-- in a sum whose left part has n
abbrev pub part_at : ℕ → ℕ → ℕ ⊎ ℕ
part_at n x = if nat_lt x n then inl x else inr (x - n)

-- in a tensor product whose right factor has n
abbrev pub pair_at : ℕ → ℕ → ℕ × ℕ
pair_at n x = (x / n, x % n)

-- ---- coefficients

abbrev pub blocks_at : Module → Module → List ℕ → ℕ → ℕ → Bool
blocks_at m k r x y =
    (sum (action_of m) (action_of k)).coefficient r (part_at (length m.generators) x) (part_at (length m.generators) y)

-- the term of a splitting
abbrev pub pairs_at : Module → Module → ℕ → ℕ → List ℕ × List ℕ → Bool
pairs_at m k x y p =
    let n = length k.generators in
    (action_of m).coefficient p.0 (x / n) (y / n) && (action_of k).coefficient p.1 (x % n) (y % n)

abbrev pub entry_of : Coefficients → ℕ → ℕ → Bool
entry_of (Same m r) x y = (action_of m.now).coefficient r x y
entry_of (Turned m r) x y = (action_of m.now).coefficient r y x
entry_of (Blocks m k r) x y = blocks_at m.now k.now r x y
entry_of (Pairs m k xs) x y = sum_over (pairs_at m.now k.now x y) xs.items

abbrev pub width_of : Coefficients → ℕ
width_of (Same m r) = length m.now.generators
width_of (Turned m r) = length m.now.generators
width_of (Blocks m k r) = length m.now.generators + length k.now.generators
width_of (Pairs m k xs) = length m.now.generators * length k.now.generators

-- ---- constructions

abbrev pub size_of : Construction → ℕ
size_of (Shift m n) = length m.now.plain.generators
size_of (Sum m k) = length m.now.plain.generators + length k.now.plain.generators
size_of (Tensor m k) = length m.now.plain.generators * length k.now.plain.generators
size_of (Dual m) = length m.now.plain.generators

abbrev pub degree_in_sum : Module → Module → ℕ → ℤ
degree_in_sum m k x = (sum (action_of m) (action_of k)).degree (part_at (length m.generators) x)

abbrev pub degree_in : Construction → ℕ → ℤ
degree_in (Shift m n) x = (shifted n (action_of m.now.plain)).degree x
degree_in (Sum m k) x = degree_in_sum m.now.plain k.now.plain x
degree_in (Tensor m k) x =
    (tensor (action_of m.now.plain) (action_of k.now.plain)).degree (pair_at (length k.now.plain.generators) x)
degree_in (Dual m) x = (dual conjugate (action_of m.now.plain)).degree x

abbrev pub coefficient_in : Construction → List ℕ → ℕ → ℕ → Bool
coefficient_in (Shift m n) r x y = (action_of m.now.plain).coefficient r x y
coefficient_in (Sum m k) r x y = blocks_at m.now.plain k.now.plain r x y
coefficient_in (Tensor m k) r x y = (tensor (action_of m.now.plain) (action_of k.now.plain)).coefficient r
    (pair_at (length k.now.plain.generators) x) (pair_at (length k.now.plain.generators) y)
coefficient_in (Dual m) r x y = (dual conjugate (action_of m.now.plain)).coefficient r x y

-- ---- in the order of degree

abbrev pub placed : Construction → ℕ → Placed
placed c x = record { degree = degree_in c x; number = x }

abbrev pub nowhere : Placed
nowhere = record { degree = pos 0; number = 0 }

abbrev pub order_of : Construction → List Placed
order_of c = map (placed c) (sorted_by (degree_in c) (range_with_len 0 (size_of c)))

abbrev pub number_at : List Placed → ℕ → ℕ
number_at order i = (slice_index_or order i nowhere).number

abbrev pub degrees_of : List Placed → List ℤ
degrees_of order = map (λ p. p.degree) order

abbrev pub generators_of : List Placed → List Generator
generators_of order = generators_from numbered_name (λ p. p.degree) 0 order

-- the coefficients on the generators
abbrev pub coefficient_by : Construction → List ℕ → ℕ → ℕ → Bool
coefficient_by c r i j = coefficient_in c r (number_at (order_of c) i) (number_at (order_of c) j)

-- the operators of the degrees below n
abbrev pub operators_below : ℕ → Construction → List (List (List Bool))
operators_below n c = map (operator_on (generators_of (order_of c)) (coefficient_by c)) (elements n)

abbrev pub made : Construction → Module
made c = built (generators_of (order_of c)) (coefficient_by c)

-- ---- duals

-- the coefficients of the dual of a module, in an order of its generators
abbrev pub dual_by : Module → List Placed → List ℕ → ℕ → ℕ → Bool
dual_by m order r i j = (dual conjugate (action_of m)).coefficient r (number_at order i) (number_at order j)

-- what the splitting p gives to the coefficient of generator j in Sq(R) on generator i of the dual
abbrev pub dual_term : Module → List Placed → ℕ → ℕ → List ℕ × List ℕ → Bool
dual_term m order i j p = odd_by
    (λ k. (action_of m).coefficient p.0 (number_at order k) (number_at order i) && dual_by m order p.1 k j)
    (range_with_len 0 (length order))

-- what it gives there, and nothing for the splitting whose left part is ()
abbrev pub proper_term : Module → List Placed → ℕ → ℕ → List ℕ × List ℕ → Bool
proper_term m order i j p = not (is_nothing p.0) && dual_term m order i j p

-- The generators with their numbers in the module: sums over the ones are sums over the others, and degrees are negated.
pub record IsDualOrder (m : Module) (gs : List Generator) (order : List Placed) : Type 0 where
  pub count : length order ≡ length gs
  pub numbers : (i : ℕ) → i < length gs → number_at order i < length m.generators
  pub degrees : (i : ℕ) → i < length gs → degree_at gs i ≡ pos 0 -ℤ degree_at m.generators (number_at order i)
  pub sums : (f : ℕ → Bool) →
      odd_by (λ i. f (number_at order i)) (range_with_len 0 (length gs))
      ≡ odd_by f (range_with_len 0 (length m.generators))

-- the operators of lower degrees than n have the values that they should
abbrev pub HasValuesBelow : ℕ → (List ℕ → ℕ → ℕ → Bool) → Module → Type 0
HasValuesBelow n c m = (r : List ℕ) (i : ℕ) → IsTrimmed r → degree_of r < n → i < length m.generators →
    value m.generators m.operators r i ≡ values_on m.generators c r i
