-- The action that a module file gives: the Sq^n with n a power of two as listed, and each other Sq(R) from them, by the
-- Adem relations (Adem 1952) and by Milnor's product, in the order of degree, then of Milnor's basis.
use Rattle.std.specs.Prelude.{ℕ, zero, suc, ◌+◌, ◌-◌, ◌*◌, ◌/◌, ℤ, pos, ◌+ℤ◌, ◌-ℤ◌, nat_abs, Bool, not, ◌&&◌, ◌==◌, nat_eq, nat_lt, if◌then◌else◌, List, [], ◌∷◌, ◌++◌, length, map}
use Rattle.std.specs.Int.{is_power_of_two}
use Rattle.std.specs.List.{filter, list_any, flat_map, range_with_len}
use Rattle.std.specs.Cmp.Lexicographic.{pointwise}
use Rattle.milnor_basis.specs.Exponents.{degree_of}
use Rattle.milnor_basis.specs.Basis.{basis_of}
use Rattle.milnor_basis.specs.Front.{front}
use Rattle.milnor_basis.specs.Product.{choose, is_odd, product_terms}
use Rattle.module_spec.specs.Spec.{Generator, Entry, File, degree_at}
use Rattle.finite_module.specs.Module.{Module, generators_in, width, unit, value, act_on, total, bottom}

-- the sum that is listed for Sq^n on generator i, empty where none is. If a square of a generator is listed twice, it is
-- the first; a file that lists two different sums is refused
abbrev pub listed_sum : List Entry → ℕ → ℕ → List ℕ
listed_sum [] n i = []
listed_sum (e ∷ es) n i = if e.n == n && e.generator == i then e.sum else listed_sum es n i

-- a sum of generators as a vector of degree t
abbrev pub sum_vector : List Generator → List ℕ → ℤ → List Bool
sum_vector gs numbers t = map (λ j. list_any (nat_eq j) numbers) (generators_in gs t)

-- 2 b, 4 b, .. as long as it is below n, at most k times
abbrev pub doubled_below : ℕ → ℕ → ℕ → ℕ
doubled_below zero b n = b
doubled_below (suc k) b n = if nat_lt (2 * b) n then doubled_below k (2 * b) n else b

-- the greatest power of two below n, for n above 1
abbrev pub power_below : ℕ → ℕ
power_below n = doubled_below n 1 n

-- Sq^p on Sq^q on generator i
abbrev pub twice : List Generator → List (List (List Bool)) → ℕ → ℕ → ℕ → List Bool
twice gs operators p q i = act_on gs operators (p ∷ []) (degree_at gs i +ℤ pos q) (value gs operators (q ∷ []) i)

-- the c with a term Sq^(n-c) Sq^c in the Adem relation for Sq^a Sq^b, n = a + b, other than c = 0
abbrev pub adem_terms : ℕ → ℕ → List ℕ
adem_terms a b = filter (λ c. is_odd (choose (b - c - 1) (a - 2 * c))) (range_with_len 1 (a / 2))

-- Sq^n on generator i by the Adem relation for Sq^a Sq^b, b the greatest power of two below n = a + b, in which Sq^n has
-- the coefficient 1
abbrev pub by_adem : List Generator → List (List (List Bool)) → ℕ → ℕ → ℕ → List Bool
by_adem gs operators a b i = total (width gs (degree_at gs i +ℤ pos (a + b)))
    (twice gs operators a b i ∷ map (λ c. twice gs operators (a + b - c) c i) (adem_terms a b))

abbrev pub square_value : File → List (List (List Bool)) → ℕ → ℕ → List Bool
square_value f operators n i =
    if is_power_of_two n
    then sum_vector f.generators (listed_sum f.entries n i) (degree_at f.generators i +ℤ pos n)
    else by_adem f.generators operators (n - power_below n) (power_below n) i

-- For R = (r1, r2, ..) with S = (r2, ..) not empty, Sq(R) is one term of Sq(front R) Sq(S), and the others stand before it in
-- Milnor's basis: the others
abbrev pub other_terms : ℕ → List ℕ → List (List ℕ)
other_terms r s = filter (λ t. not (pointwise nat_eq t (r ∷ s))) (product_terms (front (r ∷ s) ∷ []) s)

abbrev pub by_product : List Generator → List (List (List Bool)) → ℕ → List ℕ → ℕ → List Bool
by_product gs operators r s i =
    total (width gs (degree_at gs i +ℤ pos (degree_of (r ∷ s))))
    (act_on gs operators (front (r ∷ s) ∷ []) (degree_at gs i +ℤ pos (degree_of s)) (value gs operators s i)
    ∷ map (λ t. value gs operators t i) (other_terms r s))

-- the value of Sq(R) on generator i, from the operators before it
abbrev pub derived_value : File → List (List (List Bool)) → List ℕ → ℕ → List Bool
derived_value f operators [] i = unit f.generators i
derived_value f operators (n ∷ []) i = square_value f operators n i
derived_value f operators (r ∷ s ∷ rs) i = by_product f.generators operators r (s ∷ rs) i

abbrev pub derived_operator : File → List (List (List Bool)) → List ℕ → List (List Bool)
derived_operator f operators r = map (derived_value f operators r) (range_with_len 0 (length f.generators))

-- the operators, and behind them those of the elements of a list, each from all before it
abbrev pub derived_from : File → List (List (List Bool)) → List (List ℕ) → List (List (List Bool))
derived_from f operators [] = operators
derived_from f operators (r ∷ rs) = derived_from f (operators ++ derived_operator f operators r ∷ []) rs

-- the elements of Milnor's bases of the degrees below n
abbrev pub elements : ℕ → List (List ℕ)
elements n = flat_map basis_of (range_with_len 0 n)

-- the greatest degree, which is that of the last generator, and 0 where there is none
abbrev pub top : List Generator → ℤ
top [] = pos 0
top (g ∷ []) = g.degree
top (g ∷ h ∷ gs) = top (h ∷ gs)

-- how far apart the degrees of the generators are: a Sq(R) of a greater degree is zero on each
abbrev pub span : List Generator → ℕ
span gs = nat_abs (top gs -ℤ bottom gs)

-- the generators with the derived action
abbrev pub derived_module : File → Module
derived_module f = record {
  generators = f.generators;
  operators = derived_from f [] (elements (span f.generators + 1));
}
