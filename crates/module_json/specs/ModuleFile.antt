-- What a module file describes, or the first thing wrong with it.
use Rattle.std.specs.Prelude.{ℕ, suc, ◌+◌, ◌%◌, ◌&&◌, ◌==◌, ◌≡◌, nat_eq, nat_le, nat_lt, ℤ, pos, ◌+ℤ◌, neg_ℤ, int_le, Bool, not, if◌then◌else◌, List, [], ◌∷◌, ◌++◌, length, map, slice_index_or, filter, count_by, position, Option, Some, None, option_map, option_and_then, codes, bytes_eq, Result, Ok, Err}
use Rattle.std.specs.Ordering.{int_eq}
use Rattle.std.specs.Cmp.Lexicographic.{pointwise}
use Rattle.std.specs.Fmt.{signed_decimal}
use Rattle.std.specs.List.{list_all, range_with_len, flat_map}
use Rattle.std.specs.Option.{option_or}
use Rattle.milnor_basis.specs.Product.{is_odd}
use Rattle.serde_json.specs.Data.{Data, Items, no_items, item, Members, no_members, member}
use Rattle.serde_json.specs.Find.{as_number, as_str, as_array, as_object, as_i64, get}
use Rattle.module_spec.specs.Names.{is_name}
use Rattle.module_json.specs.Actions.{Written, action_of}
use Rattle.module_json.specs.Checks.{IsValueOf, unless, gens_refusal, actions_refusal, first_of, header_refusal, is_space}
use Rattle.module_spec.specs.Spec.{Generator, degree_at, number_of, by_degree, within_limit, is_near, Entry, powers, File}
use Rattle.module_json.specs.Spaces.{binomial, count_between}
use Rattle.module_spec.specs.declared.limits.TheConstants.{MAX_GENERATORS}
use Rattle.module_json.specs.declared.malformed.Malformed.{Malformed}
use Rattle.module_json.specs.declared.malformed.Malformed.TheVariants.{Limit, Shape, Name, Degree as NoDegree, Action, Bounds}
use Rattle.module_json.specs.declared.malformed.What.TheVariants.{Gens, Degree, Span}
use Rattle.module_json.specs.declared.malformed.Place.TheVariants.{Min, Max}
use Rattle.module_json.specs.declared.malformed.Why.{Why}
use Rattle.module_json.specs.declared.malformed.Why.TheVariants.{Syntax, SquareZero, Unknown, WrongDegree, Repeated}

-- ---- generators

-- The members of `gens`, in the order of the bytes of their keys.
abbrev pub gens_of : Data → Members
gens_of d = members_or (option_and_then as_object (get (codes "gens") d))
  where
    members_or : Option Members → Members
    members_or None = no_members
    members_or (Some ms) = ms

-- a value as a degree
abbrev pub degree_of : Data → Option ℤ
degree_of d = option_and_then as_i64 (as_number d)

abbrev pub degree_refusal : ℕ → Option ℤ → Option Malformed
degree_refusal i None = Some (NoDegree i)
degree_refusal i (Some z) = unless (within_limit z) (Limit Degree)

-- what is wrong with generator i
abbrev pub generator_refusal : ℕ → List ℕ → Data → Option Malformed
generator_refusal i name d = first_of (unless (is_name name) (Name i) ∷ degree_refusal i (degree_of d) ∷ [])

-- Name, degree and its limit are looked at generator by generator.
abbrev pub generators_refusal : ℕ → Members → Option Malformed
generators_refusal i no_members = None
generators_refusal i (member name d ms) = option_or (generator_refusal i name d) (generators_refusal (suc i) ms)

-- the generators as they are listed, which is in the order of the bytes of their names
abbrev pub listed : Members → List Generator
listed no_members = []
listed (member name d ms) = onto (degree_of d) (listed ms)
  where
    onto : Option ℤ → List Generator → List Generator
    onto None gs = gs
    onto (Some z) gs = record { name = name; degree = z } ∷ gs

-- The basis: by degree, and in one degree by the bytes of the names.
abbrev pub basis : Members → List Generator
basis ms = by_degree (listed ms)

-- no degree lies more than the greatest span above another
abbrev pub spans : List Generator → Bool
spans gs = list_all (λ g. list_all (λ h. is_near g.degree h.degree) gs) gs

abbrev pub span_refusal : List Generator → Option Malformed
span_refusal gs = unless (spans gs) (Limit Span)

-- ---- actions

-- the values of an array, if it is there
abbrev pub items_or : Option Items → Items
items_or None = no_items
items_or (Some ds) = ds

-- The values under `actions`.
abbrev pub actions_of : Data → Items
actions_of d = items_or (option_and_then as_array (get (codes "actions") d))

-- an action as it is written
abbrev pub written : Data → Option Written
written d = option_and_then action_of (as_str d)

-- the numbers of the generators with these names, if each name has one
abbrev pub numbers_of : List Generator → List (List ℕ) → Option (List ℕ)
numbers_of gs [] = Some []
numbers_of gs (name ∷ names) =
    option_and_then (λ j. option_map (λ js. j ∷ js) (numbers_of gs names)) (number_of gs name)

-- each of these generators has this degree
abbrev pub are_in : List Generator → ℤ → List ℕ → Bool
are_in gs z js = list_all (λ j. int_eq (degree_at gs j) z) js

-- whether j stands an odd number of times among the numbers
abbrev pub is_odd_in : List ℕ → ℕ → Bool
is_odd_in js j = count_by (λ k. k == j) js % 2 == 1

-- A generator twice in a sum cancels: the numbers below count that stand an odd number of times, in order.
abbrev pub sum_of : ℕ → List ℕ → List ℕ
sum_of count js = filter (is_odd_in js) (range_with_len 0 count)

-- one square on one generator, with another sum
abbrev pub differs : Entry → Entry → Bool
differs e f = (f.n == e.n) && (f.generator == e.generator) && not (pointwise nat_eq f.sum e.sum)

-- An entry, unless an earlier one has the same square on the same generator with another sum.
abbrev pub unless_repeated : List Entry → Entry → Result Entry Why
unless_repeated before e = by_first (position (differs e) before)
  where
    by_first : Option ℕ → Result Entry Why
    by_first None = Ok e
    by_first (Some first) = Err (Repeated first)

-- The entry of Sq^n on generator i with the sum of the generators js, after the entries before it.
abbrev pub numbered_entry : List Generator → List Entry → ℕ → ℕ → List ℕ → Result Entry Why
numbered_entry gs before n i js =
    if are_in gs (degree_at gs i +ℤ pos n) js
    then unless_repeated before (record { n = n; generator = i; sum = sum_of (length gs) js })
    else Err WrongDegree

abbrev pub named_entry : List Generator → List Entry → ℕ → Option ℕ → Option (List ℕ) → Result Entry Why
named_entry gs before n None js = Err Unknown
named_entry gs before n (Some i) None = Err Unknown
named_entry gs before n (Some i) (Some js) = numbered_entry gs before n i js

-- What an action gives after the entries before it: its entry, or the first thing wrong with it.
abbrev pub entry_of : List Generator → List Entry → Option Written → Result Entry Why
entry_of gs before None = Err Syntax
entry_of gs before (Some w) =
    if w.n == 0 then Err SquareZero else named_entry gs before w.n (number_of gs w.name) (numbers_of gs w.sum)

-- an answer for the action with index i
abbrev pub at_index : ℕ → Result Entry Why → Result Entry Malformed
at_index i (Ok e) = Ok e
at_index i (Err why) = Err (Action i why)

-- The entries of the actions, after those before them, or the first refusal.
abbrev pub entries_from : List Generator → List Entry → Items → Result (List Entry) Malformed
entries_from gs before no_items = Ok before
entries_from gs before (item d ds) =
    and_then (λ e. entries_from gs (before ++ e ∷ []) ds) (at_index (length before) (entry_of gs before (written d)))
  where
    and_then : (Entry → Result (List Entry) Malformed) → Result Entry Malformed → Result (List Entry) Malformed
    and_then later (Ok e) = later e
    and_then later (Err e) = Err e

-- ---- a type of module file: one that lists generators and actions

-- The checks behind the header and before the entries, in their order.
abbrev pub listed_refusal : Data → Option Malformed
listed_refusal d = first_of (gens_refusal d ∷ generators_refusal 0 (gens_of d)
    ∷ span_refusal (basis (gens_of d)) ∷ actions_refusal d ∷ [])

-- the module with these entries
abbrev pub with_entries : List Generator → Result (List Entry) Malformed → Result File Malformed
with_entries gs (Ok es) = Ok (record { generators = gs; entries = es })
with_entries gs (Err e) = Err e

abbrev pub unless_refused : {A : Type 0} → Option Malformed → Result A Malformed → Result A Malformed
unless_refused None r = r
unless_refused (Some e) r = Err e

-- What a value of this type describes behind its header, or its first refusal there.
abbrev pub listed_of : Data → Result File Malformed
listed_of d = unless_refused (listed_refusal d)
    (with_entries (basis (gens_of d)) (entries_from (basis (gens_of d)) [] (actions_of d)))

-- ---- a type of module file: a real projective space

-- The cell of dimension n, which stands for the n-th power of a class of degree 1.
abbrev pub cell : ℤ → Generator
cell n = record { name = codes "x" ++ signed_decimal n; degree = n }

-- one cell in each dimension, count of them from min on
abbrev pub cells : ℤ → ℕ → List Generator
cells min count = map (λ i. cell (min +ℤ pos i)) (range_with_len 0 count)

-- whether Sq^k takes cell i to another of the count cells, which is the one k dimensions above
abbrev pub is_joined : ℤ → ℕ → ℕ → ℕ → Bool
is_joined min count i k = nat_lt (i + k) count && is_odd (binomial (min +ℤ pos i) k)

-- the action of Sq^k on cell i, to the one k dimensions above
abbrev pub joining : ℕ → ℕ → Entry
joining i k = record { n = k; generator = i; sum = (i + k) ∷ [] }

abbrev pub squares_on : ℤ → ℕ → ℕ → List Entry
squares_on min count i = map (joining i) (filter (is_joined min count i) powers)

-- The real projective space with these cells, as listed by cell and then by square: Sq^k x^n is binom(n, k) x^(n + k).
abbrev pub space_file : ℤ → ℕ → File
space_file min count =
    record { generators = cells min count; entries = flat_map (squares_on min count) (range_with_len 0 count) }

-- the whole number under a key
abbrev pub number_at : List ℕ → Data → Option ℤ
number_at key d = option_and_then degree_of (get key d)

-- What is wrong with the least and the greatest dimension of cells: both are degrees, the greatest is not below the least, and
-- the cells are not too many.
abbrev pub bounds_refusal : ℤ → ℤ → Option Malformed
bounds_refusal min max = first_of (unless (within_limit min && within_limit max) (Limit Degree)
    ∷ unless (int_le min max) (Bounds min max) ∷ unless (nat_le (count_between min max) MAX_GENERATORS) (Limit Gens) ∷ [])

abbrev pub space_between : Option ℤ → Option ℤ → Result File Malformed
space_between None max = Err (Shape Min)
space_between (Some min) None = Err (Shape Max)
space_between (Some min) (Some max) =
    unless_refused (bounds_refusal min max) (Ok (space_file min (count_between min max)))

-- What a value of this type describes behind its header, or its first refusal there.
abbrev pub space_of : Data → Result File Malformed
space_of d = space_between (number_at (codes "min") d) (number_at (codes "max") d)

-- ---- the file

-- What a value describes, or its first refusal: its header is looked at first, and then what its type asks for.
abbrev pub file_of : Data → Result File Malformed
file_of d = unless_refused (header_refusal d) (if is_space d then space_of d else listed_of d)

-- What bytes describe: they have no value, or it is what their value describes.
pub data IsFileOf (bytes : List ℕ) : Result File Malformed → Type 0 where
  no_value : (e : Malformed) → IsValueOf bytes (Err e) → IsFileOf bytes (Err e)
  described : (d : Data) → IsValueOf bytes (Ok d) → IsFileOf bytes (file_of d)

-- Bytes describe one thing at most.
abbrev pub FileIsUnique : Type 0
FileIsUnique = (bytes : List ℕ) (r s : Result File Malformed) → IsFileOf bytes r → IsFileOf bytes s → r ≡ s
