-- The listed squares of a real projective space are those of a module, so its file is accepted.
use Rattle.std.specs.Prelude.{nat_eq}
use Rattle.std.specs.Int.{is_power_of_two}
use Rattle.std.specs.List.{filter, flat_map, list_any, range_with_len}
use Rattle.std.specs.Option.{option_or}
use lib.Count.{ones}
use Rattle.std.proofs.Common.{◌≡◌, ◌≢◌, ◌⊎◌, ℕ, zero, suc, ◌+◌, ◌-◌, ◌^◌, ◌<◌, ◌≤◌, ℤ, pos, negsuc, neg_ℤ, ◌+ℤ◌, ◌≤ℤ◌, Bool, true, false, cond, ◌&&◌, ◌||◌, Some, None, List, [], ◌∷◌, ◌++◌, All, length, map, refl, sym, ◌∙◌, ap, inl, inr, arith, if◌then◌else◌}
use Rattle.std.proofs.Math.Bool as Booleans
use Rattle.std.proofs.lemmas.Bool.{agree_below_at, and_right, cases_eq, cases_lt, or_left, eq-eqb, eqb-true, lt-ltb, ne_eqb, false≢true}
use Rattle.std.proofs.lemmas.Int.{ints}
use Rattle.std.proofs.lemmas.List.{nil_from_length}
use Rattle.std.proofs.lemmas.List.Elements.{All-append, All-cons, All-filter, All-head, All-map, All-nil, All-tail}
use Rattle.milnor_basis.specs.Exponents.{degree_of}
use Rattle.milnor_basis.specs.Product.{choose, is_odd}
use Rattle.milnor_laws.proofs.Indecomposables.{single_trimmed}
use Rattle.projective_laws.proofs.Periods.{binomials_have_period, binomials_of_negatives}
use Rattle.module_spec.specs.declared.limits.TheConstants.{MAX_GENERATORS, MAX_DEGREE}
use Rattle.module_spec.specs.Spec.{powers, Entry, File, degree_at}
use Rattle.module_json.specs.Spaces.{binomial}
use Rattle.module_json.specs.ModuleFile.{is_joined, joining, squares_on, space_file}
use Rattle.module_json.proofs.Cells.{length-cells, degree-cells, cells_in_order}
use Rattle.finite_module.specs.Module.{Module, generators_in, width, value}
use Rattle.finite_module.specs.DerivedAction.{listed_sum, sum_vector, derived_module}
use Rattle.finite_module.proofs.Derived.{length-sum_vector}
use Rattle.finite_module.proofs.Widths.{degree_of-single}
use Rattle.module_check.specs.Acceptance.{is_as_derived, listed_from, first_relation, refusal_of}
use Rattle.module_check.specs.declared.fault.CheckFault.TheVariants.{Listed}
use Rattle.derived_laws.specs.Unique.{ActsAsListed}
use Rattle.derived_laws.proofs.Refused.{first_relation-none}
use Rattle.space_laws.specs.Spaces.{SpacesAreModules}
use Rattle.space_laws.proofs.Places.{one_cell, no_cell}
use Rattle.space_laws.proofs.Action.{gs, coefficient_on, operators, value_one, cells_are_module}

-- binomials of degrees, taken 256 higher

above_zero : (min : ℤ) → neg_ℤ MAX_DEGREE ≤ℤ min → (b : ℕ) × (pos b ≡ min +ℤ pos 256)
above_zero (pos n) l = (n + 256, omega (arith, ints))
above_zero (negsuc m) l = (255 - m, omega (arith, ints))

parity_at : (z : ℤ) (n k : ℕ) → pos n ≡ z +ℤ pos 256 → k < 256 → is_odd (binomial z k) ≡ is_odd (choose n k)
parity_at (pos m) n k e l =
    let f : 2 ^ 8 + m ≡ n = omega (arith, ints) in
    sym (binomials_have_period 8 m k l) ∙ ap (λ x. is_odd (choose x k)) f
parity_at (negsuc m) n k e l =
    let h : m < 2 ^ 8 = omega (arith, ints) in
    let f : 2 ^ 8 - 1 - m ≡ n = omega (arith, ints) in
    sym (binomials_of_negatives 8 m k h l) ∙ ap (λ x. is_odd (choose x k)) f

-- what the file lists

abbrev has : List ℕ → ℕ → Bool
has ks n = list_any (λ k. nat_eq k n) ks

other_cell : (j i n : ℕ) (ks : List ℕ) (rest : List Entry) → j ≢ i → listed_sum (map (joining j) ks ++ rest) n i ≡ listed_sum rest n i
other_cell j i n [] rest d = refl
other_cell j i n (k ∷ ks) rest d =
    ap (λ b. if b then (j + k) ∷ [] else listed_sum (map (joining j) ks ++ rest) n i) (and_right (nat_eq k n) (nat_eq j i) (ne_eqb j i d)) ∙ other_cell j i n ks rest d

own_cell : (i n : ℕ) (ks : List ℕ) (rest : List Entry) → listed_sum (map (joining i) ks ++ rest) n i ≡ (if has ks n then (i + n) ∷ [] else listed_sum rest n i)
own_cell i n [] rest = refl
own_cell i n (k ∷ ks) rest =
    ap (λ b. if nat_eq k n && b then (i + k) ∷ [] else listed_sum (map (joining i) ks ++ rest) n i) (eq-eqb i i refl) ∙ at (nat_eq k n) refl (own_cell i n ks rest)
  where
    at : (b : Bool) → nat_eq k n ≡ b → listed_sum (map (joining i) ks ++ rest) n i ≡ (if has ks n then (i + n) ∷ [] else listed_sum rest n i)
        → (if b && true then (i + k) ∷ [] else listed_sum (map (joining i) ks ++ rest) n i) ≡ (if b || has ks n then (i + n) ∷ [] else listed_sum rest n i)
    at true e h = ap (λ x. (i + x) ∷ []) (eqb-true k n e)
    at false e h = h

has-filter : (p : ℕ → Bool) (ks : List ℕ) (n : ℕ) → has (filter p ks) n ≡ (has ks n && p n)
has-filter p [] n = refl
has-filter p (k ∷ ks) n = at (p k) (nat_eq k n) refl refl (has-filter p ks n)
  where
    at : (b c : Bool) → p k ≡ b → nat_eq k n ≡ c → has (filter p ks) n ≡ (has ks n && p n) → has (cond b (k ∷ filter p ks) (filter p ks)) n ≡ ((c || has ks n) && p n)
    at true true e f h =
        let own : true ≡ p n = sym e ∙ ap p (eqb-true k n f) in
        ap (λ x. x || has (filter p ks) n) f ∙ own
    at true false e f h = ap (λ x. x || has (filter p ks) n) f ∙ h
    at false true e f h =
        let own : p n ≡ false = ap p (sym (eqb-true k n f)) ∙ e in
        h ∙ ap (λ x. has ks n && x) own ∙ Booleans.and-false (has ks n) ∙ sym own
    at false false e f h = h

module _ (min : ℤ) (count : ℕ) where
  abbrev from : ℕ → ℕ → List Entry
  from j m = flat_map (squares_on min count) (range_with_len j m)

  listed_none : (j m i n : ℕ) → (i < j ⊎ j + m ≤ i) → listed_sum (from j m) n i ≡ []
  listed_none j zero i n o = refl
  listed_none j (suc m) i n o =
      other_cell j i n (filter (is_joined min count j) powers) (from (j + 1) m) (differ o) ∙ listed_none (j + 1) m i n (next o)
    where
      differ : (i < j ⊎ j + suc m ≤ i) → j ≢ i
      differ (inl l) e = omega arith
      differ (inr l) e = omega arith

      next : (i < j ⊎ j + suc m ≤ i) → (i < j + 1 ⊎ j + 1 + m ≤ i)
      next (inl l) = inl (omega arith)
      next (inr l) = inr (omega arith)

  listed_is : (j m i n : ℕ) → j ≤ i → i < j + m → listed_sum (from j m) n i ≡ (if has (filter (is_joined min count i) powers) n then (i + n) ∷ [] else [])
  listed_is j zero i n l h = absurd (omega arith)
  listed_is j (suc m) i n l h = elim (cases_eq j i) [
    | inl same ↦
        ap (λ x. listed_sum (map (joining x) (filter (is_joined min count x) powers) ++ from (j + 1) m) n i) same
        ∙ own_cell i n (filter (is_joined min count i) powers) (from (j + 1) m)
        ∙ ap (λ xs. if has (filter (is_joined min count i) powers) n then (i + n) ∷ [] else xs) (listed_none (j + 1) m i n (inl (omega arith)))
    | inr other ↦ other_cell j i n (filter (is_joined min count j) powers) (from (j + 1) m) other ∙ listed_is (j + 1) m i n (omega arith) (omega arith)
  ]

  -- each entry is of a power of two
  ArePowers : All (λ k. is_power_of_two k ≡ true) powers
  unfolding ones
  ArePowers = let P : ℕ → Type 0 = λ k. is_power_of_two k ≡ true in
      All-cons P 1 (2 ∷ 4 ∷ 8 ∷ 16 ∷ 32 ∷ 64 ∷ []) refl (All-cons P 2 (4 ∷ 8 ∷ 16 ∷ 32 ∷ 64 ∷ []) refl (All-cons P 4 (8 ∷ 16 ∷ 32 ∷ 64 ∷ []) refl (All-cons P 8 (16 ∷ 32 ∷ 64 ∷ []) refl (All-cons P 16 (32 ∷ 64 ∷ []) refl (All-cons P 32 (64 ∷ []) refl (All-cons P 64 [] refl (All-nil P)))))))

  entries_are_squares : (j m : ℕ) → All (λ (e : Entry). is_power_of_two e.n ≡ true) (from j m)
  entries_are_squares j zero = All-nil (λ (e : Entry). is_power_of_two e.n ≡ true)
  entries_are_squares j (suc m) =
      All-append (λ (e : Entry). is_power_of_two e.n ≡ true) (squares_on min count j) (from (j + 1) m)
      (All-map (λ (e : Entry). is_power_of_two e.n ≡ true) (joining j) (filter (is_joined min count j) powers) (All-filter (is_joined min count j) (λ k. is_power_of_two k ≡ true) powers ArePowers))
      (entries_are_squares (j + 1) m)

listed_from-none : (m : Module) (i : ℕ) (es : List Entry) → All (λ (e : Entry). is_power_of_two e.n ≡ true) es → listed_from m i es ≡ None
listed_from-none m i [] all = refl
listed_from-none m i (e ∷ es) all =
    let P : Entry → Type 0 = λ x. is_power_of_two x.n ≡ true in
    let own : is_as_derived m e ≡ true = or_left (is_power_of_two e.n) _ (All-head P e es all) in
    ap (λ b. if b then listed_from m (suc i) es else Some (Listed i)) own ∙ listed_from-none m (suc i) es (All-tail P e es all)

-- below 64 the powers of two are the powers that a file may list
known : (n : ℕ) → n < 64 → is_power_of_two n ≡ has powers n
unfolding ones
known n l = agree_below_at is_power_of_two (has powers) 64 n refl l

positive : (n : ℕ) → is_power_of_two n ≡ true → 0 < n
unfolding ones
positive zero e = absurd (false≢true e)
positive (suc n) e = omega arith

module _ (min : ℤ) (count base : ℕ) (few : count ≤ MAX_GENERATORS) (raised : pos base ≡ min +ℤ pos 256) where
  abbrev file : File
  file = space_file min count

  listed_bit : (i n : ℕ) → is_power_of_two n ≡ true → i + n < count → coefficient_on min count base (n ∷ []) i ≡ list_any (nat_eq (i + n)) (listed_sum file.entries n i)
  listed_bit i n power l =
      let odd : is_odd (binomial (min +ℤ pos i) n) ≡ is_odd (choose (base + i) n) = parity_at (min +ℤ pos i) (base + i) n (omega (arith, ints)) (omega arith) in
      let listed : has (filter (is_joined min count i) powers) n ≡ is_odd (choose (base + i) n) =
      has-filter (is_joined min count i) powers n
      ∙ ap (λ b. b && is_joined min count i n) (sym (known n (omega arith)) ∙ power)
      ∙ ap (λ b. b && is_odd (binomial (min +ℤ pos i) n)) (lt-ltb (i + n) count l)
      ∙ odd in
      Booleans.and-true (is_odd (choose (base + i) n))
      ∙ sym (ap (λ xs. list_any (nat_eq (i + n)) xs) (listed_is min count 0 count i n (omega arith) (omega arith))
      ∙ either (has (filter (is_joined min count i) powers) n)
      ∙ listed)
    where
      either : (b : Bool) → list_any (nat_eq (i + n)) (if b then (i + n) ∷ [] else []) ≡ b
      either true = ap (λ x. x || false) (eq-eqb (i + n) (i + n) refl)
      either false = refl

  acts_as_listed : ActsAsListed file (operators min count base)
  acts_as_listed n i power inside =
      let g = gs min count base in
      let k : i < count = omega (arith, length-cells min count) in
      let up : degree_at g i +ℤ pos n ≡ min +ℤ pos (i + n) = (let d = degree-cells min count i k in omega (arith, ints)) in
      let single = degree_of-single n in
      elim (cases_lt (i + n) count) [
        | inr past ↦
            let none : width g (degree_at g i +ℤ pos n) ≡ 0 = ap (width g) up ∙ ap length (no_cell min count (i + n) past) in
            let wide : width g (degree_at g i +ℤ pos (degree_of (n ∷ []))) ≡ 0 = ap (λ x. width g (degree_at g i +ℤ pos x)) single ∙ none in
            nil_from_length (value g (operators min count base) (n ∷ []) i) ((cells_are_module min count base).widths (n ∷ []) i ∙ wide)
            ∙ sym (nil_from_length (sum_vector g (listed_sum file.entries n i) (degree_at g i +ℤ pos n)) (length-sum_vector g (listed_sum file.entries n i) (degree_at g i +ℤ pos n) ∙ none))
        | inl low ↦
            value_one min count base (n ∷ []) i (single_trimmed n (positive n power)) (omega arith)
            ∙ ap (λ b. b ∷ []) (listed_bit i n power low)
            ∙ sym (ap (map (λ j. list_any (nat_eq j) (listed_sum file.entries n i))) (ap (generators_in g) up ∙ one_cell min count (i + n) low))
      ]

  accepted : refusal_of file ≡ None
  accepted =
      ap (λ o. option_or o (first_relation (derived_module file))) (listed_from-none (derived_module file) 0 file.entries (entries_are_squares min count 0 count))
      ∙ first_relation-none file (cells_in_order min count) (operators min count base) (cells_are_module min count base) acts_as_listed

pub spaces_are_accepted : SpacesAreModules
spaces_are_accepted min count low few = let b = above_zero min low in accepted min count b.0 few b.1
