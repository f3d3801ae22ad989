-- The cells of a real projective space and the squares on them, as a module file has them.
use Rattle.std.specs.Prelude.{nat_lt}
use Rattle.std.specs.Fmt.{digits, signed_decimal}
use Rattle.std.specs.List.{filter, flat_map, range_with_len, AllByRecursion}
use Rattle.std.proofs.Common.{◌≡◌, ℕ, zero, suc, ◌+◌, ◌*◌, ◌^◌, ◌<◌, ◌≤◌, ℤ, pos, negsuc, neg_ℤ, ◌+ℤ◌, ◌≤ℤ◌, Bool, true, false, cond, List, [], ◌∷◌, ◌++◌, All, length, map, take, drop, get_or, append_assoc, append-nil, refl, sym, ap, ◌∙◌, arith}
use Rattle.std.proofs.lemmas.Bool.{agree_below_at, and_parts, ltb-true}
use Rattle.std.proofs.lemmas.Fmt.{signed_decimal_injective}
use Rattle.std.proofs.lemmas.Int.{ints}
use Rattle.std.proofs.lemmas.Grind.{flat_map-append}
use Rattle.std.proofs.lemmas.List.{length-append, map-append, take_more}
use Rattle.std.proofs.lemmas.List.Elements.{All-append, All-cons, All-nil, All-from_recursion, filter-append}
use Rattle.std.proofs.lemmas.List.FromFn.{length-map-range_with_len, get_or-map-range_with_len, map-range_with_len_more}
use lib.Signed.{mag}
use Rattle.f2_vec.proofs.Ones.{range_more}
use Rattle.milnor_basis.specs.Product.{is_odd}
use Rattle.module_spec.specs.declared.limits.TheConstants.{MAX_GENERATORS, MAX_DEGREE}
use Rattle.module_spec.specs.Names.{is_name}
use Rattle.module_spec.specs.Spec.{powers, Generator, Entry, degree_at, no_generator}
use Rattle.module_json.specs.Spaces.{binomial}
use Rattle.module_json.specs.ModuleFile.{cell, cells, is_joined, joining, squares_on, space_file}
use Rattle.module_spec.specs.WellFormed.{NeverFall, IsEntryOf, Agree, IsWellFormed}

-- ---- the cells

module _ (min : ℤ) (count : ℕ) where
  pub length-cells : length (cells min count) ≡ count
  length-cells = length-map-range_with_len (λ i. cell (min +ℤ pos i)) 0 count

  pub cell_at : (i : ℕ) (d : Generator) → i < count → get_or (cells min count) i d ≡ cell (min +ℤ pos i)
  cell_at i d l = get_or-map-range_with_len (λ i. cell (min +ℤ pos i)) 0 count i i d l (omega arith)

  pub degree-cells : (i : ℕ) → i < count → degree_at (cells min count) i ≡ min +ℤ pos i
  degree-cells i l = ap (λ g. g.degree) (cell_at i no_generator l)

  pub cells_in_order : NeverFall (cells min count)
  cells_in_order i j d l m =
      let k : j < count = omega (arith, length-cells) in
      let e = ap (λ g. g.degree) (cell_at i d (omega arith)) in
      let f = ap (λ g. g.degree) (cell_at j d k) in
      omega (arith, ints)

natural_name : (n : ℕ) → n < 129 → is_name (cell (pos n)).name ≡ true
unfolding digits
natural_name n l = agree_below_at (λ n. is_name (cell (pos n)).name) (λ n. true) 129 n refl l

negative_name : (n : ℕ) → n < 128 → is_name (cell (negsuc n)).name ≡ true
unfolding digits
negative_name n l = agree_below_at (λ n. is_name (cell (negsuc n)).name) (λ n. true) 128 n refl l

cell_is_named : (z : ℤ) → neg_ℤ MAX_DEGREE ≤ℤ z → z ≤ℤ MAX_DEGREE → is_name (cell z).name ≡ true
cell_is_named (pos n) l h = natural_name n (omega (arith, ints))
cell_is_named (negsuc n) l h = negative_name n (omega (arith, ints))

small : (z : ℤ) → neg_ℤ MAX_DEGREE ≤ℤ z → z ≤ℤ MAX_DEGREE → mag z < 2 ^ 63
small (pos n) l h = omega (arith, ints)
small (negsuc n) l h = omega (arith, ints)

-- ---- the squares on them

record IsJoining (count : ℕ) (e : Entry) : Type 0 where
  pub square : 1 ≤ e.n
  pub small : e.n ≤ 64
  pub inside : e.generator + e.n < count
  pub sum : e.sum ≡ (e.generator + e.n) ∷ []

record IsPower (k : ℕ) : Type 0 where
  pub positive : 1 ≤ k
  pub small : k ≤ 64

powers_are : AllByRecursion IsPower powers
powers_are = (record { positive = omega arith; small = omega arith }, (record { positive = omega arith; small = omega arith }, (record { positive = omega arith; small = omega arith }, (record { positive = omega arith; small = omega arith }, (record { positive = omega arith; small = omega arith }, (record { positive = omega arith; small = omega arith }, (record { positive = omega arith; small = omega arith }, tt)))))))

module _ (min : ℤ) (count : ℕ) where
  all_joined : (i : ℕ) (ks : List ℕ) → AllByRecursion IsPower ks → AllByRecursion (IsJoining count) (map (joining i) (filter (is_joined min count i) ks))
  all_joined i [] all = tt
  all_joined i (k ∷ ks) all = at (is_joined min count i k) refl (all_joined i ks all.1)
    where
      at : (b : Bool) → is_joined min count i k ≡ b → AllByRecursion (IsJoining count) (map (joining i) (filter (is_joined min count i) ks)) → AllByRecursion (IsJoining count) (map (joining i) (cond b (k ∷ filter (is_joined min count i) ks) (filter (is_joined min count i) ks)))
      at true is later =
          let within : i + k < count = ltb-true (i + k) count (and_parts (nat_lt (i + k) count) (is_odd (binomial (min +ℤ pos i) k)) is).0 in
          (record { square = all.0.positive; small = all.0.small; inside = within; sum = refl }, later)
      at false is later = later

  few_joined : (i : ℕ) (ks : List ℕ) → length (map (joining i) (filter (is_joined min count i) ks)) ≤ length ks
  few_joined i [] = omega arith
  few_joined i (k ∷ ks) = at (is_joined min count i k) (few_joined i ks)
    where
      at : (b : Bool) → length (map (joining i) (filter (is_joined min count i) ks)) ≤ length ks → length (map (joining i) (cond b (k ∷ filter (is_joined min count i) ks) (filter (is_joined min count i) ks))) ≤ suc (length ks)
      at true few = omega arith
      at false few = omega arith

  entries_joined : (j m : ℕ) → All (IsJoining count) (flat_map (squares_on min count) (range_with_len j m))
  entries_joined j zero = All-nil (IsJoining count)
  entries_joined j (suc m) =
      All-append (IsJoining count) (squares_on min count j) (flat_map (squares_on min count) (range_with_len (j + 1) m))
      (All-from_recursion (IsJoining count) (squares_on min count j) (all_joined j powers powers_are))
      (entries_joined (j + 1) m)

  few_entries : (j m : ℕ) → length (flat_map (squares_on min count) (range_with_len j m)) ≤ 7 * m
  few_entries j zero = omega arith
  few_entries j (suc m) = omega (arith, length-append (squares_on min count j) (flat_map (squares_on min count) (range_with_len (j + 1) m)), few_joined j powers, few_entries (j + 1) m)

  IsEntryOf-joining : (e : Entry) → IsJoining count e → IsEntryOf (cells min count) e
  IsEntryOf-joining e joined =
      let many = length-cells min count in
      let up : degree_at (cells min count) (e.generator + e.n) ≡ degree_at (cells min count) e.generator +ℤ pos e.n =
      (let own = degree-cells min count e.generator (omega (arith, joined.inside)) in let other = degree-cells min count (e.generator + e.n) joined.inside in omega (arith, ints)) in
      record {
        square = joined.square;
        digits = omega (arith, joined.small);
        generator = omega (arith, joined.inside, many);
        rising = rw joined.sum (λ k l. absurd (omega arith));
        within = rw joined.sum (All-cons (λ j. j < length (cells min count)) (e.generator + e.n) [] (omega (arith, joined.inside, many)) (All-nil (λ j. j < length (cells min count))));
        degrees = rw joined.sum (All-cons (λ j. degree_at (cells min count) j ≡ degree_at (cells min count) e.generator +ℤ pos e.n) (e.generator + e.n) [] up (All-nil (λ j. degree_at (cells min count) j ≡ degree_at (cells min count) e.generator +ℤ pos e.n)));
      }

joined_agree : (count : ℕ) (e f : Entry) → IsJoining count e → IsJoining count f → Agree e f
joined_agree count e f p q = record { sums = λ n i. p.sum ∙ ap (λ x. x ∷ []) (let same : e.generator + e.n ≡ f.generator + f.n = omega (arith, n, i) in same) ∙ sym q.sum }

-- ---- as they are made

pub cells_more : (min : ℤ) (n : ℕ) (z : ℤ) (first more : List Generator) (g : Generator) → first ≡ cells min n → g ≡ cell z → z ≡ min +ℤ pos n → more ≡ first ++ g ∷ [] → more ≡ cells min (n + 1)
cells_more min n z first more g before is at e =
    e ∙ ap (λ xs. xs ++ g ∷ []) before ∙ ap (λ x. cells min n ++ x ∷ []) (is ∙ ap cell at)
    ∙ sym (map-range_with_len_more (λ i. cell (min +ℤ pos i)) 0 n n (omega arith))

pub squares_more : (f : ℕ → List Entry) (n : ℕ) (first more : List Entry) → first ≡ flat_map f (range_with_len 0 n) → more ≡ first ++ f n → more ≡ flat_map f (range_with_len 0 (n + 1))
squares_more f n first more before e =
    e ∙ ap (λ xs. xs ++ f n) before
    ∙ ap (λ xs. flat_map f (range_with_len 0 n) ++ xs) (sym (append-nil (f n)))
    ∙ sym (flat_map-append f (range_with_len 0 n) (n ∷ []))
    ∙ ap (flat_map f) (sym (range_more 0 n n (omega arith)))

-- one square more, which may be none of a cell
pub square_more : (p : ℕ → Bool) (f : ℕ → Entry) (ks : List ℕ) (j k : ℕ) (b : Bool) (first next more : List Entry) → j < length ks → k ≡ get_or ks j 0 → p k ≡ b → next ≡ first ++ map f (filter p (take j ks)) → more ≡ cond b (next ++ f k ∷ []) next → more ≡ first ++ map f (filter p (take (j + 1) ks))
square_more p f ks j k b first next more l at is before e = e ∙ by b is ∙ ap (λ xs. first ++ map f (filter p xs)) (sym taken)
  where
    taken : take (j + 1) ks ≡ take j ks ++ k ∷ []
    taken = take_more ks j 0 l ∙ ap (λ x. take j ks ++ x ∷ []) (sym at)

    by : (c : Bool) → p k ≡ c → cond c (next ++ f k ∷ []) next ≡ first ++ map f (filter p (take j ks ++ k ∷ []))
    by true passes =
        ap (λ xs. xs ++ f k ∷ []) before ∙ append_assoc first (map f (filter p (take j ks))) (f k ∷ [])
        ∙ ap (λ xs. first ++ xs) (sym (map-append f (filter p (take j ks)) (k ∷ [])))
        ∙ ap (λ xs. first ++ map f (filter p (take j ks) ++ xs)) (sym (ap (λ c. cond c (k ∷ []) []) passes))
        ∙ ap (λ xs. first ++ map f xs) (sym (filter-append p (take j ks) (k ∷ [])))
    by false fails =
        before
        ∙ ap (λ xs. first ++ map f xs) (sym (append-nil (filter p (take j ks))))
        ∙ ap (λ xs. first ++ map f (filter p (take j ks) ++ xs)) (sym (ap (λ c. cond c (k ∷ []) []) fails))
        ∙ ap (λ xs. first ++ map f xs) (sym (filter-append p (take j ks) (k ∷ [])))

-- ---- the module

pub space_is_well_formed : (min : ℤ) (count : ℕ) → count ≤ MAX_GENERATORS → neg_ℤ MAX_DEGREE ≤ℤ min → (min +ℤ pos count) ≤ℤ (MAX_DEGREE +ℤ pos 1) → IsWellFormed (space_file min count)
space_is_well_formed min count few low high =
    let gs = cells min count in
    let many = length-cells min count in
    let joined = entries_joined min count 0 count in
    let es = flat_map (squares_on min count) (range_with_len 0 count) in
    record {
      by_degree = record {
        few = omega (arith, many);
        lowest = λ i d l. let e = ap (λ (g : Generator). g.degree) (cell_at min count i d (omega (arith, many))) in omega (arith, ints);
        highest = λ i d l. let e = ap (λ (g : Generator). g.degree) (cell_at min count i d (omega (arith, many))) in omega (arith, ints, many);
        ordered = cells_in_order min count;
        span = λ i j d l m.
            let e = ap (λ (g : Generator). g.degree) (cell_at min count i d (omega (arith, many))) in
            let f = ap (λ (g : Generator). g.degree) (cell_at min count j d (omega (arith, many))) in
            omega (arith, ints, many);
      };
      names = λ i d l. ap (λ (g : Generator). is_name g.name) (cell_at min count i d (omega (arith, many))) ∙ cell_is_named (min +ℤ pos i) (omega (arith, ints)) (omega (arith, ints, many));
      distinct = λ i j d l m same.
          let e = ap (λ (g : Generator). g.name) (cell_at min count i d (omega (arith, many))) in
          let f = ap (λ (g : Generator). g.name) (cell_at min count j d (omega (arith, many))) in
          let texts : signed_decimal (min +ℤ pos i) ≡ signed_decimal (min +ℤ pos j) = ap (drop 1) (sym e ∙ same ∙ f) in
          let z = signed_decimal_injective (min +ℤ pos i) (min +ℤ pos j) (small (min +ℤ pos i) (omega (arith, ints)) (omega (arith, ints, many))) (small (min +ℤ pos j) (omega (arith, ints)) (omega (arith, ints, many))) texts in
          omega (arith, ints);
      few_entries = omega (arith, few_entries min count 0 count);
      actions = λ k d l. IsEntryOf-joining min count (get_or es k d) (joined k d l);
      agree = λ i j d l m. joined_agree count (get_or es i d) (get_or es j d) (joined i d (omega arith)) (joined j d m);
    }

pub made_well_formed : (min : ℤ) (count : ℕ) (gs : List Generator) (es : List Entry) → gs ≡ cells min count → es ≡ flat_map (squares_on min count) (range_with_len 0 count) → count ≤ MAX_GENERATORS → neg_ℤ MAX_DEGREE ≤ℤ min → (min +ℤ pos count) ≤ℤ (MAX_DEGREE +ℤ pos 1) → IsWellFormed (record { generators = gs; entries = es })
made_well_formed min count gs es e f few low high = rw (e, f) (space_is_well_formed min count few low high)
