-- The admissible form of a vector is unique as a list in order.
use Rattle.std.specs.Prelude.{nat_eq}
use Rattle.std.specs.Cmp.Lexicographic.{bytes_decides, pointwise, slice_cmp}
use Rattle.std.specs.List.{All, AllPairs, sum}
use Rattle.std.specs.List.Sorted.{IsPermutation}
use Rattle.std.proofs.Math.Path.{fun_ext}
use Rattle.std.proofs.lemmas.List.Sorted.{All-permutation, sum_by-IsPermutation}
use Rattle.std.specs.Ordering.{is_lt, MatchOrdering, nat_cmp, ordering_then, ordering_reverse}
use Rattle.std.proofs.Common.{◌≡◌, ◌≢◌, ℕ, suc, ◌<◌, Bool, true, false, cond, ◌&&◌, Ordering, Less, Equal, Greater, List, [], ◌∷◌, length, map, get_or, refl, sym, ◌∙◌, ap, subst, arith}
use Rattle.std.proofs.lemmas.Bool.{and_left, false_from_ne_true, false≢true}
use Rattle.std.proofs.lemmas.Cmp.{ranked, tied_itself, nat_list_cmp_total}
use Rattle.std.proofs.lemmas.List.{get_or_default, get_or-map, length-map}
use Rattle.std.proofs.lemmas.List.Elements.{All-cons, All-nil, All-head, All-tail, All-weaker, All-from_get_or, Contains-get_or}
use Rattle.std.proofs.lemmas.List.Kept.{AllPairs-cons}
use Rattle.f2_vec.specs.Vectors.{sum_of, bit, plus}
use Rattle.f2_vec.specs.Spans.{combination}
use Rattle.f2_vec.proofs.Sums.{sum_of-swap}
use Rattle.f2_vec.proofs.Combinations.{map_same_all}
use Rattle.milnor_basis.specs.Basis.{basis_of}
use Rattle.milnor_basis.specs.Product.{is_odd, odd_by}
use Rattle.milnor_basis.proofs.Parity.{is_odd-count_by, odd_by-same}
use Rattle.milnor_laws.proofs.SumsModTwo.{plus-cancel, plus-and, odd_by-plus, odd_by-none, is_odd_below-one}
use Rattle.adem_laws.specs.Admissible.{value, IsAdmissible, admissible_of, IsAdmissibleSum, sum_of_values, AdmissibleFormIsUnique}
use Rattle.adem_laws.proofs.Monomials.{admissibles_are}
use Rattle.milnor_laws.proofs.Associative.{odd_by-places}
use Rattle.milnor_laws.proofs.Vectors.{combination-map}
use Rattle.adem_laws.proofs.Values.{has_term, value_is}
use Rattle.adem_laws.proofs.AdmissibleBasis.{admissibles_are_basis}

abbrev Monomial : Type 0
Monomial = List ℕ

-- m stands before k
abbrev Before : Monomial → Monomial → Type 0
Before m k = slice_cmp nat_cmp k m ≡ Less

less_from : (o : Ordering) → is_lt o ≡ true → o ≡ Less
less_from Less e = refl
less_from Equal e = absurd (false≢true e)
less_from Greater e = absurd (false≢true e)

pub equal_is_same : (m k : Monomial) → slice_cmp nat_cmp m k ≡ Equal → m ≡ k
equal_is_same [] [] e = refl
equal_is_same [] (y ∷ k) e = cc
equal_is_same (x ∷ m) [] e = cc
equal_is_same (x ∷ m) (y ∷ k) e =
    let both = by (nat_cmp x y) (slice_cmp nat_cmp m k) (ranked x y (nat_cmp x y) refl) e in
    ap (λ i. i ∷ m) both.0 ∙ ap (λ j. y ∷ j) (equal_is_same m k both.1)
  where
    by : (o r : Ordering) → MatchOrdering o (x < y) (x ≡ y) (y < x) → ordering_then o r ≡ Equal → (x ≡ y) × (r ≡ Equal)
    by Less r h e = cc
    by Equal r h e = (h, e)
    by Greater r h e = cc

not_before_itself : (m : Monomial) → Before m m → ⊥
not_before_itself m b = absurd (no (sym (tied_itself nat_list_cmp_total m) ∙ b))
  where
    no : Equal ≡ Less → ⊥
    no e = cc

-- how often m stands in a list, mod 2
abbrev count : Monomial → List Monomial → Bool
count m ks = odd_by (pointwise nat_eq m) ks

abbrev InOrder : List Monomial → Type 0
InOrder [] = Unit {0}
InOrder (m ∷ ms) = All (Before m) ms × InOrder ms

in_order_from : (ms : List Monomial) → AllPairs (λ m k. is_lt (slice_cmp nat_cmp k m) ≡ true) ms → InOrder ms
in_order_from [] h = tt
in_order_from (m ∷ ms) h =
    (All-from_get_or (Before m) ms [] (λ i l. less_from (slice_cmp nat_cmp (get_or ms i []) m) (h 0 (suc i) [] (omega arith) (omega arith))), in_order_from ms (λ i j d l k. h (suc i) (suc j) d (omega arith) (omega arith)))

in_pairs : (ms : List Monomial) → InOrder ms → AllPairs Before ms
in_pairs [] h = λ i j d l k. absurd (omega arith)
in_pairs (m ∷ ms) h = AllPairs-cons Before m ms h.0 (in_pairs ms h.1)

in_order_to : (ms : List Monomial) → InOrder ms → AllPairs (λ m k. is_lt (slice_cmp nat_cmp k m) ≡ true) ms
in_order_to ms h i j d l k = ap is_lt (in_pairs ms h i j d l k)

not_among : (m : Monomial) (ms : List Monomial) → All (Before m) ms → count m ms ≡ false
not_among m [] all = refl
not_among m (k ∷ ms) all =
    let differ : pointwise nat_eq m k ≡ false = false_from_ne_true (pointwise nat_eq m k) (λ e. not_before_itself m (subst (Before m) (sym ((bytes_decides m k).0 e)) (All-head (Before m) k ms all))) in
    ap (λ b. plus b (count m ms)) differ ∙ not_among m ms (All-tail (Before m) k ms all)

once_itself : (m : Monomial) (ms : List Monomial) → All (Before m) ms → count m (m ∷ ms) ≡ true
once_itself m ms all = ap (λ b. plus b (count m ms)) ((bytes_decides m m).1 refl) ∙ ap (plus true) (not_among m ms all)

before_all : (m k : Monomial) (ms : List Monomial) → Before m k → All (Before k) ms → All (Before m) (k ∷ ms)
before_all m k ms b all = All-cons (Before m) k ms b (All-weaker (Before k) (Before m) (λ x h. nat_list_cmp_total.trans x k m h b) ms all)

-- lists in order that have each of some monomials as often, mod 2
module _ (P : Monomial → Type 0) where
  same_in_order : (ms ks : List Monomial) → InOrder ms → InOrder ks → All P ms → All P ks → ((m : Monomial) → P m → count m ms ≡ count m ks) → ms ≡ ks
  same_in_order [] [] h g p q same = refl
  same_in_order [] (k ∷ ks) h g p q same = absurd (false≢true (same k (All-head P k ks q) ∙ once_itself k ks g.0))
  same_in_order (m ∷ ms) [] h g p q same = absurd (false≢true (sym (same m (All-head P m ms p)) ∙ once_itself m ms h.0))
  same_in_order (m ∷ ms) (k ∷ ks) h g p q same =
      at (slice_cmp nat_cmp m k) refl
      (λ e. same_in_order ms ks h.1 g.1 (All-tail P m ms p) (All-tail P k ks q) (λ x own.
      plus-cancel (pointwise nat_eq x m) (count x ms) (count x ks) (same x own ∙ ap (λ y. plus (pointwise nat_eq x y) (count x ks)) (sym (equal_is_same m k e)))))
    where
      at : (o : Ordering) → slice_cmp nat_cmp m k ≡ o → (slice_cmp nat_cmp m k ≡ Equal → ms ≡ ks) → m ∷ ms ≡ k ∷ ks
      at Less e rest = absurd (false≢true (sym (not_among k (m ∷ ms) (before_all k m ms e h.0)) ∙ same k (All-head P k ks q) ∙ once_itself k ks g.0))
      at Equal e rest = ap (λ x. x ∷ ms) (equal_is_same m k e) ∙ ap (λ xs. k ∷ xs) (rest e)
      at Greater e rest =
          let turned : Before m k = nat_list_cmp_total.antisymm k m ∙ ap ordering_reverse e in
          absurd (false≢true (sym (not_among m (k ∷ ks) (before_all m k ks turned g.0)) ∙ sym (same m (All-head P m ms p)) ∙ once_itself m ms h.0))

-- the sum of the values, as a sum over all admissible monomials

abbrev Degree : ℕ → Monomial → Type 0
Degree n m = IsAdmissible m × (sum m ≡ n)

odd_values : (n : ℕ) (c : Monomial → Bool) (ms : List Monomial) → All (Degree n) ms → combination (length (basis_of n)) (map c ms) (map value ms) ≡ map (λ t. odd_by (λ m. c m && has_term m t) ms) (basis_of n)
odd_values n c ms all =
    ap (combination (length (basis_of n)) (map c ms)) (map_same_all (Degree n) value (λ m. map (has_term m) (basis_of n)) ms all (λ m h. value_is m ∙ ap (λ k. map (has_term m) (basis_of k)) h.1))
    ∙ combination-map (length (basis_of n)) c has_term ms (basis_of n) refl

-- the sum of the values in another order
pub sum_of_values-permutation : (n : ℕ) (ms ks : List Monomial) → All (Degree n) ms → IsPermutation ms ks → sum_of_values n ks ≡ sum_of_values n ms
sum_of_values-permutation n ms ks all moves =
    odd_values n (λ m. true) ks (All-permutation (Degree n) ms ks moves all)
    ∙ ap (λ f. map f (basis_of n)) (fun_ext (λ t.
    sym (is_odd-count_by (λ m. true && has_term m t) ks)
    ∙ ap is_odd (sum_by-IsPermutation (λ m. cond (true && has_term m t) 1 0) ms ks moves)
    ∙ is_odd-count_by (λ m. true && has_term m t) ms))
    ∙ sym (odd_values n (λ m. true) ms all)

all_admissible : (n : ℕ) → All (Degree n) (admissible_of n)
all_admissible n = All-from_get_or (Degree n) (admissible_of n) [] (λ i l. ((admissibles_are n).members (get_or (admissible_of n) i [])).0 (Contains-get_or (admissible_of n) i [] l))

once_at : (n : ℕ) (p : Monomial → Bool) (k : Monomial) → Degree n k → odd_by (λ m. pointwise nat_eq m k && p m) (admissible_of n) ≡ p k
once_at n p k h =
    let found = ((admissibles_are n).members k).1 h in
    let i = found.0 in
    let here : get_or (admissible_of n) i [] ≡ k = get_or_default (admissible_of n) i [] k found.1 ∙ found.2 in
    odd_by-places (λ m. pointwise nat_eq m k && p m) (admissible_of n) []
    ∙ is_odd_below-one (λ j. pointwise nat_eq (get_or (admissible_of n) j []) k && p (get_or (admissible_of n) j [])) i (length (admissible_of n)) found.1
    (λ j l d. and_left (pointwise nat_eq (get_or (admissible_of n) j []) k) (p (get_or (admissible_of n) j []))
    (false_from_ne_true (pointwise nat_eq (get_or (admissible_of n) j []) k) (λ e. d ((admissibles_are n).once j i l found.1 ((bytes_decides (get_or (admissible_of n) j []) k).0 e ∙ sym here)))))
    ∙ ap (λ m. pointwise nat_eq m k && p m) here
    ∙ ap (λ b. b && p k) ((bytes_decides k k).1 refl)

by_counts : (n : ℕ) (p : Monomial → Bool) (ms : List Monomial) → All (Degree n) ms → odd_by (λ m. count m ms && p m) (admissible_of n) ≡ odd_by p ms
by_counts n p [] all = odd_by-none (λ m. false) (admissible_of n) (λ m. refl)
by_counts n p (k ∷ ms) all =
    odd_by-same (λ m. plus (pointwise nat_eq m k) (count m ms) && p m) (λ m. plus (pointwise nat_eq m k && p m) (count m ms && p m)) (admissible_of n) (λ m. plus-and (pointwise nat_eq m k) (count m ms) (p m))
    ∙ odd_by-plus (λ m. pointwise nat_eq m k && p m) (λ m. count m ms && p m) (admissible_of n)
    ∙ ap (λ b. plus b (odd_by (λ m. count m ms && p m) (admissible_of n))) (once_at n p k (All-head (Degree n) k ms all))
    ∙ ap (plus (p k)) (by_counts n p ms (All-tail (Degree n) k ms all))

-- which of them a list has
abbrev choice : ℕ → List Monomial → List Bool
choice n ms = map (λ m. count m ms) (admissible_of n)

choice-sum : (n : ℕ) (v : List Bool) (ms : List Monomial) → All (Degree n) ms → sum_of_values n ms ≡ v → IsAdmissibleSum n (choice n ms) v
choice-sum n v ms all e = record {
  one_each = length-map (admissible_of n) (λ m. count m ms);
  sum_is = odd_values n (λ m. count m ms) (admissible_of n) (all_admissible n)
      ∙ same_map (λ t. odd_by (λ m. count m ms && has_term m t) (admissible_of n)) (λ t. odd_by (λ m. true && has_term m t) ms) (basis_of n) (λ t. by_counts n (λ m. has_term m t) ms all)
      ∙ sym (odd_values n (λ m. true) ms all)
      ∙ e;
}
  where
    same_map : (f g : Monomial → Bool) (xs : List Monomial) → ((x : Monomial) → f x ≡ g x) → map f xs ≡ map g xs
    same_map f g [] h = refl
    same_map f g (x ∷ xs) h = ap (λ b. b ∷ map f xs) (h x) ∙ ap (λ ys. g x ∷ ys) (same_map f g xs h)

choices_same : (n : ℕ) (ms ks : List Monomial) → choice n ms ≡ choice n ks → (m : Monomial) → Degree n m → count m ms ≡ count m ks
choices_same n ms ks e m h =
    let found = ((admissibles_are n).members m).1 h in
    let at : (xs : List Monomial) → bit (choice n xs) found.0 ≡ count m xs = λ xs. get_or-map (λ k. count k xs) (admissible_of n) found.0 m false found.1 ∙ ap (λ k. count k xs) found.2 in
    sym (at ms) ∙ ap (λ c. bit c found.0) e ∙ at ks

-- the chosen ones, in order

picked : List Bool → List Monomial → List Monomial
picked [] ms = []
picked (c ∷ cs) [] = []
picked (true ∷ cs) (m ∷ ms) = m ∷ picked cs ms
picked (false ∷ cs) (m ∷ ms) = picked cs ms

picked-sum : (n : ℕ) (c : List Bool) (ms : List Monomial) → sum_of_values n (picked c ms) ≡ combination (length (basis_of n)) c (map value ms)
unfolding picked
picked-sum n [] ms = refl
picked-sum n (c ∷ cs) [] = refl
picked-sum n (true ∷ cs) (m ∷ ms) = ap (sum_of (value m)) (picked-sum n cs ms)
picked-sum n (false ∷ cs) (m ∷ ms) = picked-sum n cs ms

All-picked : (P : Monomial → Type 0) (c : List Bool) (ms : List Monomial) → All P ms → All P (picked c ms)
unfolding picked
All-picked P [] ms all = All-nil P
All-picked P (c ∷ cs) [] all = All-nil P
All-picked P (true ∷ cs) (m ∷ ms) all = All-cons P m (picked cs ms) (All-head P m ms all) (All-picked P cs ms (All-tail P m ms all))
All-picked P (false ∷ cs) (m ∷ ms) all = All-picked P cs ms (All-tail P m ms all)

abbrev Apart : List Monomial → Type 0
Apart [] = Unit {0}
Apart (m ∷ ms) = All (λ k. m ≢ k) ms × Apart ms

apart_from : (ms : List Monomial) → ((i j : ℕ) → i < length ms → j < length ms → get_or ms i [] ≡ get_or ms j [] → i ≡ j) → Apart ms
apart_from [] h = tt
apart_from (m ∷ ms) h = (
  All-from_get_or (λ k. m ≢ k) ms [] (λ i l e. let z : 0 ≡ suc i = h 0 (suc i) (omega arith) (omega arith) e in omega arith),
  apart_from ms (λ i j l k e. let z : suc i ≡ suc j = h (suc i) (suc j) (omega arith) (omega arith) e in omega arith),
)

Apart-picked : (c : List Bool) (ms : List Monomial) → Apart ms → Apart (picked c ms)
unfolding picked
Apart-picked [] ms h = tt
Apart-picked (c ∷ cs) [] h = tt
Apart-picked (true ∷ cs) (m ∷ ms) h = (All-picked (λ k. m ≢ k) cs ms h.0, Apart-picked cs ms h.1)
Apart-picked (false ∷ cs) (m ∷ ms) h = Apart-picked cs ms h.1

-- m put into a list in order

abbrev put : Ordering → Monomial → Monomial → List Monomial → List Monomial → List Monomial
put Less m k ms rest = m ∷ k ∷ ms
put Equal m k ms rest = m ∷ k ∷ ms
put Greater m k ms rest = k ∷ rest

abbrev placed : Monomial → List Monomial → List Monomial
placed m [] = m ∷ []
placed m (k ∷ ms) = put (slice_cmp nat_cmp k m) m k ms (placed m ms)

abbrev sorted : List Monomial → List Monomial
sorted [] = []
sorted (m ∷ ms) = placed m (sorted ms)

placed-sum : (n : ℕ) (m : Monomial) (ms : List Monomial) → sum_of_values n (placed m ms) ≡ sum_of_values n (m ∷ ms)
placed-sum n m [] = refl
placed-sum n m (k ∷ ms) = at (slice_cmp nat_cmp k m) (placed-sum n m ms)
  where
    at : (o : Ordering) → sum_of_values n (placed m ms) ≡ sum_of_values n (m ∷ ms) → sum_of_values n (put o m k ms (placed m ms)) ≡ sum_of_values n (m ∷ k ∷ ms)
    at Less rest = refl
    at Equal rest = refl
    at Greater rest = ap (sum_of (value k)) rest ∙ sum_of-swap (value k) (value m) (sum_of_values n ms)

sorted-sum : (n : ℕ) (ms : List Monomial) → sum_of_values n (sorted ms) ≡ sum_of_values n ms
sorted-sum n [] = refl
sorted-sum n (m ∷ ms) = placed-sum n m (sorted ms) ∙ ap (sum_of (value m)) (sorted-sum n ms)

All-placed : (P : Monomial → Type 0) (m : Monomial) (ms : List Monomial) → P m → All P ms → All P (placed m ms)
All-placed P m [] h all = All-cons P m [] h all
All-placed P m (k ∷ ms) h all = at (slice_cmp nat_cmp k m) (All-placed P m ms h (All-tail P k ms all))
  where
    at : (o : Ordering) → All P (placed m ms) → All P (put o m k ms (placed m ms))
    at Less rest = All-cons P m (k ∷ ms) h all
    at Equal rest = All-cons P m (k ∷ ms) h all
    at Greater rest = All-cons P k (placed m ms) (All-head P k ms all) rest

All-sorted : (P : Monomial → Type 0) (ms : List Monomial) → All P ms → All P (sorted ms)
All-sorted P [] all = all
All-sorted P (m ∷ ms) all = All-placed P m (sorted ms) (All-head P m ms all) (All-sorted P ms (All-tail P m ms all))

placed-in_order : (m : Monomial) (ms : List Monomial) → All (λ k. m ≢ k) ms → InOrder ms → InOrder (placed m ms)
placed-in_order m [] apart h = (All-nil (Before m), tt)
placed-in_order m (k ∷ ms) apart h = at (slice_cmp nat_cmp k m) refl (placed-in_order m ms (All-tail (λ x. m ≢ x) k ms apart) h.1)
  where
    at : (o : Ordering) → slice_cmp nat_cmp k m ≡ o → InOrder (placed m ms) → InOrder (put o m k ms (placed m ms))
    at Less e rest = (before_all m k ms e h.0, h)
    at Equal e rest = absurd (All-head (λ x. m ≢ x) k ms apart (sym (equal_is_same k m e)))
    at Greater e rest = (All-placed (Before k) m ms (nat_list_cmp_total.antisymm m k ∙ ap ordering_reverse e) h.0, rest)

sorted-in_order : (ms : List Monomial) → Apart ms → InOrder (sorted ms)
sorted-in_order [] h = tt
sorted-in_order (m ∷ ms) h = placed-in_order m (sorted ms) (All-sorted (λ k. m ≢ k) ms h.0) (sorted-in_order ms h.1)

pub admissible_form_is_unique : AdmissibleFormIsUnique
admissible_form_is_unique n v fits =
    let one = admissibles_are_basis n v fits in
    let chosen : List Monomial = picked one.0 (admissible_of n) in
    let all : All (Degree n) (sorted chosen) = All-sorted (Degree n) chosen (All-picked (Degree n) one.0 (admissible_of n) (all_admissible n)) in
    let order : InOrder (sorted chosen) = sorted-in_order chosen (Apart-picked one.0 (admissible_of n) (apart_from (admissible_of n) (admissibles_are n).once)) in
    let total : sum_of_values n (sorted chosen) ≡ v = sorted-sum n chosen ∙ picked-sum n one.0 (admissible_of n) ∙ one.1.sum_is in (
      sorted chosen,
      record { admissible = all; in_order = in_order_to (sorted chosen) order; sum_is = total },
      λ others h. same_in_order (Degree n) others (sorted chosen) (in_order_from others h.in_order) order h.admissible all
          (choices_same n others (sorted chosen) (one.2 (choice n others) (choice-sum n v others h.admissible h.sum_is) ∙ sym (one.2 (choice n (sorted chosen)) (choice-sum n v (sorted chosen) all total)))),
    )
