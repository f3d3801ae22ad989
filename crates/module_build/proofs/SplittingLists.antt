-- The splittings of an exponent list with a given left part, and those of one degree.
use Rattle.std.specs.Prelude.{◌⊎◌, nat_eq, nat_le, nat_lt, slice_set}
use Rattle.std.specs.Cmp.Lexicographic.{bytes_decides, pointwise}
use Rattle.std.specs.List.{All}
use Rattle.std.proofs.Common.{◌≡◌, ◌≢◌, ℕ, suc, ◌+◌, ◌-◌, ◌*◌, ◌^◌, ◌<◌, ◌≤◌, inl, inr, Bool, true, false, ◌&&◌, List, [], ◌∷◌, ◌++◌, length, take, get_or, refl, sym, ◌∙◌, ap, subst, arith}
use Rattle.std.proofs.lemmas.List.{take_more, take_all, get_or-set_same, get_or-set_other}
use Rattle.std.proofs.lemmas.List.Elements.{All-append, All-cons, All-nil}
use Rattle.std.proofs.lemmas.Bool.{cases_eq, cases_lt, and_left, eq-eqb, eqb-true, ne_eqb, false_from_ne_true, lt-ltb, le-ltb, le-leb, leb-true}
use Rattle.std.proofs.Math.Bool as Booleans
use Rattle.f2_vec.specs.Vectors.{plus}
use Rattle.f2_vec.proofs.Sums.{plus-assoc, plus-false}
use Rattle.milnor_basis.specs.Exponents.{entry, degree_from, degree_of, trimmed, IsTrimmed}
use Rattle.milnor_basis.specs.Basis.{basis_of}
use Rattle.milnor_basis.proofs.BasisLemmas.{All-basis_of}
use Rattle.milnor_basis.proofs.ExponentLemmas.{entry_past, entry-trimmed, IsTrimmed-trimmed, same_answers, trimmed-same}
use Rattle.milnor_basis.specs.Product.{odd_by}
use Rattle.milnor_basis.proofs.Parity.{odd_by-append, odd_by-same}
use Rattle.milnor_laws.proofs.SumsModTwo.{odd_by-and, odd_by-none, odd_by-plus, odd_by-swap}
use Rattle.milnor_laws.proofs.Associative.{odd_by-same_all, once_in_basis}
use Rattle.hopf_laws.specs.Diagonal.{splittings, added}
use Rattle.hopf_laws.proofs.Splittings.{Pair, IsSplit, All-splittings, All-whole}
use Rattle.hopf_laws.proofs.Cartan.{same_pair, splitting_count, entry-added, IsTrimmed-added, length-left}
use Rattle.hopf_laws.proofs.Antipode.{pointwise-turned}
use Rattle.module_build.specs.declared.splittings.Splitting.{Splitting}
use Rattle.module_build.specs.Inside.Splittings.{sum_over, AddsDegree, AddsLeft}

never : false ≡ true → ⊥
never e = cc

-- ---- differences

pub is_difference : (r a numbers : List ℕ) → IsTrimmed r → IsTrimmed a → ((j : ℕ) → entry numbers j + entry a j ≡ entry r j) → added a (trimmed numbers) ≡ r
is_difference r a numbers hr ha h =
    sym (IsTrimmed-added a (trimmed numbers) ha (IsTrimmed-trimmed numbers))
    ∙ trimmed-same (added a (trimmed numbers)) r (λ j. entry-added a (trimmed numbers) j ∙ ap (λ n. entry a j + n) (entry-trimmed numbers j) ∙ omega (arith, h j))
    ∙ hr

pub no_difference_at : (r a b : List ℕ) (i : ℕ) → entry r i < entry a i → added a b ≢ r
no_difference_at r a b i l e = let at : entry r i ≡ entry a i + entry b i = ap (λ x. entry x i) (sym e) ∙ entry-added a b i in omega arith

pub no_difference_longer : (r a b : List ℕ) → length r < length a → added a b ≢ r
no_difference_longer r a b l e = omega (arith, length-left a b, ap length e)

pub set_more : (numbers a r : List ℕ) (i x : ℕ) → i < length numbers → x + entry a i ≡ entry r i → ((j : ℕ) → j < i → entry numbers j + entry a j ≡ entry r j) → (j : ℕ) → j < i + 1 → entry (slice_set numbers i x) j + entry a j ≡ entry r j
set_more numbers a r i x l here before j m = elim (cases_eq j i) [
  | inl e ↦ ap (λ k. entry (slice_set numbers i x) k + entry a k) e ∙ ap (λ n. n + entry a i) (get_or-set_same numbers i x 0 l) ∙ here ∙ ap (entry r) (sym e)
  | inr d ↦ ap (λ n. n + entry a j) (get_or-set_other numbers i j x 0 d) ∙ before j (omega arith)
]

pub set_behind : (numbers : List ℕ) (i x : ℕ) → ((j : ℕ) → i ≤ j → entry numbers j ≡ 0) → (j : ℕ) → i + 1 ≤ j → entry (slice_set numbers i x) j ≡ 0
set_behind numbers i x behind j m = get_or-set_other numbers i j x 0 (λ e. omega arith) ∙ behind j (omega arith)

pub whole_difference : (r a numbers : List ℕ) (i : ℕ) → IsTrimmed r → IsTrimmed a → length a ≤ length r → length r ≤ i → ((j : ℕ) → j < i → entry numbers j + entry a j ≡ entry r j) → ((j : ℕ) → i ≤ j → entry numbers j ≡ 0) → added a (trimmed numbers) ≡ r
whole_difference r a numbers i hr ha short all before behind = is_difference r a numbers hr ha (λ j. elim (cases_lt j i) [
  | inl l ↦ before j l
  | inr l ↦ omega (arith, behind j l, entry_past a j (omega arith), entry_past r j (omega arith))
])

-- degrees add
degree_from-added : (k : ℕ) (a b : List ℕ) → degree_from k (added a b) ≡ degree_from k a + degree_from k b
degree_from-added k [] b = omega arith
degree_from-added k (x ∷ xs) [] = omega arith
degree_from-added k (x ∷ xs) (y ∷ ys) = both x y (2 ^ k - 1) (degree_from (suc k) (added xs ys)) (degree_from (suc k) xs) (degree_from (suc k) ys) (degree_from-added (suc k) xs ys)
  where
    both : (x y w s t u : ℕ) → s ≡ t + u → (x + y) * w + s ≡ (x * w + t) + (y * w + u)
    both x y w s t u e = omega arith

pub degree-splitting : (r a b : List ℕ) → added a b ≡ r → degree_of a + degree_of b ≡ degree_of r
degree-splitting r a b e = sym (degree_from-added 1 a b) ∙ ap degree_of e

pub each_pushed : (P : Splitting → Type 0) (xs ys : List Splitting) (s : Splitting) → ys ≡ xs ++ s ∷ [] → P s → All P xs → All P ys
each_pushed P xs ys s e p h = subst (All P) (sym e) (All-append P xs (s ∷ []) h (All-cons P s [] p (All-nil P)))

pub no_splittings : (P : Splitting → Type 0) → All P []
no_splittings P = All-nil P

-- ---- one left part

-- the sum over the splittings with this left part
abbrev pub with_left : List ℕ → (Pair → Bool) → List ℕ → Bool
with_left r f a = odd_by (λ p. pointwise nat_eq a p.0 && f p) (splittings r)

-- the parts of splittings and their sums
All-parts : (r : List ℕ) → All (λ p. IsSplit 1 r p × ((j : ℕ) → entry p.0 j + entry p.1 j ≡ entry r j)) (splittings r)
All-parts r i d l = (All-splittings 1 r i d l, All-whole r i d l)

pub with_left-one : (r a b : List ℕ) (f : Pair → Bool) → IsTrimmed r → IsTrimmed a → IsTrimmed b → added a b ≡ r → with_left r f a ≡ f (a, b)
with_left-one r a b f hr ha hb e =
    odd_by-same_all (λ p. IsSplit 1 r p × ((j : ℕ) → entry p.0 j + entry p.1 j ≡ entry r j)) (λ p. pointwise nat_eq a p.0 && f p) (λ p. f (a, b) && same_pair (a, b) p) (splittings r) (All-parts r)
    (λ p h. at p h.0 h.1 (pointwise nat_eq a p.0) refl)
    ∙ odd_by-and (f (a, b)) (same_pair (a, b)) (splittings r)
    ∙ ap (λ x. f (a, b) && x) (splitting_count (a, b) ha hb r hr ∙ (bytes_decides (added a b) r).1 e)
    ∙ Booleans.and-true (f (a, b))
  where
    at : (p : Pair) → IsSplit 1 r p → ((j : ℕ) → entry p.0 j + entry p.1 j ≡ entry r j) → (c : Bool) → pointwise nat_eq a p.0 ≡ c → (c && f p) ≡ (f (a, b) && (c && pointwise nat_eq b p.1))
    at p h k true g =
        let first : a ≡ p.0 = (bytes_decides a p.0).0 g in
        let second : b ≡ p.1 = sym hb ∙ trimmed-same b p.1 (λ j. let x : entry r j ≡ entry a j + entry b j = ap (λ y. entry y j) (sym e) ∙ entry-added a b j in let y : entry a j ≡ entry p.0 j = ap (λ z. entry z j) first in omega (arith, k j)) ∙ h.right in
        ap (λ x. f (x, p.1)) (sym first) ∙ ap (λ y. f (a, y)) (sym second) ∙ sym (Booleans.and-true (f (a, b))) ∙ ap (λ x. f (a, b) && x) (sym ((bytes_decides b p.1).1 second))
    at p h k false g = sym (Booleans.and-false (f (a, b)))

pub with_left-none : (r a : List ℕ) (f : Pair → Bool) → IsTrimmed r → IsTrimmed a → ((b : List ℕ) → added a b ≢ r) → with_left r f a ≡ false
with_left-none r a f hr ha none =
    odd_by-same_all (λ p. IsSplit 1 r p × ((j : ℕ) → entry p.0 j + entry p.1 j ≡ entry r j)) (λ p. pointwise nat_eq a p.0 && f p) (λ p. false) (splittings r) (All-parts r)
    (λ p h. let left = h.0 in and_left (pointwise nat_eq a p.0) (f p) (false_from_ne_true (pointwise nat_eq a p.0) (λ g.
    let first : a ≡ p.0 = (bytes_decides a p.0).0 g in
    none p.1 (sym (IsTrimmed-added a p.1 ha left.right) ∙ trimmed-same (added a p.1) r (λ j. entry-added a p.1 j ∙ ap (λ z. entry z j + entry p.1 j) first ∙ h.1 j) ∙ hr))))
    ∙ odd_by-none (λ p. false) (splittings r) (λ p. refl)

-- ---- one degree

in_basis : (n : ℕ) (r : List ℕ) → IsTrimmed r → odd_by (λ a. pointwise nat_eq a r) (basis_of n) ≡ nat_eq (degree_of r) n
in_basis n r h = at (nat_eq (degree_of r) n) refl
  where
    at : (b : Bool) → nat_eq (degree_of r) n ≡ b → odd_by (λ a. pointwise nat_eq a r) (basis_of n) ≡ b
    at true e = odd_by-same (λ a. pointwise nat_eq a r) (pointwise nat_eq r) (basis_of n) (λ a. pointwise-turned a r) ∙ once_in_basis n r h (eqb-true (degree_of r) n e)
    at false e =
        odd_by-same_all (λ a. IsTrimmed a × (degree_of a ≡ n)) (λ a. pointwise nat_eq a r) (λ a. false) (basis_of n) (All-basis_of n)
        (λ a own. false_from_ne_true (pointwise nat_eq a r) (λ g. let same : degree_of r ≡ n = ap degree_of (sym ((bytes_decides a r).0 g)) ∙ own.1 in never (sym e ∙ eq-eqb (degree_of r) n same)))
        ∙ odd_by-none (λ a. false) (basis_of n) (λ a. refl)

pub with_left-degree : (n : ℕ) (r : List ℕ) (f : Pair → Bool) → odd_by (with_left r f) (basis_of n) ≡ odd_by (λ p. nat_eq (degree_of p.0) n && f p) (splittings r)
with_left-degree n r f =
    odd_by-swap (λ a p. pointwise nat_eq a p.0 && f p) (basis_of n) (splittings r)
    ∙ odd_by-same_all (IsSplit 1 r) (λ p. odd_by (λ a. pointwise nat_eq a p.0 && f p) (basis_of n)) (λ p. nat_eq (degree_of p.0) n && f p) (splittings r) (All-splittings 1 r)
    (λ p h. odd_by-same (λ a. pointwise nat_eq a p.0 && f p) (λ a. f p && pointwise nat_eq a p.0) (basis_of n) (λ a. Booleans.and_comm (pointwise nat_eq a p.0) (f p))
    ∙ odd_by-and (f p) (λ a. pointwise nat_eq a p.0) (basis_of n)
    ∙ ap (λ x. f p && x) (in_basis n p.0 h.left)
    ∙ Booleans.and_comm (f p) (nat_eq (degree_of p.0) n))

-- ---- all degrees

both_degrees : (d n : ℕ) (b : Bool) → plus (nat_lt d n && b) (nat_eq d n && b) ≡ (nat_lt d (n + 1) && b)
both_degrees d n b = elim (cases_lt d n) [
  | inl l ↦ ap (λ x. plus (x && b) (nat_eq d n && b)) (lt-ltb d n l) ∙ ap (λ x. plus b (x && b)) (ne_eqb d n (λ e. omega arith)) ∙ plus-false b ∙ ap (λ x. x && b) (sym (lt-ltb d (n + 1) (omega arith)))
  | inr l ↦ ap (λ x. plus (x && b) (nat_eq d n && b)) (le-ltb d n l) ∙ same l (nat_eq d n) refl
]
  where
    same : n ≤ d → (c : Bool) → nat_eq d n ≡ c → (c && b) ≡ (nat_lt d (n + 1) && b)
    same l true e = let g : d ≡ n = eqb-true d n e in ap (λ x. x && b) (sym (lt-ltb d (n + 1) (omega arith)))
    same l false e = ap (λ x. x && b) (sym (le-ltb d (n + 1) (above (λ g. never (sym e ∙ eq-eqb d n g)))))
      where
        above : d ≢ n → n + 1 ≤ d
        above g = omega arith

-- what a function gives to splittings whose left part is of this degree at least
abbrev pub from : ℕ → (Pair → Bool) → Pair → Bool
from first f p = nat_le first (degree_of p.0) && f p

not_leb : (a b : ℕ) → b < a → nat_le a b ≡ false
not_leb a b l = grind arith

pub degrees_none : (first : ℕ) (r : List ℕ) (f : Pair → Bool) → odd_by (λ p. nat_lt (degree_of p.0) first && from first f p) (splittings r) ≡ false
degrees_none first r f = odd_by-none (λ p. nat_lt (degree_of p.0) first && from first f p) (splittings r) (λ p. none (degree_of p.0) (f p))
  where
    none : (d : ℕ) (b : Bool) → (nat_lt d first && (nat_le first d && b)) ≡ false
    none d b = elim (cases_lt d first) [
      | inl l ↦ ap (λ x. nat_lt d first && (x && b)) (not_leb first d l) ∙ Booleans.and-false (nat_lt d first)
      | inr l ↦ ap (λ x. x && (nat_le first d && b)) (le-ltb d first l)
    ]

pub degrees_more : (n : ℕ) (r : List ℕ) (f : Pair → Bool) → plus (odd_by (λ p. nat_lt (degree_of p.0) n && f p) (splittings r)) (odd_by (λ p. nat_eq (degree_of p.0) n && f p) (splittings r)) ≡ odd_by (λ p. nat_lt (degree_of p.0) (n + 1) && f p) (splittings r)
degrees_more n r f =
    sym (odd_by-plus (λ p. nat_lt (degree_of p.0) n && f p) (λ p. nat_eq (degree_of p.0) n && f p) (splittings r))
    ∙ odd_by-same (λ p. plus (nat_lt (degree_of p.0) n && f p) (nat_eq (degree_of p.0) n && f p)) (λ p. nat_lt (degree_of p.0) (n + 1) && f p) (splittings r) (λ p. both_degrees (degree_of p.0) n (f p))

-- through the lesser of a number and the degree of R
pub degrees_all : (n first last max : ℕ) (r : List ℕ) (f : Pair → Bool) → last + 1 ≤ n → last ≤ max → (n ≤ last + 1) ⊎ (n ≤ first) → (degree_of r ≤ max → last ≡ degree_of r) → (max ≤ degree_of r → last ≡ max)
    → odd_by (λ p. nat_lt (degree_of p.0) n && from first f p) (splittings r) ≡ odd_by (λ p. nat_le (degree_of p.0) max && from first f p) (splittings r)
degrees_all n first last max r f lo few hi low high =
    odd_by-same_all (IsSplit 1 r) (λ p. nat_lt (degree_of p.0) n && from first f p) (λ p. nat_le (degree_of p.0) max && from first f p) (splittings r) (All-splittings 1 r) (λ p h. at p h (nat_le first (degree_of p.0)) refl)
  where
    ltb_true : (a b : ℕ) → nat_lt a b ≡ true → a < b
    ltb_true a b e = elim (cases_lt a b) [ inl l ↦ l | inr l ↦ absurd (cc (le-ltb a b l)) ]

    within : (p : Pair) → first ≤ degree_of p.0 → degree_of p.0 < n → degree_of p.0 ≤ max
    within p g l = elim hi [ inl a ↦ omega arith | inr a ↦ absurd (omega arith) ]

    at : (p : Pair) → IsSplit 1 r p → (b : Bool) → nat_le first (degree_of p.0) ≡ b → (nat_lt (degree_of p.0) n && (b && f p)) ≡ (nat_le (degree_of p.0) max && (b && f p))
    at p h false g = Booleans.and-false (nat_lt (degree_of p.0) n) ∙ sym (Booleans.and-false (nat_le (degree_of p.0) max))
    at p h true g =
        ap (λ x. x && f p) (same_answers (nat_lt (degree_of p.0) n) (nat_le (degree_of p.0) max) (λ e. le-leb (degree_of p.0) max (within p (leb-true first (degree_of p.0) g) (ltb_true (degree_of p.0) n e)))
        (λ e. let l = leb-true (degree_of p.0) max e in let d = h.degree in lt-ltb (degree_of p.0) n (elim (cases_lt max (degree_of r)) [ inl past ↦ let g = high (omega arith) in omega arith | inr within ↦ let g = low within in omega arith ])))

-- ---- lists

sum_pushed : (f : Pair → Bool) (xs ys : List Splitting) (s : Splitting) → ys ≡ xs ++ s ∷ [] → sum_over f ys ≡ plus (sum_over f xs) (f (s.left, s.right))
sum_pushed f xs ys s e = ap (sum_over f) e ∙ odd_by-append (λ z. f (z.left, z.right)) xs (s ∷ []) ∙ ap (plus (sum_over f xs)) (plus-false (f (s.left, s.right)))

pub adds_one : (r a b : List ℕ) (xs ys : List Splitting) (s : Splitting) → IsTrimmed r → IsTrimmed a → IsTrimmed b → added a b ≡ r → s ≡ record { left = a; right = b } → ys ≡ xs ++ s ∷ [] → AddsLeft a r xs ys
adds_one r a b xs ys s hr ha hb e is more f = sum_pushed f xs ys s more ∙ ap (λ z. plus (sum_over f xs) (f (z.left, z.right))) is ∙ ap (plus (sum_over f xs)) (sym (with_left-one r a b f hr ha hb e))

pub adds_none : (r a : List ℕ) (xs ys : List Splitting) → IsTrimmed r → IsTrimmed a → ((b : List ℕ) → added a b ≢ r) → ys ≡ xs → AddsLeft a r xs ys
adds_none r a xs ys hr ha none same f = ap (sum_over f) same ∙ sym (plus-false (sum_over f xs)) ∙ ap (plus (sum_over f xs)) (sym (with_left-none r a f hr ha none))

-- one left part more
pub left_more : (r : List ℕ) (n i : ℕ) (a : List ℕ) (first xs ys : List Splitting) → i < length (basis_of n) → a ≡ get_or (basis_of n) i a
    → ((f : Pair → Bool) → sum_over f xs ≡ plus (sum_over f first) (odd_by (with_left r f) (take i (basis_of n)))) → AddsLeft a r xs ys
    → (f : Pair → Bool) → sum_over f ys ≡ plus (sum_over f first) (odd_by (with_left r f) (take (i + 1) (basis_of n)))
left_more r n i a first xs ys l is before more f =
    more f
    ∙ ap (λ b. plus b (with_left r f a)) (before f)
    ∙ plus-assoc (sum_over f first) (odd_by (with_left r f) (take i (basis_of n))) (with_left r f a)
    ∙ ap (λ b. plus (sum_over f first) (plus (odd_by (with_left r f) (take i (basis_of n))) b)) (sym (plus-false (with_left r f a)))
    ∙ ap (plus (sum_over f first)) (sym (odd_by-append (with_left r f) (take i (basis_of n)) (a ∷ [])))
    ∙ ap (λ ys. plus (sum_over f first) (odd_by (with_left r f) ys)) (ap (λ z. take i (basis_of n) ++ z ∷ []) is ∙ sym (take_more (basis_of n) i a l))

pub left_none : (r : List ℕ) (n : ℕ) (first xs : List Splitting) → xs ≡ first → (f : Pair → Bool) → sum_over f xs ≡ plus (sum_over f first) (odd_by (with_left r f) (take 0 (basis_of n)))
left_none r n first xs e f = ap (sum_over f) e ∙ sym (plus-false (sum_over f first))

pub left_all : (r : List ℕ) (n i : ℕ) (first xs : List Splitting) → length (basis_of n) ≤ i
    → ((f : Pair → Bool) → sum_over f xs ≡ plus (sum_over f first) (odd_by (with_left r f) (take i (basis_of n)))) → AddsDegree n r first xs
left_all r n i first xs l before f = before f ∙ ap (λ ys. plus (sum_over f first) (odd_by (with_left r f) ys)) (take_all i (basis_of n) l) ∙ ap (plus (sum_over f first)) (with_left-degree n r f)

-- one degree more
pub degree_more : (r : List ℕ) (first n : ℕ) (xs ys : List Splitting) → first ≤ n → ((f : Pair → Bool) → sum_over f xs ≡ odd_by (λ p. nat_lt (degree_of p.0) n && from first f p) (splittings r)) → AddsDegree n r xs ys
    → (f : Pair → Bool) → sum_over f ys ≡ odd_by (λ p. nat_lt (degree_of p.0) (n + 1) && from first f p) (splittings r)
degree_more r first n xs ys l before more f =
    more f
    ∙ ap (λ b. plus b (odd_by (λ p. nat_eq (degree_of p.0) n && f p) (splittings r))) (before f)
    ∙ ap (plus (odd_by (λ p. nat_lt (degree_of p.0) n && from first f p) (splittings r))) (odd_by-same (λ p. nat_eq (degree_of p.0) n && f p) (λ p. nat_eq (degree_of p.0) n && from first f p) (splittings r) (λ p. here (degree_of p.0) (f p) (nat_eq (degree_of p.0) n) refl))
    ∙ degrees_more n r (from first f)
  where
    here : (d : ℕ) (b c : Bool) → nat_eq d n ≡ c → (c && b) ≡ (c && (nat_le first d && b))
    here d b true e = let g : d ≡ n = eqb-true d n e in ap (λ x. x && b) (sym (le-leb first d (omega arith)))
    here d b false e = refl
