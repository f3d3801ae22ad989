-- The values of monomials, term by term, and their leading terms.
use Rattle.std.specs.Prelude.{nat_eq}
use Rattle.std.specs.Cmp.Lexicographic.{bytes_decides, pointwise}
use Rattle.std.specs.List.{All, sum}
use Rattle.std.proofs.Common.{◌≡◌, ℕ, zero, suc, ◌+◌, ◌<◌, pos, inl, inr, Bool, true, ◌&&◌, List, [], ◌∷◌, length, map, refl, sym, ◌∙◌, ap, subst, arith}
use Rattle.std.proofs.lemmas.Bool.{and_from, and_parts, cases_Bool, false≢true}
use Rattle.std.proofs.lemmas.List.{length-map}
use Rattle.std.proofs.lemmas.List.Elements.{All-head, All-tail}
use Rattle.f2_vec.specs.Spans.{combination}
use Rattle.f2_vec.specs.Vectors.{plus}
use Rattle.f2_vec.proofs.Combinations.{map_same_all}
use Rattle.milnor_basis.specs.Exponents.{entry, degree_from, degree_of, IsTrimmed}
use Rattle.milnor_basis.specs.Basis.{basis_of}
use Rattle.milnor_basis.specs.Product.{coefficient, product_bits, odd_by}
use Rattle.milnor_basis.proofs.BasisLemmas.{All-basis_of}
use Rattle.milnor_basis.proofs.ExponentLemmas.{degree_from-trimmed, IsTrimmed-tail, same_answers, trimmed-same}
use Rattle.milnor_basis.proofs.Homogeneous.{product_is_homogeneous}
use Rattle.milnor_basis.proofs.Kummer.{sum-cons}
use Rattle.milnor_product.specs.Times.{times_at}
use Rattle.milnor_laws.proofs.Associative.{odd_by-same_all, once_in_basis}
use Rattle.milnor_laws.proofs.Vectors.{combination-map}
use Rattle.adem_laws.specs.Adem.{square}
use Rattle.adem_laws.specs.Admissible.{value, monomial_of}
use Rattle.milnor_basis.specs.Front.{front}
use Rattle.adem_laws.proofs.Leading.{Same, IsAtMost, below_not_same, below_at_most, terms_at_most, leading_term}
use Rattle.adem_laws.proofs.Monomials.{degree_of-square, sum-monomial_of}
use Rattle.milnor_basis.proofs.Fronts.{degree_of-front}

-- whether Sq(T) is a term of the value
abbrev pub has_term : List ℕ → List ℕ → Bool
has_term [] t = pointwise nat_eq [] t
has_term (i ∷ m) t = odd_by (λ s. has_term m s && coefficient (square i) s t) (basis_of (sum m))

abbrev HasDegree : ℕ → List ℕ → Type 0
HasDegree n x = IsTrimmed x × (degree_of x ≡ n)

-- the value as a vector

pub value_is : (m : List ℕ) → value m ≡ map (has_term m) (basis_of (sum m))
value_is [] = refl
value_is (i ∷ m) =
    let n : ℕ = sum (i ∷ m) in
    let whole : n ≡ i + sum m = sum-cons i m in
    let first = degree_of-square i in
    let width : sum m + degree_of (square i) ≡ n = omega arith in
    ap (times_at (square i) (pos (sum m))) (value_is m)
    ∙ ap (λ k. combination (length (basis_of k)) (map (has_term m) (basis_of (sum m))) (map (product_bits (square i)) (basis_of (sum m)))) width
    ∙ ap (combination (length (basis_of n)) (map (has_term m) (basis_of (sum m)))) (map_same_all (HasDegree (sum m)) (product_bits (square i)) (λ s. map (coefficient (square i) s) (basis_of n)) (basis_of (sum m)) (All-basis_of (sum m))
    (λ s h. let d = h.1 in let e : degree_of (square i) + degree_of s ≡ n = omega arith in ap (λ k. map (coefficient (square i) s) (basis_of k)) e))
    ∙ combination-map (length (basis_of n)) (has_term m) (λ s. coefficient (square i) s) (basis_of (sum m)) (basis_of n) refl

pub length-value : (m : List ℕ) → length (value m) ≡ length (basis_of (sum m))
length-value m = ap length (value_is m) ∙ length-map (basis_of (sum m)) (has_term m)

-- an odd number is not 0
odd_by-some : {X : Type 0} → (P : X → Type 0) (p : X → Bool) (xs : List X) → All P xs → odd_by p xs ≡ true → (x : X) × P x × (p x ≡ true)
odd_by-some P p [] all e = absurd (false≢true e)
odd_by-some P p (x ∷ xs) all e = elim (cases_Bool (p x)) [
  | inl here ↦ (x, All-head P x xs all, here)
  | inr none ↦ odd_by-some P p xs (All-tail P x xs all) (sym (ap (λ b. plus b (odd_by p xs)) none) ∙ e)
]

-- the leading term

-- lists of one degree that are the same behind their first numbers
first_same : (r : ℕ) (s t : List ℕ) → ((i : ℕ) → entry t (suc i) ≡ entry s i) → degree_of t ≡ degree_of (r ∷ s) → entry t 0 ≡ r
first_same r s [] same e = omega arith
first_same r s (x ∷ t) same e =
    let rest : degree_from 2 t ≡ degree_from 2 s = sym (degree_from-trimmed 2 t) ∙ ap (degree_from 2) (trimmed-same t s same) ∙ degree_from-trimmed 2 s in
    omega arith

at_most_same : (f g h : ℕ → ℕ) → IsAtMost f g → Same g h → IsAtMost f h
at_most_same f g h (inl a) b = inl (λ i. a i ∙ b i)
at_most_same f g h (inr a) b =
    let e = b a.place in
    inr (record { place = a.place; smaller = omega (arith, a.smaller); same_after = λ i l. a.same_after i l ∙ b i })

at_most_at_most : (f g h : ℕ → ℕ) → IsAtMost f g → IsAtMost g h → IsAtMost f h
at_most_at_most f g h a (inl b) = at_most_same f g h a b
at_most_at_most f g h a (inr b) = inr (below_at_most f g h a b)

pub at_most_behind : (r : ℕ) (s t : List ℕ) → degree_of t ≡ degree_of (r ∷ s) → IsAtMost (λ i. entry t (suc i)) (entry s) → IsAtMost (entry t) (entry (r ∷ s))
at_most_behind r s t e (inl same) = inl at
  where
    at : (i : ℕ) → entry t i ≡ entry (r ∷ s) i
    at zero = first_same r s t same e
    at (suc i) = same i
at_most_behind r s t e (inr b) = inr (record { place = suc b.place; smaller = b.smaller; same_after = later })
  where
    later : (i : ℕ) → suc b.place < i → entry t i ≡ entry (r ∷ s) i
    later zero l = absurd (omega arith)
    later (suc i) l = b.same_after i (omega arith)

-- the terms of the values of Sq(u) and a sum of one degree
module _ (r : ℕ) (s : List ℕ) where
  abbrev u : ℕ
  u = front (r ∷ s)

  abbrev n : ℕ
  n = sum (monomial_of s)

  same_degree : (x t : List ℕ) → HasDegree n x → coefficient (square u) x t ≡ true → HasDegree (degree_of (r ∷ s)) t
  same_degree x t h e =
      let d = product_is_homogeneous (square u) x t e in
      let whole = degree_of-front r s in
      let first = degree_of-square u in
      let rest = sum-monomial_of s in
      let own = h.1 in
      (d.0, omega (arith, d.1))

pub has_term_at_most : (r : List ℕ) → IsTrimmed r → (t : List ℕ) → has_term (monomial_of r) t ≡ true → IsAtMost (entry t) (entry r)
has_term_at_most [] h t e = inl (λ i. ap (λ x. entry x i) (sym ((bytes_decides [] t).0 e)))
has_term_at_most (r ∷ s) h t e =
    let some = odd_by-some (HasDegree (n r s)) (λ x. has_term (monomial_of s) x && coefficient (square (u r s)) x t) (basis_of (n r s)) (All-basis_of (n r s)) e in
    let x = some.0 in
    let both = and_parts (has_term (monomial_of s) x) (coefficient (square (u r s)) x t) some.2 in
    let own = same_degree r s x t some.1 both.1 in
    at_most_behind r s t own.1
    (at_most_at_most (λ i. entry t (suc i)) (entry x) (entry s)
    (terms_at_most (u r s) x t own.0 both.1)
    (has_term_at_most s (IsTrimmed-tail r s h) x both.0))

pub same_lists : (r s : List ℕ) → IsTrimmed r → IsTrimmed s → Same (entry r) (entry s) → r ≡ s
same_lists r s h k e = sym h ∙ trimmed-same r s e ∙ k

pub has_leading_term : (r : List ℕ) → IsTrimmed r → has_term (monomial_of r) r ≡ true
has_leading_term [] h = refl
has_leading_term (r ∷ s) h =
    let tight = IsTrimmed-tail r s h in
    odd_by-same_all (HasDegree (n r s)) (λ x. has_term (monomial_of s) x && coefficient (square (u r s)) x (r ∷ s)) (pointwise nat_eq s) (basis_of (n r s)) (All-basis_of (n r s))
    (λ x own. same_answers (has_term (monomial_of s) x && coefficient (square (u r s)) x (r ∷ s)) (pointwise nat_eq s x)
    (λ e. let both = and_parts (has_term (monomial_of s) x) (coefficient (square (u r s)) x (r ∷ s)) e in
    (bytes_decides s x).1 (alone r s x tight own.0 (has_term_at_most s tight x both.0) (terms_at_most (u r s) x (r ∷ s) h both.1)))
    (λ e. let same : s ≡ x = (bytes_decides s x).0 e in
    subst (λ y. (has_term (monomial_of s) y && coefficient (square (u r s)) y (r ∷ s)) ≡ true) same
    (and_from (has_term (monomial_of s) s) (coefficient (square (u r s)) s (r ∷ s)) (has_leading_term s tight) (leading_term (u r s) s (r ∷ s) h (λ i. refl) refl))))
    ∙ once_in_basis (n r s) s tight (sym (sum-monomial_of s))
  where
    alone : (r : ℕ) (s x : List ℕ) → IsTrimmed s → IsTrimmed x → IsAtMost (entry x) (entry s) → IsAtMost (λ i. entry (r ∷ s) (suc i)) (entry x) → s ≡ x
    alone r s x hs hx (inl same) b = sym (same_lists x s hx hs same)
    alone r s x hs hx (inr below) b = absurd (below_not_same (entry s) (entry s) (below_at_most (entry s) (entry x) (entry s) b below) (λ i. refl))
