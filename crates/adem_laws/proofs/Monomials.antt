-- Admissible monomials and exponent lists: one for one.
use Rattle.std.specs.List.{sum}
use Rattle.std.proofs.Common.{◌≡◌, ℕ, zero, suc, ◌+◌, ◌-◌, ◌*◌, ◌<◌, ◌≤◌, List, [], ◌∷◌, length, get_or, refl, sym, ◌∙◌, ap, subst, arith}
use Rattle.std.proofs.lemmas.List.{length-map, get_or-map}
use Rattle.milnor_basis.specs.Exponents.{entry, degree_of, put_before, IsTrimmed}
use Rattle.milnor_basis.specs.Basis.{basis_of}
use Rattle.milnor_basis.proofs.BasisLemmas.{Contains-basis_of}
use Rattle.milnor_basis.proofs.ExponentLemmas.{IsTrimmed-tail}
use Rattle.milnor_basis.proofs.Fronts.{degree_of-front, positive_front}
use Rattle.milnor_basis.proofs.Kummer.{sum-cons}
use Rattle.milnor_basis.proofs.Places.{basis_of-member, basis_of-once}
use Rattle.adem_laws.specs.Adem.{square}
use Rattle.adem_laws.specs.Admissible.{IsAdmissible, monomial_of, admissible_of, AdmissiblesAre}
use Rattle.milnor_basis.specs.Front.{front}

pub degree_of-square : (n : ℕ) → degree_of (square n) ≡ n
degree_of-square zero = refl
degree_of-square (suc n) = omega arith

pub sum-monomial_of : (r : List ℕ) → sum (monomial_of r) ≡ degree_of r
sum-monomial_of [] = refl
sum-monomial_of (r ∷ s) =
    sum-cons (front (r ∷ s)) (monomial_of s) ∙ ap (λ n. front (r ∷ s) + n) (sum-monomial_of s) ∙ sym (degree_of-front r s)

-- the monomial of an exponent list is admissible

first-monomial_of : (r : List ℕ) → entry (monomial_of r) 0 ≡ front r
first-monomial_of [] = refl
first-monomial_of (r ∷ s) = refl

module _ (r : ℕ) (s : List ℕ) (h : IsTrimmed (r ∷ s)) (rest : IsAdmissible (monomial_of s)) where
  positive : (j : ℕ) → j < length (front (r ∷ s) ∷ monomial_of s) → 0 < entry (front (r ∷ s) ∷ monomial_of s) j
  positive zero l = positive_front (r ∷ s) (omega arith) h
  positive (suc j) l = rest.positive j (omega arith)

  doubling : (j : ℕ) → suc j < length (front (r ∷ s) ∷ monomial_of s) → 2 * entry (front (r ∷ s) ∷ monomial_of s) (suc j) ≤ entry (front (r ∷ s) ∷ monomial_of s) j
  doubling zero l = omega (arith, first-monomial_of s)
  doubling (suc j) l = rest.doubling j (omega arith)

monomial_of-admissible : (r : List ℕ) → IsTrimmed r → IsAdmissible (monomial_of r)
monomial_of-admissible [] h = record { positive = λ j l. absurd (omega arith); doubling = λ j l. absurd (omega arith) }
monomial_of-admissible (r ∷ s) h =
    let rest : IsAdmissible (monomial_of s) = monomial_of-admissible s (IsTrimmed-tail r s h) in
    record { positive = positive r s h rest; doubling = doubling r s h rest }

-- and each admissible monomial is one

pub exponents_from : List ℕ → List ℕ
exponents_from [] = []
exponents_from (i ∷ m) = (i - 2 * entry m 0) ∷ exponents_from m

tail_admissible : (i : ℕ) (m : List ℕ) → IsAdmissible (i ∷ m) → IsAdmissible m
tail_admissible i m h = record { positive = λ j l. h.positive (suc j) (omega arith); doubling = λ j l. h.doubling (suc j) (omega arith) }

first_twice : (i : ℕ) (m : List ℕ) → IsAdmissible (i ∷ m) → 2 * entry m 0 ≤ i
first_twice i [] h = omega arith
first_twice i (x ∷ m) h = h.doubling 0 (omega arith)

front_back : (m : List ℕ) → IsAdmissible m → front (exponents_from m) ≡ entry m 0
unfolding exponents_from
front_back [] h = refl
front_back (i ∷ m) h = omega (arith, first_twice i m h, front_back m (tail_admissible i m h))

monomial_back : (m : List ℕ) → IsAdmissible m → monomial_of (exponents_from m) ≡ m
unfolding exponents_from
monomial_back [] h = refl
monomial_back (i ∷ m) h =
    ap (λ k. k ∷ monomial_of (exponents_from m)) (front_back (i ∷ m) h) ∙ ap (λ k. i ∷ k) (monomial_back m (tail_admissible i m h))

put_positive : (x : ℕ) → 0 < x → put_before x [] ≡ x ∷ []
put_positive zero l = absurd (omega arith)
put_positive (suc x) l = refl

trimmed_back : (m : List ℕ) → IsAdmissible m → IsTrimmed (exponents_from m)
unfolding exponents_from
trimmed_back [] h = refl
trimmed_back (i ∷ []) h = let p : 0 < i = h.positive 0 (omega arith) in put_positive (i - 2 * 0) (omega arith)
trimmed_back (i ∷ x ∷ m) h = ap (put_before (i - 2 * x)) (trimmed_back (x ∷ m) (tail_admissible i (x ∷ m) h))

exponents_back : (r : List ℕ) → exponents_from (monomial_of r) ≡ r
unfolding exponents_from
exponents_back [] = refl
exponents_back (r ∷ s) =
    let e : front (r ∷ s) - 2 * entry (monomial_of s) 0 ≡ r = omega (arith, first-monomial_of s) in
    ap (λ k. k ∷ exponents_from (monomial_of s)) e ∙ ap (λ k. r ∷ k) (exponents_back s)

pub monomial_of-once : (r s : List ℕ) → monomial_of r ≡ monomial_of s → r ≡ s
monomial_of-once r s e = sym (exponents_back r) ∙ ap exponents_from e ∙ exponents_back s

pub length-admissible_of : (n : ℕ) → length (admissible_of n) ≡ length (basis_of n)
length-admissible_of n = length-map (basis_of n) monomial_of

pub admissible_at : (n i : ℕ) → i < length (basis_of n) → get_or (admissible_of n) i [] ≡ monomial_of (get_or (basis_of n) i [])
admissible_at n i l = get_or-map monomial_of (basis_of n) i [] [] l

pub admissibles_are : AdmissiblesAre
admissibles_are n = record {
  members = λ m. (
    (λ c. let l : c.0 < length (basis_of n) = omega (arith, c.1, length-admissible_of n) in
        let own = basis_of-member n c.0 l in
        let is : monomial_of (get_or (basis_of n) c.0 []) ≡ m = sym (get_or-map monomial_of (basis_of n) c.0 [] m l) ∙ c.2 in
        subst (λ x. IsAdmissible x × (sum x ≡ n)) is (monomial_of-admissible (get_or (basis_of n) c.0 []) own.0, sum-monomial_of (get_or (basis_of n) c.0 []) ∙ own.1)),
    (λ h. let r = exponents_from m in
        let degree : degree_of r ≡ n = sym (sum-monomial_of r) ∙ ap sum (monomial_back m h.0) ∙ h.1 in
        let c = Contains-basis_of n r (trimmed_back m h.0) degree in
        (c.0, omega (arith, c.1, length-admissible_of n), get_or-map monomial_of (basis_of n) c.0 r m c.1 ∙ ap monomial_of c.2 ∙ monomial_back m h.0)),
  );
  once = λ i j k l e.
      let a : i < length (basis_of n) = omega (arith, length-admissible_of n) in
      let b : j < length (basis_of n) = omega (arith, length-admissible_of n) in
      basis_of-once n i j a b (monomial_of-once (get_or (basis_of n) i []) (get_or (basis_of n) j []) (sym (admissible_at n i a) ∙ e ∙ admissible_at n j b));
}
