-- The monomial of an exponent list, made from its last number to its first.
use Rattle.std.proofs.Common.{◌≡◌, ℕ, zero, suc, ◌<◌, List, [], ◌∷◌, ◌++◌, length, drop, reverse, refl, sym, ap, ◌∙◌, arith}
use Rattle.std.proofs.lemmas.Grind.{reverse_onto}
use Rattle.milnor_basis.specs.Front.{front}
use Rattle.adem_laws.specs.Admissible.{monomial_of}

monomial_of-more : (r : List ℕ) (i : ℕ) → i < length r → monomial_of (drop i r) ≡ front (drop i r) ∷ monomial_of (drop (suc i) r)
monomial_of-more [] i l = absurd (omega arith)
monomial_of-more (x ∷ r) zero l = refl
monomial_of-more (x ∷ r) (suc i) l = monomial_of-more r i (omega arith)

pub pushed : (r numbers : List ℕ) (i f : ℕ) → i < length r → numbers ≡ reverse (monomial_of (drop (suc i) r)) → f ≡ front (drop i r) → numbers ++ f ∷ [] ≡ reverse (monomial_of (drop i r))
pushed r numbers i f l e is =
    ap (λ xs. xs ++ f ∷ []) e
    ∙ ap (λ x. reverse (monomial_of (drop (suc i) r)) ++ x ∷ []) is
    ∙ sym (reverse_onto (monomial_of (drop (suc i) r)) (front (drop i r)) [])
    ∙ ap reverse (sym (monomial_of-more r i l))
