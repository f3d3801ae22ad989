-- The coproduct takes products to products.
use Rattle.std.proofs.Common.{◌≡◌, ℕ, ◌+◌, ◌*◌, ◌<◌, Bool, ◌&&◌, List, map, sym, ◌∙◌, ap, arith}
use Rattle.std.proofs.Math.Path.{fun_ext}
use Rattle.milnor_basis.specs.Product.{odd_by}
use Rattle.milnor_basis.proofs.Parity.{odd_by-same}
use Rattle.milnor_laws.proofs.SumsModTwo.{splits}
use Rattle.milnor_laws.proofs.Powers.{Monomial, Test, variable, Term, shift, odd_terms, odd_terms-one, odd_terms-same, odd_terms-and, odd_terms-odd_by}
use Rattle.milnor_laws.proofs.Coproduct.{term, triangle, coproduct, coproduct_raised, by_factors}

-- the product of two monomials
abbrev pub times : Monomial → Monomial → Monomial
times a b = λ k. a k + b k

-- a test of the products of the terms of two
abbrev pub product_test : ℕ → Monomial → Test → Test
product_test n u f = λ a b. coproduct n u (λ c d. f (times a c) (times b d))

pub coproduct-times : (n : ℕ) (u t : Monomial) → t 0 ≡ 0 → ((k : ℕ) → n < k → t k ≡ 0) → (f : Test) → coproduct n (times t u) f ≡ coproduct n t (product_test n u f)
coproduct-times n u = by_factors n (λ t. (f : Test) → coproduct n (times t u) f ≡ coproduct n t (product_test n u f))
    (λ f. let none : (a : Monomial) → a ≡ (λ k. 0 + a k) = λ a. fun_ext (λ k. omega arith) in
    ap (λ v. coproduct n v f) (sym (none u))
    ∙ odd_terms-same n ts u f (λ c d. f (λ k. 0 + c k) (λ k. 0 + d k)) (λ c d. ap (λ x. f x d) (none c) ∙ ap (f (λ k. 0 + c k)) (none d))
    ∙ sym (odd_terms-one n ts (product_test n u f)))
    (λ k t above within same f.
    let order : times (λ a. variable k a + t a) u ≡ (λ a. variable k a + times t u a) = fun_ext (λ a. omega arith) in
    ap (λ v. coproduct n v f) order
    ∙ coproduct_raised n k within (times t u) f
    ∙ odd_by-same (λ p. coproduct n (times t u) (shift 1 (term p) f)) (λ p. coproduct n t (shift 1 (term p) (product_test n u f))) (splits k)
    (λ p. same (shift 1 (term p) f) ∙ odd_terms-same n ts t (product_test n u (shift 1 (term p) f)) (shift 1 (term p) (product_test n u f))
    (λ a b. odd_terms-same n ts u (λ c d. shift 1 (term p) f (times a c) (times b d)) (λ c d. f (times (λ i. 1 * (term p).left i + a i) c) (times (λ j. 1 * (term p).right j + b j) d))
    (λ c d. let l : (λ i. 1 * (term p).left i + times a c i) ≡ times (λ i. 1 * (term p).left i + a i) c = fun_ext (λ i. regroup ((term p).left i) (a i) (c i)) in
    let r : (λ j. 1 * (term p).right j + times b d j) ≡ times (λ j. 1 * (term p).right j + b j) d = fun_ext (λ j. regroup ((term p).right j) (b j) (d j)) in
    ap (λ x. f x (λ j. 1 * (term p).right j + times b d j)) l ∙ ap (f (times (λ i. 1 * (term p).left i + a i) c)) r)))
    ∙ sym (coproduct_raised n k within t (product_test n u f)))
  where
    ts : List Term
    ts = map term (triangle n)

    regroup : (x a c : ℕ) → 1 * x + (a + c) ≡ (1 * x + a) + c
    regroup x a c = omega arith

-- a double sum of tests, each with a factor of its own
pub odd_terms-two : {X Y : Type 0} → (n : ℕ) (cs : List Term) (t : Monomial) (c : X → Y → Bool) (g : X → Y → Test) (xs : List X) (ys : List Y)
    → odd_terms n cs t (λ a b. odd_by (λ x. odd_by (λ y. c x y && g x y a b) ys) xs) ≡ odd_by (λ x. odd_by (λ y. c x y && odd_terms n cs t (g x y)) ys) xs
odd_terms-two n cs t c g xs ys =
    odd_terms-odd_by n cs t (λ x a b. odd_by (λ y. c x y && g x y a b) ys) xs
    ∙ odd_by-same (λ x. odd_terms n cs t (λ a b. odd_by (λ y. c x y && g x y a b) ys)) (λ x. odd_by (λ y. c x y && odd_terms n cs t (g x y)) ys) xs
    (λ x. odd_terms-odd_by n cs t (λ y a b. c x y && g x y a b) ys
    ∙ odd_by-same (λ y. odd_terms n cs t (λ a b. c x y && g x y a b)) (λ y. c x y && odd_terms n cs t (g x y)) ys (λ y. odd_terms-and n cs t (c x y) (g x y)))
