-- The least degree of a square that may be taken, row by row.
use Rattle.std.proofs.Common.{◌≡◌, ℕ, ◌+◌, ◌<◌, ◌≤◌, Option, Some, None, refl, sym, subst, arith, inl, inr}
use Rattle.std.specs.Option.{IfSome}
use Rattle.std.proofs.lemmas.Bool.Decides.{eqb_tells}

module _ (may : ℕ → ℕ → Type 0) where
  -- what is of the least degree in the rows before, or in row s, is so in both
  pub least_more : (found result : Option (ℕ × ℕ)) (s : ℕ) → IfSome found (λ q. (r k : ℕ) → r < s → may r k → q.1 ≤ k) → (found ≡ None → (r k : ℕ) → r < s → may r k → ⊥) → IfSome found (λ p. IfSome result (λ q. q.1 ≤ p.1)) → IfSome result (λ q. (k : ℕ) → may s k → q.1 ≤ k)
      → IfSome result (λ q. (r k : ℕ) → r < s + 1 → may r k → q.1 ≤ k)
  least_more found None s least none before here = tt
  least_more None (Some q) s least none before here = λ r k within ready. elim (eqb_tells r s) [
    | inl p ↦ here k (subst (λ (n : ℕ). may n k) p.1 ready)
    | inr p ↦ let other = p.1 in absurd (none refl r k (omega (arith, other)) ready)
  ]
  least_more (Some p) (Some q) s least none before here = λ r k within ready. elim (eqb_tells r s) [
    | inl e ↦ here k (subst (λ (n : ℕ). may n k) e.1 ready)
    | inr e ↦ let other = e.1 in let there = least r k (omega (arith, other)) ready in omega arith
  ]

  -- where no row before has one, nor row s, none through it has
  pub none_more : (found result : Option (ℕ × ℕ)) (s : ℕ) → (found ≡ None → (r k : ℕ) → r < s → may r k → ⊥) → (result ≡ None → found ≡ None) → (result ≡ None → (k : ℕ) → may s k → ⊥) → result ≡ None → (r k : ℕ) → r < s + 1 → may r k → ⊥
  none_more found result s none before here is r k within ready = elim (eqb_tells r s) [
    | inl p ↦ here is k (subst (λ (n : ℕ). may n k) p.1 ready)
    | inr p ↦ let other = p.1 in none (before is) r k (omega (arith, other)) ready
  ]

  -- what is so of all rows that have one is so of all
  pub least_of_all : (result : Option (ℕ × ℕ)) (s : ℕ) → ((r k : ℕ) → may r k → r < s + 1) → IfSome result (λ q. (r k : ℕ) → r < s + 1 → may r k → q.1 ≤ k) → IfSome result (λ q. (r k : ℕ) → may r k → q.1 ≤ k)
  least_of_all None s within least = tt
  least_of_all (Some q) s within least = λ r k ready. least r k (within r k ready) ready
