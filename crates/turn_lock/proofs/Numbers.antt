-- Passes that were joined into one: which numbers it has.
use Rattle.std.proofs.Common.{◌≡◌, ℕ, suc, ◌≤◌, ◌<◌, ◌⊎◌, inl, inr, ⊎_elim, List, ◌∷◌, ◌++◌, length, sym, subst, ◌∙◌, arith, length-append}
use Rattle.std.proofs.Math.Seq.{get_or-append_seam}
use Rattle.std.proofs.lemmas.List.Elements.{Contains-append_left}
use Rattle.std.specs.Prelude.{Contains}
use mathlib.Core.Logic.{dite}
use native.Mathlib.Decide.{ℕ_discrete}
use Rattle.turn_lock.specs.Turns.{PassState, after_join, HasBetween, HasAll}

-- the first of what was put behind a list
contains_behind : {X : Type 0} (xs ys : List X) (x : X) → Contains (xs ++ x ∷ ys) x
contains_behind xs ys x = (length xs, let l = length-append xs (x ∷ ys) in omega arith, get_or-append_seam xs x ys x)

module _ {N E : Type 0} where
  -- a pass has its own number
  pub has_one : (p : PassState N E) (n : ℕ) → p.number ≡ n → HasBetween p n (suc n)
  has_one p n is m low high = inl (omega arith)

  -- what it has, it has with the other's number too
  joined_has : (p other : PassState N E) (history : List (ℕ × E)) (low high n : ℕ) → HasBetween p low high → low ≤ n → n < high → (n ≡ p.number) ⊎ ((own : List E) × Contains (after_join p other history).joined (n, own))
  joined_has p other history low high n has more less =
      ⊎_elim
      (λ e. inl e)
      (λ t. inr (t.0, Contains-append_left p.joined ((other.number, other.own) ∷ other.joined) (n, t.0) t.1))
      (has n more less)

  others_number : (p other : PassState N E) (history : List (ℕ × E)) (n : ℕ) → other.number ≡ n → (own : List E) × Contains (after_join p other history).joined (n, own)
  others_number p other history n is = (other.own, subst (λ (k : ℕ). Contains (after_join p other history).joined (k, other.own)) is (contains_behind p.joined other.joined (other.number, other.own)))

  -- passes that are joined with rising numbers
  pub has_next : (p other : PassState N E) (history : List (ℕ × E)) (low high : ℕ) → HasBetween p low high → other.number ≡ high → HasBetween (after_join p other history) low (suc high)
  has_next p other history low high has is n more less =
      dite (ℕ_discrete n high)
      (λ e. inr (others_number p other history n (is ∙ sym e)))
      (λ ne. joined_has p other history low high n has more (omega arith))

  -- passes that are joined with falling numbers
  pub has_previous : (p other : PassState N E) (history : List (ℕ × E)) (low high : ℕ) → HasBetween p (suc low) high → other.number ≡ low → HasBetween (after_join p other history) low high
  has_previous p other history low high has is n more less =
      dite (ℕ_discrete n low)
      (λ e. inr (others_number p other history n (is ∙ sym e)))
      (λ ne. joined_has p other history (suc low) high n has (omega arith) less)

  -- all numbers below that of passes are all passes
  pub has_all : (p : PassState N E) (k : ℕ) → HasBetween p 0 k → p.turn.passes ≡ k → HasAll p
  has_all p k has is = subst (λ (m : ℕ). HasBetween p 0 m) (sym is) has
