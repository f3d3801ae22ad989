-- The row of passes that are made with a turn.
use Rattle.std.proofs.Common.{◌≡◌, ℕ, zero, suc, ◌<◌, List, [], ◌∷◌, ◌++◌, length, slice_get, Some, ap, arith}
use Rattle.turn_lock.specs.declared.view.View.{View}
use Rattle.turn_lock.specs.Inside.Rule.{first_view, made_by}
use Rattle.turn_lock.specs.Turns.{TurnId, new_pass}
use Rattle.turn_lock.proofs.Passes.{seen_as}

-- a row that goes on as it began
pub row_more : {A : Type 0} (xs : List A) (x : A) (f : ℕ → A) → ((k : ℕ) → k < length xs → slice_get xs k ≡ Some (f k)) → x ≡ f (length xs)
    → (k : ℕ) → k < length (xs ++ x ∷ []) → slice_get (xs ++ x ∷ []) k ≡ Some (f k)
row_more {A} [] x f all is zero h = ap (λ (y : A). Some y) is
row_more {A} [] x f all is (suc k) h = absurd (omega arith)
row_more {A} (y ∷ ys) x f all is zero h = all zero (omega arith)
row_more {A} (y ∷ ys) x f all is (suc k) h = row_more ys x (λ n. f (suc n)) (λ n less. all (suc n) (omega arith)) is k (omega arith)

module _ {N E : Type 0} where
  -- a pass that the first one made
  pub pass_is : (turn mine : TurnId N) (v : View N E) (number : ℕ) → mine ≡ turn → v ≡ made_by (record (first_view turn.name) { made = number }) → seen_as mine number v ≡ new_pass turn number
  pass_is turn mine v number same is = λ k. seen_as (same k) number (is k)

pub same_turn : {N : Type 0} (a b : TurnId N) → a.table ≡ b.table → a.name ≡ b.name → a.passes ≡ b.passes → a ≡ b
same_turn {N} a b p q r = λ k. record { table = p k; name = q k; passes = r k }
