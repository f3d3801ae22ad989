-- The views of a table, where one of them changes.
use Rattle.std.proofs.Common.{◌≡◌, ◌≢◌, ℕ, zero, suc, ◌≤◌, ◌<◌, ⊎_elim, true, false, List, [], ◌∷◌, length, set, slice_index, Some, None, ap, sym, subst, ◌∙◌, arith}
use mathlib.Core.Option.{some, some-injective, some-ne-none}
use lib.ListN.{get_elem?}
use Rattle.atomic_table.proofs.Lists.{at_set, set_else}
use Rattle.turn_lock.specs.declared.view.View.{View}
use Rattle.turn_lock.specs.History.{entries_by}
use Rattle.turn_lock.specs.Inside.Rule.{IsReached, IsSpent, IsHolder, Knows}

pub there_within : {A : Type 0} (l : List A) (i : ℕ) (a : A) → get_elem? l i ≡ some a → i < length l
there_within [] i a e = absurd (some-ne-none a (sym e))
there_within (x ∷ xs) zero a e = omega arith
there_within (x ∷ xs) (suc i) a e = let h = there_within xs i a e in omega arith

-- an element that stands at its place and the one that stands there
pub at_same : {A : Type 0} (l : List A) (i : ℕ) (a b : A) → get_elem? l i ≡ some a → get_elem? l i ≡ some b → a ≡ b
at_same l i a b p q = some-injective a b (sym p ∙ q)

module _ {N E : Type 0} where
  pub spent_else : (views : List (View N E)) (k n : ℕ) (v : View N E) (name : N) → get_elem? views k ≡ some v → v.name ≡ Some name → IsSpent views n → n ≢ k
  spent_else views k n v name at live spent e =
      let same : v ≡ spent.0 = at_same views k v spent.0 at (subst (λ (i : ℕ). get_elem? views i ≡ some spent.0) e spent.1) in
      let no : Some name ≡ None = sym live ∙ (ap (λ (u : View N E). u.name) same ∙ spent.2) in
      cc

  -- a change of a live view leaves the spent ones
  pub spent_set : (views : List (View N E)) (k n : ℕ) (v w : View N E) (name : N) → get_elem? views k ≡ some v → v.name ≡ Some name → IsSpent views n → IsSpent (set views k w) n
  spent_set views k n v w name at live spent = (spent.0, set_else views k n w (spent_else views k n v name at live spent) ∙ spent.1, spent.2)

  -- each view after a change of one
  pub each_view : (views : List (View N E)) (k : ℕ) (w : View N E) (P : ℕ → View N E → Type 0) → P k w → ((j : ℕ) (u : View N E) → j ≢ k → get_elem? views j ≡ some u → P j u)
      → (j : ℕ) (u : View N E) → get_elem? (set views k w) j ≡ some u → P j u
  each_view views k w P here others j u at =
      ⊎_elim
      (λ t. subst (λ (i : ℕ). P i u) (sym t.0) (subst (λ (x : View N E). P k x) t.1 here))
      (λ t. others j u t.0 t.1)
      (at_set views k j w u at)

  -- what a view knows goes over to another history that has of its numbers the same entries, and of no front less
  pub knows_on : (fronts : List (ℕ × E) → ℕ → ℕ) (width : ℕ) (name : N) (words words' : List ℕ) (views views' : List (View N E)) (history history' : List (ℕ × E)) (holder holder' j : ℕ) (u : View N E)
      → Knows fronts width name words views history holder j u
      → ((i : ℕ) → i < width → slice_index words (suc i) ≤ slice_index words' (suc i))
      → ((l : List (ℕ × E)) → IsReached fronts width l history → IsReached fronts width l history')
      → (entries_by j history' ≡ entries_by j history)
      → ((n : ℕ) → IsSpent views n → (entries_by n history' ≡ entries_by n history) × IsSpent views' n)
      → (u.holds ≡ true → IsHolder fronts width words' history' holder' j u)
      → (0 < u.made → (j ≡ 0) × (u.made ≡ length views'))
      → Knows fronts width name words' views' history' holder' j u
  knows_on fronts width name words words' views views' history history' holder holder' j u knows rises reached own spent holds makes = record {
    named = knows.named;
    number = knows.number;
    seen = reached u.seen knows.seen;
    latest = reached u.latest knows.latest;
    own = own ∙ knows.own;
    joined = λ k d h. (
      (spent _ (knows.joined k d h).1).0 ∙ (knows.joined k d h).0,
      (spent _ (knows.joined k d h).1).1,
    );
    told = λ k d h.
        let t = knows.told k d h in
        let r = rises _ t.0 in (t.0, omega arith);
    holds = holds;
    makes = makes;
  }

  -- the view, as if it did not hold the turn
  abbrev pub letting_go : View N E → View N E
  letting_go v = record v { holds = false }

  pub knows_free : (fronts : List (ℕ × E) → ℕ → ℕ) (width : ℕ) (name : N) (words : List ℕ) (views : List (View N E)) (history : List (ℕ × E)) (holder j : ℕ) (u : View N E)
      → Knows fronts width name words views history holder j u → Knows fronts width name words views history holder j (letting_go u)
  knows_free fronts width name words views history holder j u knows = record {
    named = knows.named;
    number = knows.number;
    seen = knows.seen;
    latest = knows.latest;
    own = knows.own;
    joined = knows.joined;
    told = knows.told;
    holds = λ h. absurd cc;
    makes = knows.makes;
  }
