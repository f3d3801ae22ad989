-- Histories: lists of entries, each with the number of the pass that made it.
use Rattle.std.specs.Prelude.{◌≡◌, ℕ, ◌⊎◌, ◌==◌, if◌then◌else◌, List, [], ◌∷◌, ◌++◌, All}
use mathlib.Core.List.{IsPrefix}

-- the entries that carry this number, in order
abbrev pub entries_by : {E : Type 0} → ℕ → List (ℕ × E) → List E
entries_by n [] = []
entries_by n (x ∷ xs) = (if (x.0 == n) then (x.1 ∷ entries_by n xs) else (entries_by n xs))

-- the history, or the history and one more entry, of this number
abbrev pub IsNext : {E : Type 0} → ℕ → List (ℕ × E) → List (ℕ × E) → Type 0
IsNext {E} number history next = (next ≡ history) ⊎ ((e : E) × (next ≡ history ++ (number, e) ∷ []))

-- What is known of a history: both lists begin it, and of the number, and of each that is listed with its entries, it has just these entries
pub record IsKnown {E : Type 0} (number : ℕ) (first second : List (ℕ × E)) (mine : List E) (others : List (ℕ × List E))
    (history : List (ℕ × E)) : Type 0 where
  pub seen : IsPrefix first history
  pub latest : IsPrefix second history
  pub own : entries_by number history ≡ mine
  pub joined : All (λ (j : ℕ × List E). entries_by j.0 history ≡ j.1) others
