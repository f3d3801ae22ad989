-- What each step on a word tells the pass that makes it.
use Rattle.std.specs.Prelude.{◌≡◌, ◌≢◌, ℕ, suc, ◌*◌, ◌/◌, ◌<◌, ◌≤◌, ◌⊎◌, ◌==◌, true, false, List, [], ◌∷◌, ◌++◌, length, slice_index_or, Option, Some, All, MatchBool}
use Rattle.atomic_table.specs.Table.{Me, Step}
use Rattle.turn_lock.specs.declared.view.View.{View}
use Rattle.turn_lock.specs.History.{entries_by, IsKnown}

-- the stored numbers are the first fronts after the history
abbrev pub IsPrepared : {E : Type 0} → (List (ℕ × E) → ℕ → ℕ) → List ℕ → List (ℕ × E) → Type 0
IsPrepared fronts stored history = (i d : ℕ) → i < length stored → slice_index_or stored i d ≡ fronts history i

module _ {N E : Type 0} where
  -- with this history at the last load
  abbrev pub looking : View N E → List (ℕ × E) → View N E
  looking v history = record v { latest = history }

  -- with this history at the last turn
  abbrev pub having_seen : View N E → List (ℕ × E) → View N E
  having_seen v history = record v { seen = history; latest = history }

  abbrev pub holding : View N E → List (ℕ × E) → View N E
  holding v history = record v { seen = history; latest = history; holds = true; stored = [] }

  abbrev pub storing : View N E → ℕ → View N E
  storing v n = record v { stored = v.stored ++ n ∷ [] }

  abbrev pub having_stored : View N E → List ℕ → View N E
  having_stored v numbers = record v { stored = numbers }

  abbrev pub telling : View N E → List (ℕ × E) → ℕ → ℕ → View N E
  telling v history i n = record v { latest = history; told = (i, n) ∷ v.told }

  abbrev pub released : View N E → List (ℕ × E) → View N E
  released v history = record v {
    seen = history;
    latest = history;
    own = entries_by v.number history;
    holds = false;
    stored = [];
  }

  -- what the view knows of the history
  abbrev pub IsKnownTo : View N E → List (ℕ × E) → Type 0
  IsKnownTo v history = IsKnown v.number v.seen v.latest v.own v.joined history

module _ {T N E : Type 0} where
  -- the history was counted
  pub record Counts (s : Step (Option T)) (before : Me (Option T) (View N E)) (found : ℕ)
      (after : Me (Option T) (View N E)) : Type 0 where
    pub history : List (ℕ × E)
    pub known : IsKnownTo before.0 history
    pub count : found / 2 ≡ length history
    pub after_is : after ≡ (looking before.0 history, before.1)

  -- the same, and the pass has seen the history as in a turn
  pub record Sees (s : Step (Option T)) (before : Me (Option T) (View N E)) (found : ℕ)
      (after : Me (Option T) (View N E)) : Type 0 where
    pub history : List (ℕ × E)
    pub known : IsKnownTo before.0 history
    pub apart : All (λ (j : ℕ × List E). j.0 ≢ before.0.number) before.0.joined
    pub count : found / 2 ≡ length history
    pub after_is : after ≡ (having_seen before.0 history, before.1)

  -- the number is a front of the history, or of the history with the entry of the turn that is held; it is no less than what was seen before
  pub record Reads (front_of : N → List (ℕ × E) → ℕ → ℕ) (s : Step (Option T)) (before : Me (Option T) (View N E))
      (found : ℕ) (after : Me (Option T) (View N E)) : Type 0 where
    pub name : N
    pub named : before.0.name ≡ Some name
    pub index : ℕ
    pub word : s.word ≡ suc index
    pub history : List (ℕ × E)
    pub known : IsKnownTo before.0 history
    pub exact : (found ≡ front_of name history index)
        ⊎ ((e : ℕ × E) × (found ≡ front_of name (history ++ e ∷ []) index))
    pub after_seen : front_of name before.0.seen index ≤ found
    pub after_latest : front_of name before.0.latest index ≤ found
    pub after_told : All (λ (p : ℕ × ℕ). p.0 ≡ index → p.1 ≤ found) before.0.told
    pub after_is : after ≡ (telling before.0 history index found, before.1)

  -- the turn is held, with the state and its whole history, whose fronts are no less than those that were told
  pub record Holds (entries : T → List (ℕ × E)) (name_of : T → N) (front_of : N → List (ℕ × E) → ℕ → ℕ)
      (before : Me (Option T) (View N E)) (found : ℕ) (after : Me (Option T) (View N E)) : Type 0 where
    pub state : T
    pub named : before.0.name ≡ Some (name_of state)
    pub known : IsKnownTo before.0 (entries state)
    pub fronts : All (λ (p : ℕ × ℕ). p.1 ≤ front_of (name_of state) (entries state) p.0) before.0.told
    pub count : found ≡ 2 * length (entries state)
    pub after_is : after ≡ (holding before.0 (entries state), (0, Some state) ∷ [])

  -- the word was the expected one, and the turn is held; or nothing changed
  abbrev pub Acquires : (T → List (ℕ × E)) → (T → N) → (N → List (ℕ × E) → ℕ → ℕ) → Step (Option T) →
      Me (Option T) (View N E) → ℕ → Me (Option T) (View N E) → Type 0
  Acquires entries name_of front_of s before found after =
      MatchBool (found == s.first) (Holds entries name_of front_of before found after) (after ≡ before)

  -- a front word was stored
  abbrev pub Stores : Step (Option T) → Me (Option T) (View N E) → ℕ → Me (Option T) (View N E) → Type 0
  Stores s before n after = after ≡ (storing before.0 s.first, before.1)

  -- the turn ended with the state that the seat had in hand
  abbrev pub Releases : (T → List (ℕ × E)) → Step (Option T) → Me (Option T) (View N E) → ℕ → Me (Option T) (View N E) →
      Type 0
  Releases entries s before n after = (state : T) → before.1 ≡ (0, Some state) ∷ [] →
      after ≡ (released before.0 (entries state), [])
