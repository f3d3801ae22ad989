-- The rule of the turn: what its words, its slot and the views of its passes have to do with one history.
use Rattle.std.specs.Prelude.{◌≡◌, ℕ, suc, ◌*◌, ◌<◌, ◌≤◌, ◌⊎◌, true, false, List, [], ◌∷◌, ◌++◌, length, slice_index, slice_index_or, Option, Some, None, All}
use mathlib.Core.Option.{some, none}
use mathlib.Core.Option as maybe
use lib.ListN.{get_elem?}
use Rattle.atomic_table.specs.Table.{State}
use Rattle.turn_lock.specs.declared.view.View.{View}
use mathlib.Core.List.{IsPrefix}
use Rattle.turn_lock.specs.History.{entries_by, IsNext}

-- the history begins with the list, and has no smaller front
pub record IsReached {E : Type 0} (fronts : List (ℕ × E) → ℕ → ℕ) (width : ℕ) (list history : List (ℕ × E))
    : Type 0 where
  pub begins : IsPrefix list history
  pub below : (i : ℕ) → i < width → fronts list i ≤ fronts history i

-- the view at the seat was joined into another
abbrev pub IsSpent : {N E : Type 0} → List (View N E) → ℕ → Type 0
IsSpent {N} {E} views seat = (v : View N E) × (get_elem? views seat ≡ some v) × (v.name ≡ None)

-- who holds the turn has seen the whole history. The first front words are those that it stored, and the others are the history's
pub record IsHolder {N E : Type 0} (fronts : List (ℕ × E) → ℕ → ℕ) (width : ℕ) (words : List ℕ) (history : List (ℕ × E))
    (holder seat : ℕ) (view : View N E) : Type 0 where
  pub is : seat ≡ holder
  pub odd : slice_index words 0 ≡ suc (2 * length history)
  pub whole : view.seen ≡ history
  pub stored : (i : ℕ) → i < width → slice_index words (suc i) ≡ slice_index_or view.stored i (fronts history i)

-- what a live view has to do with the history
pub record Knows {N E : Type 0} (fronts : List (ℕ × E) → ℕ → ℕ) (width : ℕ) (name : N) (words : List ℕ)
    (views : List (View N E)) (history : List (ℕ × E)) (holder seat : ℕ) (view : View N E) : Type 0 where
  pub named : view.name ≡ Some name
  pub number : view.number ≡ seat
  pub seen : IsReached fronts width view.seen history
  pub latest : IsReached fronts width view.latest history
  pub own : entries_by seat history ≡ view.own
  pub joined : All (λ (p : ℕ × List E). (entries_by p.0 history ≡ p.1) × IsSpent views p.0) view.joined
  pub told : All (λ (p : ℕ × ℕ). (p.0 < width) × (p.1 ≤ slice_index words (suc p.0))) view.told
  pub holds : view.holds ≡ true → IsHolder fronts width words history holder seat view
  pub makes : 0 < view.made → (seat ≡ 0) × (view.made ≡ length views)

-- the state is in the slot, with the whole history
pub record IsFree {T N E : Type 0} (entries : T → List (ℕ × E)) (name_of : T → N) (name : N) (words : List ℕ)
    (homes : List (maybe.Option (Option T))) (history next : List (ℕ × E)) : Type 0 where
  pub even : slice_index words 0 ≡ 2 * length history
  pub same : next ≡ history
  pub state : T
  pub home : homes ≡ some (Some state) ∷ []
  pub told : entries state ≡ history
  pub named : name_of state ≡ name

-- a live view holds the turn, and the slot is out with its seat
pub record IsTaken {T N E : Type 0} (name : N) (words : List ℕ) (homes : List (maybe.Option (Option T)))
    (views : List (View N E)) (history : List (ℕ × E)) (holder : ℕ) : Type 0 where
  pub odd : slice_index words 0 ≡ suc (2 * length history)
  pub out : homes ≡ none ∷ []
  pub view : View N E
  pub there : get_elem? views holder ≡ some view
  pub live : view.name ≡ Some name
  pub holds : view.holds ≡ true

-- There is one history. Word 0 counts it, and is odd while the turn is held; next is what it becomes where the turn ends now.
-- A front word is the history's, or that of next. Each live view knows its part of the history
pub record Keeps {T N E : Type 0} (entries : T → List (ℕ × E)) (name_of : T → N) (fronts : List (ℕ × E) → ℕ → ℕ)
    (width : ℕ) (name : N) (passes : ℕ) (s : State (Option T) (View N E)) : Type 0 where
  pub history : List (ℕ × E)
  pub next : List (ℕ × E)
  pub holder : ℕ
  pub sized : length s.words ≡ suc width
  pub place : IsFree entries name_of name s.words s.homes history next
      ⊎ IsTaken name s.words s.homes s.views history holder
  pub follows : IsNext holder history next
  pub grows : (i : ℕ) → i < width → fronts history i ≤ fronts next i
  pub fronts_at : (i : ℕ) → i < width →
      (slice_index s.words (suc i) ≡ fronts history i) ⊎ (slice_index s.words (suc i) ≡ fronts next i)
  pub seats : length s.views ≤ passes
  pub unmade : (n : ℕ) → length s.views ≤ n → entries_by n history ≡ []
  pub known : (seat : ℕ) (v : View N E) → get_elem? s.views seat ≡ some v → (m : N) → v.name ≡ Some m →
      Knows fronts width name s.words s.views history holder seat v

module _ {N E : Type 0} where
  -- the first pass, before the others are made of it
  abbrev pub first_view : N → View N E
  first_view name = record {
    name = Some name;
    number = 0;
    seen = [];
    latest = [];
    own = [];
    joined = [];
    told = [];
    holds = false;
    stored = [];
    made = 1;
  }

  -- what is left of a pass that was joined into another
  abbrev pub spent_view : View N E
  spent_view = record {
    name = None;
    number = 0;
    seen = [];
    latest = [];
    own = [];
    joined = [];
    told = [];
    holds = false;
    stored = [];
    made = 0;
  }

  -- the pass that makes one more, and that one
  abbrev pub making : View N E → View N E
  making v = record v { made = suc v.made }

  abbrev pub made_by : View N E → View N E
  made_by v = record {
    name = v.name;
    number = v.made;
    seen = v.seen;
    latest = v.latest;
    own = [];
    joined = [];
    told = [];
    holds = false;
    stored = [];
    made = 0;
  }

  -- a pass with all that another had, before it looks at the history again
  abbrev pub joining : View N E → View N E → View N E
  joining v w = record v {
    seen = v.latest;
    latest = w.latest;
    joined = v.joined ++ ((w.number, w.own) ∷ w.joined);
    told = v.told ++ w.told;
  }
