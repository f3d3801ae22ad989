-- A turn and its passes, as contracts see them.
use Rattle.std.specs.Prelude.{◌≡◌, ℕ, ◌<◌, ◌≤◌, ◌⊎◌, Bool, true, false, List, [], ◌∷◌, ◌++◌, Contains}
use Rattle.atomic_table.specs.Seated.{TableId}
use Rattle.turn_lock.specs.History.{entries_by, IsKnown}

-- which turn it is, the name of its state, and how many passes it has
pub record TurnId (N : Type 0) : Type 0 where
  pub table : TableId
  pub name : N
  pub passes : ℕ

-- A pass: whose it is, its number, the history as it was in its last turn or rest and as it was at its last look, its own entries, the numbers
-- joined into it with their entries, the fronts that it was told, each with its index, and whether it holds the turn
pub record PassState (N E : Type 0) : Type 0 where
  pub turn : TurnId N
  pub number : ℕ
  pub seen : List (ℕ × E)
  pub latest : List (ℕ × E)
  pub own : List E
  pub joined : List (ℕ × List E)
  pub told : List (ℕ × ℕ)
  pub holds : Bool

module _ {N E : Type 0} where
  -- a pass that was just made
  abbrev pub new_pass : TurnId N → ℕ → PassState N E
  new_pass turn number = record {
    turn = turn;
    number = number;
    seen = [];
    latest = [];
    own = [];
    joined = [];
    told = [];
    holds = false;
  }

  -- the pass while it holds the turn, which found this history
  abbrev pub with_turn : PassState N E → List (ℕ × E) → PassState N E
  with_turn p history = record p { seen = history; latest = history; holds = true }

  -- the pass after its turn, which left this history
  abbrev pub after_turn : PassState N E → List (ℕ × E) → PassState N E
  after_turn p history = record p { seen = history; latest = history; own = entries_by p.number history; holds = false }

  -- the pass after it counted this history
  abbrev pub after_count : PassState N E → List (ℕ × E) → PassState N E
  after_count p history = record p { latest = history }

  -- the pass after it was told front i beside this history
  abbrev pub after_front : PassState N E → List (ℕ × E) → ℕ → ℕ → PassState N E
  after_front p history i n = record p { latest = history; told = (i, n) ∷ p.told }

  -- the pass after a rest, which saw this history
  abbrev pub after_rest : PassState N E → List (ℕ × E) → PassState N E
  after_rest p history = record p { seen = history; latest = history }

  -- the pass with all that the other had, which then saw this history
  abbrev pub after_join : PassState N E → PassState N E → List (ℕ × E) → PassState N E
  after_join p other history = record p {
    seen = history;
    latest = history;
    joined = p.joined ++ ((other.number, other.own) ∷ other.joined);
    told = p.told ++ other.told;
  }

  -- The history goes on from all that the pass has seen. Of the pass's own number, and of each that was joined, it has just the entries that the pass keeps
  abbrev pub Continues : PassState N E → List (ℕ × E) → Type 0
  Continues p history = IsKnown p.number p.seen p.latest p.own p.joined history

  -- each pass whose number is at least low and below high is this one, or was joined into it
  abbrev pub HasBetween : PassState N E → ℕ → ℕ → Type 0
  HasBetween p low high = (n : ℕ) → low ≤ n → n < high → (n ≡ p.number) ⊎ ((own : List E) × Contains p.joined (n, own))

  -- every pass of the turn is this one, or was joined into it
  abbrev pub HasAll : PassState N E → Type 0
  HasAll p = HasBetween p 0 p.turn.passes
