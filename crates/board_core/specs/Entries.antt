-- The entries of a board that runs: what they are as events of the machine, who made them, and which squares they leave taken.
use Rattle.std.specs.Prelude.{◌≡◌, ◌⊎◌, ℕ, ℤ, Bool, false, ◌&&◌, nat_eq, List, [], ◌∷◌, ◌++◌, map, All}
use Rattle.std.specs.List.{filter, list_any}
use Rattle.std.specs.Ordering.{int_eq}
use Rattle.board_core.specs.declared.event.Entry.{Entry}
use Rattle.board_core.specs.declared.event.Entry.TheVariants.{Take, Give, Back, Fail}
use Rattle.board_core.specs.declared.event.Event.{Event}
use Rattle.board_core.specs.declared.event.Event.TheVariants.{Take as TakeEvent, Give as GiveEvent, Back as BackEvent, Fail as FailEvent}
use Rattle.board_core.specs.Machine.{State, IsLegal, IsHistory, after}

-- ---- entries as events

abbrev pub event_of : Entry → Event
event_of (Take who s t snapshot) = TakeEvent who s t snapshot
event_of (Give who s t) = GiveEvent who s t
event_of (Back who s t) = BackEvent who s t
event_of (Fail who s t) = FailEvent who s t

-- the machine accepts the entry
abbrev pub IsLegalEntry : State → Entry → Type 0
IsLegalEntry state entry = IsLegal state (event_of entry)

-- what an entry that is accepted does
abbrev pub after_entry : State → Entry → State
after_entry state entry = after state (event_of entry)

-- the entries are accepted one after another, and lead from one state to the other
abbrev pub IsEntryHistory : State → List Entry → State → Type 0
IsEntryHistory first entries last = IsHistory first (map event_of entries) last

-- ---- who made them

-- who makes the entry
abbrev pub who_of : Entry → ℕ
who_of (Take who s t snapshot) = who
who_of (Give who s t) = who
who_of (Back who s t) = who
who_of (Fail who s t) = who

-- the entries that who makes, in their order
abbrev pub events_by : ℕ → List Entry → List Entry
events_by who events = filter (λ e. nat_eq (who_of e) who) events

-- the entry is a Give, a Back or a Fail of the square
abbrev pub ends_square : ℕ → ℤ → Entry → Bool
ends_square i u (Take who s t snapshot) = false
ends_square i u (Give who s t) = nat_eq s i && int_eq t u
ends_square i u (Back who s t) = nat_eq s i && int_eq t u
ends_square i u (Fail who s t) = nat_eq s i && int_eq t u

-- Among the entries is a Take of the square, and behind it there is neither a Give nor a Back nor a Fail of it.
pub record HasOpenTake (events : List Entry) (s : ℕ) (t : ℤ) : Type 0 where
  pub before : List Entry
  pub who : ℕ
  pub snapshot : ℕ × ℕ
  pub behind : List Entry
  pub is : events ≡ before ++ Take who s t snapshot ∷ behind
  pub open_still : list_any (ends_square s t) behind ≡ false

-- they leave no square taken
abbrev pub HasNoneOut : List Entry → Type 0
HasNoneOut events = (s : ℕ) (t : ℤ) → HasOpenTake events s t → ⊥

-- ---- pairs

-- a Take of a square, and what ends it: its Give, its Back or its Fail, by the same worker
pub record IsPair (first second : Entry) : Type 0 where
  pub who : ℕ
  pub s : ℕ
  pub t : ℤ
  pub snapshot : ℕ × ℕ
  pub take : first ≡ Take who s t snapshot
  pub end : (second ≡ Give who s t) ⊎ ((second ≡ Back who s t) ⊎ (second ≡ Fail who s t))

-- the entries of these pairs, one pair behind the other
abbrev pub in_pairs : List (Entry × Entry) → List Entry
in_pairs [] = []
in_pairs (pair ∷ pairs) = pair.0 ∷ (pair.1 ∷ in_pairs pairs)

-- Each square is taken once the one before it has ended, and has ended itself.
pub record ArePairs (events : List Entry) : Type 0 where
  pub pairs : List (Entry × Entry)
  pub each : All (λ p. IsPair p.0 p.1) pairs
  pub are : events ≡ in_pairs pairs
