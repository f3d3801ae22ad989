-- The cause that stands is the first that an event brought.
use Rattle.std.proofs.Common.{◌≡◌, ℕ, ℤ, List, [], ◌∷◌, Option, Some, None, refl, sym, ◌∙◌, ap}
use Rattle.std.specs.Option.{option_or}
use Rattle.bidegree.specs.declared.shape.Shape.{Shape}
use Rattle.board_core.specs.declared.event.Cause.{Cause}
use Rattle.board_core.specs.declared.event.Cause.TheVariants.{Failed, Memory}
use Rattle.board_core.specs.declared.event.Entry.{Entry}
use Rattle.board_core.specs.declared.event.Entry.TheVariants.{Take, Give, Back, Fail}
use Rattle.board_core.specs.Laws.{IsReachedByEntries, first_cause}
use Rattle.board_core.specs.Entries.{IsEntryHistory, after_entry}
use Rattle.board_core.specs.Machine.{State, opening, cause_or}
use Rattle.board_core.specs.Machine.IsHistory.{nothing, then}

or_none : (cause : Option Cause) → option_or cause None ≡ cause
or_none None = refl
or_none (Some cause) = refl

first_stays : (before : Option Cause) (cause : Cause) → Some (cause_or before cause) ≡ option_or before (Some cause)
first_stays None cause = refl
first_stays (Some before) cause = refl

cause_along : (first : State) (events : List Entry) (last : State) → IsEntryHistory first events last → last.cause ≡ option_or first.cause (first_cause events)
cause_along first [] last (nothing state) = sym (or_none first.cause)
cause_along first (Take who s t snapshot ∷ events) last (then state e es l legal rest) = cause_along (after_entry first (Take who s t snapshot)) events last rest
cause_along first (Give who s t ∷ events) last (then state e es l legal rest) = cause_along (after_entry first (Give who s t)) events last rest
cause_along first (Back who s t ∷ events) last (then state e es l legal rest) = cause_along (after_entry first (Back who s t)) events last rest ∙ first_stays first.cause Memory
cause_along first (Fail who s t ∷ events) last (then state e es l legal rest) = cause_along (after_entry first (Fail who s t)) events last rest ∙ ap (λ (c : Option Cause). option_or c (Some Failed)) (sym legal.no_cause)

pub first_of_all : (bottom : ℤ) (shape : Shape) (s t : ℕ) (start : List (ℕ × ℤ)) (events : List Entry) (state : State) → IsReachedByEntries bottom shape s t start events state → state.cause ≡ first_cause events
first_of_all bottom shape s t start events state reached = cause_along (opening bottom shape s t start) events state reached.history
