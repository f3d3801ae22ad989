-- Whether a history has a Fail, by the first cause that it brings.
use Rattle.std.proofs.Common.{◌≡◌, List, [], ◌∷◌, true, false, Some, None, refl}
use Rattle.board_core.specs.declared.event.Cause.{Cause}
use Rattle.board_core.specs.declared.event.Cause.TheVariants.{Failed, Memory}
use Rattle.board_core.specs.declared.event.Entry.{Entry as Event}
use Rattle.board_core.specs.declared.event.Entry.TheVariants.{Take, Give, Back, Fail}
use Rattle.board_core.specs.Laws.{first_cause}
use Rattle.board_core.specs.Entries.{IsEntryHistory as IsHistory, after_entry as after}
use Rattle.board_core.specs.Machine.{State, cause_or}
use Rattle.board_core.specs.Machine.IsHistory.{nothing, then}
use Rattle.square_board.specs.Desks.{has_fail}

pub none_fails : (events : List Event) → first_cause events ≡ None → has_fail events ≡ false
none_fails [] none = refl
none_fails (Take who s t snapshot ∷ events) none = none_fails events none
none_fails (Give who s t ∷ events) none = none_fails events none
none_fails (Back who s t ∷ events) none = cc
none_fails (Fail who s t ∷ events) none = cc

pub one_fails : (events : List Event) → first_cause events ≡ Some Failed → has_fail events ≡ true
one_fails [] failed = cc
one_fails (Take who s t snapshot ∷ events) failed = one_fails events failed
one_fails (Give who s t ∷ events) failed = one_fails events failed
one_fails (Back who s t ∷ events) failed = cc
one_fails (Fail who s t ∷ events) failed = refl

-- once a cause stands
stopped : (first : State) (events : List Event) (last : State) (cause : Cause) → IsHistory first events last → first.cause ≡ Some cause → has_fail events ≡ false
stopped first [] last cause (nothing state) stands = refl
stopped first (Take who s t snapshot ∷ events) last cause (then state e es l legal rest) stands = absurd (let none = legal.ready.no_cause in cc)
stopped first (Give who s t ∷ events) last cause (then state e es l legal rest) stands = absurd (let none = legal.no_cause in cc)
stopped first (Back who s t ∷ events) last cause (then state e es l legal rest) stands = stopped (after first (Back who s t)) events last (cause_or first.cause Memory) rest refl
stopped first (Fail who s t ∷ events) last cause (then state e es l legal rest) stands = absurd (let none = legal.no_cause in cc)

pub back_stops : (first : State) (events : List Event) (last : State) → IsHistory first events last → first_cause events ≡ Some Memory → has_fail events ≡ false
back_stops first [] last (nothing state) memory = refl
back_stops first (Take who s t snapshot ∷ events) last (then state e es l legal rest) memory = back_stops (after first (Take who s t snapshot)) events last rest memory
back_stops first (Give who s t ∷ events) last (then state e es l legal rest) memory = back_stops (after first (Give who s t)) events last rest memory
back_stops first (Back who s t ∷ events) last (then state e es l legal rest) memory = stopped (after first (Back who s t)) events last (cause_or first.cause Memory) rest refl
back_stops first (Fail who s t ∷ events) last (then state e es l legal rest) memory = absurd (let other = memory in cc)
