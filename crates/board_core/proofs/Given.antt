-- The squares that the entries of a run give, behind those of the start.
use Rattle.std.proofs.Common.{◌≡◌, ℕ, ℤ, List, [], ◌∷◌, ◌++◌, map, refl, ◌∙◌, ap, subst}
use Rattle.bidegree.specs.declared.shape.Shape.{Shape}
use Rattle.board_core.specs.declared.event.Entry.{Entry}
use Rattle.board_core.specs.declared.event.Entry.TheVariants.{Take, Give, Back, Fail}
use Rattle.board_core.specs.Entries.{event_of}
use Rattle.board_core.specs.Laws.{IsReachedByEntries, AreDoneOnce, given, filed}
use Rattle.board_core.specs.Machine.{State, IsStart, stands, squares_of}
use Rattle.board_core.proofs.Histories.{reached_runs}
use Rattle.board_core.proofs.Filed.{filed_once}

-- they are all that the entries put into the file
filed_is_given : (events : List Entry) → filed (map event_of events) ≡ given events
filed_is_given [] = refl
filed_is_given (Take who s t snapshot ∷ events) = filed_is_given events
filed_is_given (Give who s t ∷ events) = ap (λ (l : List (ℕ × ℤ)). (s, t) ∷ l) (filed_is_given events)
filed_is_given (Back who s t ∷ events) = filed_is_given events
filed_is_given (Fail who s t ∷ events) = filed_is_given events

pub given_once : (bottom : ℤ) (shape : Shape) (s t : ℕ) (start : List (ℕ × ℤ)) (events : List Entry) (state : State) → IsReachedByEntries bottom shape s t start events state → AreDoneOnce bottom start events state
given_once bottom shape s t start events state reached =
    let all = filed_once bottom shape s t start (map event_of events) state reached in
    let low = all.same_bottom in
    record {
      file = all.file ∙ ap (λ (l : List (ℕ × ℤ)). start ++ l) (filed_is_given events);
      once = subst (λ (b : ℤ). IsStart (stands state) b state.file) low all.is_filed.listed;
      done = all.is_filed.done (reached_runs bottom shape s t start events state reached) ∙ ap (λ (b : ℤ). squares_of b state.file) low;
    }
