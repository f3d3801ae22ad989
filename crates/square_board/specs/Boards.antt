-- A board and its passes: what each call does to a pass, and what is so of the history that it has then seen.
use Rattle.std.specs.Prelude.{◌≡◌, ℕ, ◌≤◌, false, List, [], ◌∷◌, ◌++◌, All, Some, Result, Ok, Err}
use Rattle.board_core.specs.declared.event.Cause.{Cause}
use Rattle.board_core.specs.declared.event.Entry.{Entry as Event}
use Rattle.board_core.specs.declared.event.Entry.TheVariants.{Take, Give, Back, Fail}
use Rattle.board_core.specs.Laws.{first_cause}
use Rattle.board_core.specs.Machine.{State, IsStaircase}
use Rattle.turn_lock.specs.Turns.{TurnId, PassState, after_turn, Continues}
use Rattle.square_board.specs.declared.job.GiveFault.{GiveFault}
use Rattle.square_board.specs.declared.job.GiveFault.TheVariants.{Failed, Memory, Stopped}
use Rattle.square_board.specs.declared.opening.Opening.{Opening}
use Rattle.square_board.specs.Stocks.{StockWords}
use Rattle.square_board.specs.Courses.{state_of, IsLegalCourse, numbered, events_of}
use Rattle.square_board.specs.Openings.{below_fronts, stands_of, course_of, front_after}
use Rattle.square_board.specs.Jobs.{Taking}
use Rattle.square_board.specs.Desks.{IsJobOf}

-- the entry that a give makes, by what it answers
abbrev pub entry_of_give : {I : Type 0} → Result (Unit {0}) GiveFault → Taking I → Event
entry_of_give (Ok done) job = Give job.who job.s job.t
entry_of_give (Err Failed) job = Fail job.who job.s job.t
entry_of_give (Err Memory) job = Back job.who job.s job.t
entry_of_give (Err (Stopped cause)) job = Back job.who job.s job.t

module _ {T : Type 0} where
  -- the pass is the board's, and is in no turn
  pub record IsPassOf (board : TurnId (Opening T)) (pass : PassState (Opening T) Event) : Type 0 where
    pub turn : pass.turn ≡ board
    pub idle : pass.holds ≡ false

  -- it has its number still, and no other was joined into it
  pub record IsSamePass (old new : PassState (Opening T) Event) : Type 0 where
    pub number : new.number ≡ old.number
    pub joined : new.joined ≡ old.joined

  -- the cause stood before the last entry that the pass has seen
  pub record StoodBefore (pass : PassState (Opening T) Event) (cause : Cause) : Type 0 where
    pub before : List Event
    pub last : Event
    pub seen : pass.seen ≡ numbered (before ++ last ∷ [])
    pub stood : first_cause before ≡ Some cause

module _ {T O I M : Type 0} (w : StockWords T O I M) where
  -- the machine's state after what the pass has seen
  abbrev pub state_seen : PassState (Opening T) Event → State
  state_seen pass = state_of (course_of w pass.turn.name (events_of pass.seen))

  -- The pass had a turn. It found a history that goes on from what it had seen and been told, made these entries, and has now seen
  -- the history with them behind it, which the machine accepts from the board's opening on. They are its own, and no entry of it is new but they.
  pub record HasTurned (old new : PassState (Opening T) Event) (made : List Event) : Type 0 where
    pub before : List Event
    pub continues : Continues old (numbered before)
    pub fronts : All (λ t. t.1 ≤ front_after w old.turn.name before t.0) old.told
    pub is : new ≡ after_turn old (numbered (before ++ made))
    pub own : new.own ≡ old.own ++ made
    pub legal : IsLegalCourse (course_of w old.turn.name (before ++ made))

  -- the pass took the square of the job, which it then has
  pub record HasTakenJob (old new : PassState (Opening T) Event) (job : Taking I) : Type 0 where
    pub snapshot : ℕ × ℕ
    pub turned : HasTurned old new (Take old.number job.s job.t snapshot ∷ [])
    pub has : IsJobOf w old.turn.name new.number new.own job

  -- the squares that are done after these events have those that they stand on below them
  abbrev pub AreStairs : Opening T → List Event → Type 0
  AreStairs opening events = IsStaircase (stands_of w opening) (below_fronts (front_after w opening events))
