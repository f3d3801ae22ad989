-- What lies behind the turn of a board: the machine's course, and the stock of the squares that are done.
use Rattle.std.specs.Prelude.{◌≡◌, ℕ, ◌≤◌, nat_lt, Bool, true, false, List, [], ◌∷◌, None, Result, Ok, Err}
use Rattle.bidegree.specs.declared.range.TheConstants.{MAX_S, MAX_T}
use Rattle.bidegree.specs.declared.shape.Shape.TheVariants.{Stems}
use Rattle.board_core.specs.declared.event.Entry.{Entry as Event}
use Rattle.board_core.specs.declared.event.Entry.TheVariants.{Take, Give, Back, Fail}
use Rattle.board_core.specs.Entries.{HasOpenTake}
use Rattle.board_core.specs.Laws.{HasUnfinished}
use Rattle.board_core.specs.Machine.{State, IsInRange, IsReady, IsLegalTake}
use Rattle.square_board.specs.declared.job.Taken.{Taken}
use Rattle.square_board.specs.declared.job.Taken.TheVariants.{Job, Idle, Over, Stopped}
use Rattle.square_board.specs.declared.opening.Opening.{Opening}
use Rattle.square_board.specs.Stocks.{StockWords, degree_of, IsGone}
use Rattle.square_board.specs.Jobs.{Taking}
use Rattle.square_board.specs.Courses.{Course, state_of, with_event, IsLegalCourse}
use Rattle.square_board.specs.Openings.{subject_of, bottom_of, shape_of, stands_of, course_of, front_after, ListsSquares}

-- ---- why a take gives no square

-- all squares of the range are done, and there is no cause
pub record IsOver (state : State) : Type 0 where
  pub no_cause : state.cause ≡ None
  pub all_done : (s k : ℕ) → IsInRange state s k → state.done s k ≡ true

-- squares of the range are unfinished, none is ready, and there is no cause
pub record IsIdle (state : State) : Type 0 where
  pub no_cause : state.cause ≡ None
  pub none_ready : (s k : ℕ) → IsReady state s k → ⊥
  pub unfinished : HasUnfinished state

-- there is a Fail among the events
abbrev pub has_fail : List Event → Bool
has_fail [] = false
has_fail (Take who s t snapshot ∷ events) = has_fail events
has_fail (Give who s t ∷ events) = has_fail events
has_fail (Back who s t ∷ events) = has_fail events
has_fail (Fail who s t ∷ events) = true

-- ---- the desk

-- with what the board was made, its course, and the stock of the squares that are done
pub record DeskState (T : Type 0) : Type 0 where
  pub opening : Opening T
  pub course : Course
  pub stock : T

-- with one event more
abbrev pub having_entered : {T : Type 0} → DeskState T → Event → DeskState T
having_entered desk event = record desk { course = with_event desk.course event }

module _ {T O I M : Type 0} (w : StockWords T O I M) where
  -- who has the square of this job, with what it is made from: among his events is its Take, and behind it nothing that ends it
  pub record IsJobOf (opening : Opening T) (who : ℕ) (own : List Event) (job : Taking I) : Type 0 where
    pub who_is : job.who ≡ who
    pub taken : HasOpenTake own job.s job.t
    pub above : ℕ
    pub degree : job.t ≡ degree_of w (subject_of w opening) above
    pub is_for : w.is_for (subject_of w opening) job.s above job.inputs

  -- What is so of each desk, with which its board was made, whose course and whose stock this is. The machine accepted the
  -- events of the course, one after another. The stock has just the squares that are done, and these events led to it from that
  -- of the opening. It takes more unless a square could not be kept.
  pub record IsDesk (opening : Opening T) (course : Course) (stock : T) : Type 0 where
    pub course_is : course ≡ course_of w opening course.history
    pub legal : IsLegalCourse course
    pub row : opening.range.s ≤ MAX_S
    pub degree : opening.range.t ≤ MAX_T
    pub reached : w.reaches (subject_of w opening) opening.range
    pub corner : shape_of w opening ≡ Stems → opening.range.s ≤ opening.range.t
    pub lists : ListsSquares (stands_of w opening) (bottom_of w opening) opening.start (w.fronts opening.first.value)
    pub done : (s k : ℕ) → (state_of course).done s k ≡ nat_lt k (w.fronts stock s)
    pub fronts : (i : ℕ) → w.fronts stock i ≡ front_after w opening course.history i
    pub same : w.subject stock ≡ subject_of w opening
    pub gone : IsGone w opening.first.value course.history stock
    pub takes : has_fail course.history ≡ false → w.takes stock

  -- what is so of a desk
  abbrev pub IsDeskState : DeskState T → Type 0
  IsDeskState desk = IsDesk desk.opening desk.course desk.stock

-- ---- takes

-- the first of the job where there is one, and else the second
abbrev pub MatchTaken : {J E : Type 0} → Result (Taken J) E → (J → Type 0) → Type 0 → Type 0
MatchTaken (Ok (Job job)) P Q = P job
MatchTaken (Ok Idle) P Q = Q
MatchTaken (Ok Over) P Q = Q
MatchTaken (Ok (Stopped cause)) P Q = Q
MatchTaken (Err e) P Q = Q

-- who took the square of the job, which the machine let him have
pub record HasTaken {T O I M : Type 0} (w : StockWords T O I M) (old new : DeskState T) (who : ℕ) (job : Taking I) : Type 0 where
  pub snapshot : ℕ × ℕ
  pub who_is : job.who ≡ who
  pub above : ℕ
  pub degree : job.t ≡ degree_of w (subject_of w old.opening) above
  pub is_for : w.is_for (subject_of w old.opening) job.s above job.inputs
  pub legal : IsLegalTake (state_of old.course) job.s job.t snapshot
  pub entered : new ≡ having_entered old (Take who job.s job.t snapshot)
