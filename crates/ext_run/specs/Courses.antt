-- The course of a board at which workers made the squares of a run.
use Rattle.std.specs.Prelude.{◌≡◌, ◌≢◌, ℕ, ◌≤◌, ◌⊎◌, Bool, true, false, ◌||◌, nat_lt, List, [], ◌++◌, Option, Some, is_some, Err, Ok, OnErr, ⊤}
use Rattle.bidegree.specs.declared.range.Range.{Range}
use Rattle.bidegree.specs.declared.shape.Shape.{Shape}
use Rattle.bidegree.specs.declared.shape.Shape.TheVariants.{Rectangle}
use Rattle.bidegree.specs.LastDegrees.{last_degree}
use Rattle.board_core.specs.Laws.{given as given_by}
use Rattle.board_core.specs.Machine.{squares_of}
use Rattle.board_laws.specs.Filled.{places}
use Rattle.finite_module.specs.Module.{Module as SteenrodModule, bottom}
use Rattle.resolution_laws.specs.Start.{Entry, entry_at}
use Rattle.save_file.specs.Files.{standing_of}
use Rattle.square_board.specs.Courses.{Course, state_of, IsLegalCourse}
use Rattle.square_board.specs.Workers.{AreOfWorkers}
use Rattle.ext_report.specs.declared.failure.Failure.TheVariants.{Writing, Saving}
use Rattle.ext_words.specs.declared.command.Common.{Common}
use Rattle.ext_run.specs.declared.plan.Form.{Form}
use Rattle.ext_run.specs.declared.plan.Form.TheVariants.{Squares, Products}
use Rattle.ext_run.specs.declared.plan.Plan.{Plan}
use Rattle.ext_run.specs.declared.plan.Plan.TheVariants.{Resolve}
use Rattle.ext_run.specs.declared.task.Task.{Task}
use Rattle.ext_run.specs.declared.task.Task.TheVariants.{Resolution}
use Rattle.ext_run.specs.Devices.{Store}
use Rattle.ext_run.specs.Plan.{IsModuleAt}
use Rattle.ext_run.specs.Disks.{Outcome}
use Rattle.ext_run.specs.Work.{Told}

-- Workers make the squares, and not the caller: there are several, or they report how far they are.
abbrev pub by_workers : Common → Bool
by_workers common = common.live || nat_lt 1 common.workers

-- there is a text
abbrev pub HasText : Told → Type 0
HasText text = OnErr text ⊥

-- a text was made, whether it was written or not
abbrev pub HasMadeText : Outcome → Type 0
HasMadeText (Ok text) = ⊤
HasMadeText (Err Writing) = ⊤
HasMadeText outcome = ⊥

-- which squares of a range a form tells of
abbrev pub shape_of : Form → Shape
shape_of (Squares sheet shape) = shape
shape_of (Products layout by shape) = shape
shape_of form = Rectangle

-- ---- courses

-- The course is that of a board at which so many workers made squares of m in this range. Its machine accepts the history. Each entry
-- is of a worker, and the entries of each are pairs in its order: it took one square after the other, each once the one before it had
-- ended, and each has ended. If there is a text, all squares of this shape are done.
pub record IsCourse (workers : ℕ) (range : Range) (shape : Shape) (m : SteenrodModule) (had_text : Type 0)
    (course : Course) : Type 0 where
  pub rows : course.rows ≡ range.s
  pub degrees : course.degrees ≡ range.t
  pub bottom_is : course.bottom ≡ bottom m.generators
  pub legal : IsLegalCourse course
  pub by : AreOfWorkers workers course.history
  pub whole : had_text → (s k : ℕ) → s ≤ range.s → k ≤ last_degree shape range s →
      (state_of course).done s k ≡ true

-- the squares of the list were there when the board was opened, and no others
abbrev pub BeginsWith : List Entry → Course → Type 0
BeginsWith list course = (s k : ℕ) → squares_of course.bottom course.start s k ≡ is_some (entry_at list s k)

-- there is one that began with no square
abbrev pub HasCourse : ℕ → Range → Shape → SteenrodModule → Type 0 → Type 0
HasCourse workers range shape m had_text =
    (course : Course) × IsCourse workers range shape m had_text course × BeginsWith [] course

-- The course began with the squares that the file stood for. Unless the disk failed, what is left in the end stands for these and,
-- behind them, the given ones.
pub record GoesOnFrom {D : Type 0} (disk : Store D) (m : SteenrodModule) (course : Course) (given : List Entry)
    (unfailed : Type 0) (file : List ℕ) (new : D) : Type 0 where
  pub first : List Entry
  pub stood : standing_of m file ≡ Ok first
  pub begins : BeginsWith first course
  pub stands : unfailed → (c : List ℕ) → disk.images new c → standing_of m c ≡ Ok (first ++ given)

-- There is one on a disk that keeps the squares: those that its history gives were given to the save file, in its order. If there is
-- a text, or one was given, it goes on from what the disk held.
pub record HasKeptCourse {D : Type 0} (disk : Store D) (workers : ℕ) (range : Range) (shape : Shape)
    (m : SteenrodModule) (had_text unfailed : Type 0) (old new : D) : Type 0 where
  pub course : Course
  pub is : IsCourse workers range shape m had_text course
  pub given : List Entry
  pub gives : places course.bottom given ≡ given_by course.history
  pub goes_on : had_text ⊎ (given ≢ []) → (file : List ℕ) → disk.now old ≡ Some file →
      GoesOnFrom disk m course given unfailed file new

-- ---- a run

-- there is one, on a disk that keeps the squares or without one
abbrev pub HasCourseOn : {D : Type 0} → Store D → Bool → ℕ → Range → Shape → SteenrodModule →
    (had_text unfailed : Type 0) → D → D → Type 0
HasCourseOn disk true workers range shape m had_text unfailed old new =
    HasKeptCourse disk workers range shape m had_text unfailed old new
HasCourseOn disk false workers range shape m had_text unfailed old new = HasCourse workers range shape m had_text

-- there is one for what is resolved in this form, by as many workers as this says
abbrev pub HasCourseIn : {D : Type 0} → Store D → Form → Common → SteenrodModule → (had_text unfailed : Type 0) →
    D → D → Type 0
HasCourseIn disk form common m had_text unfailed old new = by_workers common ≡ true →
    HasCourseOn disk common.save common.workers common.range (shape_of form) m had_text unfailed old new

-- for a task that workers resolve
abbrev pub HasTaskCourse : {D : Type 0} → Store D → Task → Told → D → D → Type 0
HasTaskCourse disk (Resolution r) text old new =
    HasCourseIn disk r.form r.common r.resolved.plain (HasText text) (text ≢ Err Saving) old new
HasTaskCourse disk task text old new = ⊤

-- and for what is asked, where the input is these bytes
abbrev pub HasAskedCourse : {D : Type 0} → Store D → Option Plan → List ℕ → Outcome → D → D → Type 0
HasAskedCourse disk (Some (Resolve origin form common)) input outcome old new =
    (m : SteenrodModule) → IsModuleAt origin input m →
    HasCourseIn disk form common m (HasMadeText outcome) (outcome ≢ Err Saving) old new
HasAskedCourse disk asked input outcome old new = ⊤
